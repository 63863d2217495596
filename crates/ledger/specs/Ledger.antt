-- The book: what has lasted of it on the disk, and how it stands in the room.
use Rattle.std.specs.Prelude.{◌≡◌, ℕ, ◌-◌, ◌*◌, ◌<◌, ◌≤◌, Bool, true, false, T, ◌⊎◌, List, map, length, take, drop, None, slice_index}
use Rattle.lines.specs.declared.line.Line.{Line}
use Rattle.lines.specs.declared.line.Line.TheVariants.{Wrote, Cleared}
use Rattle.lines.specs.Lines.{bare}
use Rattle.lines.specs.Tables.{tables, behind, clerks_in, deal_lines, queue_lines, QueueIn}
use Rattle.store.specs.declared.head.Record.{Record}
use Rattle.store.specs.declared.head.Record.TheVariants.{Put, Drop}
use Rattle.store.specs.Medium.{Medium, Back}
use Rattle.store.specs.State.{State, state_of, queue_by, Rested}
use Rattle.store.specs.Store.{Intact, next}
use Rattle.view.specs.Writes.{with_lines}
use Rattle.view.specs.Upkeep.{SuccOk}
use Rattle.pager.specs.Ground.{pairs_by, Grounded}
use Rattle.pager.specs.Volume.{view_of}
use Rattle.ledger.specs.declared.Ledger.{Ledger}

abbrev pub Pairs : Type 0
Pairs = List (ℕ × ℕ)

-- the store's part of the room
abbrev pub part_of : List ℕ → List ℕ
part_of room = take 62976 (behind room)

-- a record as a line that knows nothing of the tree
abbrev pub line_of : Record → Line
line_of (Put k x) = Wrote k x
line_of (Drop k) = Cleared k None

-- pairs after a row of records
abbrev pub after : Pairs → List Record → Pairs
after t rs = with_lines t (map line_of rs)

-- what has lasted: the tree's pairs, and the book
abbrev pub lasting : Medium → State
lasting m = state_of m.shown

abbrev pub last_pairs : Medium → Pairs
last_pairs m = pairs_by (lasting m).root (lasting m).page

abbrev pub book_pairs : Medium → Pairs
book_pairs m = after (last_pairs m) (lasting m).queue

-- the tree's pairs as the frames show them
abbrev pub now_pairs : Medium → List ℕ → Ledger → Pairs
now_pairs m room l = pairs_by l.store.root (view_of m (part_of room))

-- as many pairs as a tree may have on p pages, so that no page is ever wanting
abbrev pub limit : ℕ → ℕ
limit p = 84 * (p - 424)

-- however much of the row is done to t, at most n pairs are left
abbrev pub Fits : ℕ → Pairs → List Record → Type 0
Fits n t rs = (i : ℕ) → length (after t (take i rs)) ≤ n

-- what has lasted on a disk of p pages is sound
pub record Lasts (p : ℕ) (m : Medium) : Type 0 where
  pub pages : m.pages ≡ p
  pub big : 1024 ≤ p
  pub small : p ≤ 4294967296
  pub ground : Grounded p (lasting m).root (lasting m).page
  pub few : length (lasting m).queue ≤ 32768
  pub fits : Fits (limit p) (last_pairs m) (lasting m).queue

-- THE POWER HAS COME BACK, and the book is b
pub record Rests (p : ℕ) (m : Medium) (b : Pairs) : Type 0 where
  pub rested : Rested m
  pub lasts : Lasts p m
  pub book : book_pairs m ≡ b

-- THE BOOK b STANDS: on the disk, and again in the room, where the first records of the queue are worked into the frames
pub record Stands (p : ℕ) (m : Medium) (room : List ℕ) (l : Ledger) (b : Pairs) : Type 0 where
  pub lasts : Lasts p m
  pub book : book_pairs m ≡ b
  pub intact : Intact m (part_of room) l.store
  pub sealed : queue_by (next (part_of room)) m.shown ≡ (lasting m).queue
  pub ground : Grounded p l.store.root (view_of m (part_of room))
  pub done : l.store.worked ≤ length (lasting m).queue
  pub tree : now_pairs m room l ≡ after (last_pairs m) (take l.store.worked (lasting m).queue)
  pub ring : QueueIn room l.queue
  pub queue : map bare (queue_lines room l.queue) ≡ map line_of (drop l.store.worked (lasting m).queue)
  pub succs : SuccOk (now_pairs m room l) (queue_lines room l.queue)
  pub begun : T l.store.imaged → 0 < l.store.worked

-- the power is off, and whatever comes back is the book b; or b or c
pub record Cut (p : ℕ) (b : Pairs) (e : Medium) : Type 0 where
  pub off : e.on ≡ false
  pub back : (f : Medium) → Back e f → Rests p f b

pub record CutEither (p : ℕ) (b c : Pairs) (e : Medium) : Type 0 where
  pub off : e.on ≡ false
  pub back : (f : Medium) → Back e f → Rests p f b ⊎ Rests p f c

-- the book b stands again; or the power went, and it comes back
abbrev pub Stays : ℕ → Pairs → Bool → Medium → List ℕ → Ledger → Type 0
Stays p b true e room l = Stands p e room l b
Stays p b false e room l = Cut p b e

-- the book c has lasted; or the power went, and it comes back, or b does
abbrev pub Becomes : ℕ → Pairs → Pairs → Bool → Medium → List ℕ → Ledger → Type 0
Becomes p b c true e room l = Stands p e room l c
Becomes p b c false e room l = CutEither p b c e

-- nothing but the store's part of the room has changed
pub record OnlyPart (room then : List ℕ) : Type 0 where
  pub long : length then ≡ length room
  pub tables : tables then ≡ tables room
  pub clerks : clerks_in then ≡ clerks_in room

-- nothing of the deals and of the clerks' tables has changed
pub record Aside (room then : List ℕ) : Type 0 where
  pub long : length then ≡ length room
  pub deals : (c n : ℕ) → c < 32 → deal_lines then c n ≡ deal_lines room c n
  pub clerks : clerks_in then ≡ clerks_in room

-- nothing but what the lines of deals, of which each has as many as ns says, tell of the tree; that is right for the tree u if it was for t
pub record Upkept (ns : List ℕ) (t u : Pairs) (room then : List ℕ) : Type 0 where
  pub long : length then ≡ length room
  pub deals : (c : ℕ) → c < 32 → map bare (deal_lines then c (slice_index ns c)) ≡ map bare (deal_lines room c (slice_index ns c))
  pub succs : (c : ℕ) → c < 32 → SuccOk t (deal_lines room c (slice_index ns c)) → SuccOk u (deal_lines then c (slice_index ns c))
  pub clerks : clerks_in then ≡ clerks_in room
