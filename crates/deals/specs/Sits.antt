-- What holds of the office between two turns, and of the disk when the power has come back.
use Rattle.std.specs.Prelude.{◌≡◌, ℕ, zero, suc, ◌+◌, ◌<◌, ◌≤◌, Bool, true, false, cond, T, List, [], ◌∷◌, length, Option, ◌≢◌}
use Rattle.lines.specs.declared.line.Line.{Line}
use Rattle.lines.specs.declared.line.Line.TheVariants.{Idle, Wrote, Cleared, Stale, Read, Scanned, Marked}
use Rattle.locks.specs.declared.graph.Pick.{Pick}
use Rattle.store.specs.Medium.{Medium}
use Rattle.view.specs.Upkeep.{SuccOk}
use Rattle.ledger.specs.declared.Ledger.{Ledger}
use Rattle.ledger.specs.Ledger.{Pairs, Rests, Stands, Aside, Upkept, lasting, now_pairs, limit}
use Rattle.deals.specs.declared.Op.{Op}
use Rattle.deals.specs.declared.Answer.{Answer}
use Rattle.deals.specs.declared.engine.Office.{Office}
use Rattle.deals.specs.Disk.{Disk}
use Rattle.deals.specs.Drives.{medium_of}
use Rattle.deals.specs.Deals.{Book, Event, State, Run, agrees, comes_to}
use Rattle.deals.specs.Promise.{can, bars_none}
use Rattle.deals.specs.Books.{Up}
use Rattle.deals.specs.Writes.{Write, Puts, Drops, effect}
use Rattle.deals.specs.Tables.{lines_in, op_at, order_of}
use Rattle.deals.specs.LineUps.{TablesHold, Served}
use Rattle.deals.specs.Holds.{is_over, Tells, Alone}
use Rattle.deals.specs.Paired.{book_of}

-- THE DISCIPLINE: every deal agrees, and none is in another's way
pub record Apart (s : State) : Type 0 where
  pub up : Up 0 s.book
  pub agree : (c : ℕ) → T (agrees (s.clerk c).deal s.book [])
  pub apart : (c e : ℕ) → (c ≢ e) → T (bars_none (s.clerk c).deal (s.clerk e).deal)

-- THE SUMS: of all deals under way, the writes in effect, and the puts among them
unfoldable pub sum_to : ℕ → (ℕ → ℕ) → ℕ
sum_to zero f = 0
sum_to (suc n) f = sum_to n f + f n

unfoldable pub puts_in : List Write → ℕ
puts_in [] = 0
puts_in (Puts k x ∷ ws) = suc (puts_in ws)
puts_in (Drops k ∷ ws) = puts_in ws

-- a line that puts
abbrev pub is_put_line : Line → Bool
is_put_line Idle = false
is_put_line (Wrote k x) = true
is_put_line (Cleared k s) = false
is_put_line (Stale k) = false
is_put_line (Read k) = false
is_put_line (Scanned k f) = false
is_put_line Marked = false

abbrev pub open_writes : State → ℕ
open_writes s = sum_to 32 (λ c. length (effect (s.clerk c).deal))

abbrev pub open_puts : State → ℕ
open_puts s = sum_to 32 (λ c. puts_in (effect (s.clerk c).deal))

-- with the records of the durable queue
abbrev pub records_in : Disk → State → ℕ
records_in d s = open_writes s + length (lasting (medium_of d)).queue

-- WHEN THE POWER HAS COME BACK to a disk of p pages, its book is b
pub record Lasting (p : ℕ) (d : Disk) (b : Book) : Type 0 where
  pub pairs : Pairs
  pub rests : Rests p (medium_of d) pairs
  pub book : book_of pairs ≡ b

-- ALL THAT HOLDS in a turn and between two. more says whether a turn has gone since one was served: until then there may be one record more.
pub record Seated (more : Bool) (p : ℕ) (f : Office) (room : List ℕ) (d : Disk) (s : State) : Type 0 where
  pub tables : TablesHold can more room s
  pub apart : Apart s
  pub pairs : Pairs
  pub stands : Stands p (medium_of d) room f.ledger pairs
  pub book : book_of pairs ≡ s.book
  pub succs : (c : ℕ) → c < 32 → SuccOk (now_pairs (medium_of d) room f.ledger) (lines_in room c)
  pub records : records_in d s ≤ cond more 32768 32769
  pub room_left : length s.book + open_puts s ≤ limit p
  pub writes : f.tally.writes ≡ open_writes s
  pub puts : f.tally.puts ≡ open_puts s

-- BETWEEN TWO TURNS: nobody is still to be told
pub record Sits (p : ℕ) (f : Office) (room : List ℕ) (d : Disk) (s : State) : Type 0 where
  pub seated : Seated true p f room d s
  pub told : (c : ℕ) → is_over (s.clerk c).now' ≡ false

-- IN A TURN, when it's clear that x is what is to be told
pub record Answered (p : ℕ) (es : List Event) (f : Office) (room : List ℕ) (d : Disk) (x : Option (ℕ × Answer)) : Type 0 where
  pub to : State
  pub run : Run can p es to
  pub seated : Seated false p f room d to
  pub tells : Tells x to
  pub alone : Alone x to

-- and work has brought the records back to what a commit finds room for
pub record Worked (p : ℕ) (es : List Event) (f : Office) (room : List ℕ) (d : Disk) (x : Option (ℕ × Answer)) : Type 0 where
  pub answered : Answered p es f room d x
  pub few : records_in d answered.to ≤ 32768

-- WHAT WORK MUST SAY of the ledger: the book stands, the deals' lines are kept right, and the durable queue leaves room for what is open
pub record Toiled (p : ℕ) (m : Medium) (room : List ℕ) (l : Ledger) (e : Medium) (then : List ℕ) (k : Ledger) (ns : List ℕ) (pending : ℕ) (t : Pairs) : Type 0 where
  pub stands : Stands p e then k t
  pub kept : Upkept ns (now_pairs m room l) (now_pairs e then k) room then
  pub brim : pending + length (lasting m).queue ≤ 32769 → pending + length (lasting e).queue ≤ 32768

-- THE ONE PICKED IS TO BE SERVED
pub record Serving (p : ℕ) (es : List Event) (f : Office) (room : List ℕ) (d : Disk) (pick : Pick) (s : State) : Type 0 where
  pub run : Run can p es s
  pub sits : Sits p f room d s
  pub served : Served can s (order_of room) pick

-- and nothing is in its way, nor is it turned away
pub record GoesOn (p : ℕ) (es : List Event) (f : Office) (room : List ℕ) (d : Disk) (pick : Pick) (o : Op) (s : State) : Type 0 where
  pub serving : Serving p es f room d pick s
  pub asks : op_at room pick.who ≡ o
  pub calm : pick.clash ≡ false
  pub comes : T (comes_to can o (s.clerk pick.who).deal)

-- WHAT A LOOK AT THE LEDGER MUST SAY, beside what it found: nothing but frames has changed
pub record Looked (p : ℕ) (m : Medium) (room : List ℕ) (l : Ledger) (e : Medium) (then : List ℕ) (k : Ledger) (t : Pairs) : Type 0 where
  pub stands : Stands p e then k t
  pub aside : Aside room then
  pub tree : now_pairs e then k ≡ now_pairs m room l
  pub queue : (lasting e).queue ≡ (lasting m).queue
