-- Coming up: the store stands, then the durable queue is taken into the room, and then its drops are told of the tree.
use Rattle.std.specs.Prelude.{◌≡◌, ℕ, ◌+◌, ◌-◌, ◌*◌, Bool, true, false, List, map}
use Rattle.std.specs.List.{range_with_len}
use Rattle.std.specs.declared.ops.Range.{Range}
use Rattle.lines.specs.declared.line.Line.{Line}
use Rattle.lines.specs.declared.line.Line.TheVariants.{Idle, Wrote, Cleared, Stale, Read, Scanned, Marked}
use Rattle.lines.specs.declared.ring.Ring.{Ring}
use Rattle.lines.specs.Tables.{queue_lines, QueueIn}
use Rattle.store.specs.declared.head.Record.{Record}
use Rattle.store.specs.declared.Store.{Store}
use Rattle.store.specs.Medium.{Medium}
use Rattle.store.specs.Head.{record_at}
use Rattle.store.specs.State.{queue_by}
use Rattle.store.specs.Store.{Intact, next}
use Rattle.view.specs.Upkeep.{next_key}
use Rattle.pager.specs.Ground.{pairs_by, Grounded}
use Rattle.pager.specs.Volume.{view_of}
use Rattle.ledger.specs.Ledger.{Pairs, part_of, line_of, lasting, last_pairs, book_pairs, Lasts, Cut}

-- the head and the last batch; each page of the queue; the tree's pages on the way to two leaves, for each record that is a drop
abbrev pub open_asks : ℕ
open_asks = 129 + 264 + 11 * 32768

-- the book b stands on the disk and in the store's part, where nothing is worked in; of the room's queue nothing is said
pub record Raised (p : ℕ) (m : Medium) (part : List ℕ) (s : Store) (b : Pairs) : Type 0 where
  pub lasts : Lasts p m
  pub book : book_pairs m ≡ b
  pub intact : Intact m part s
  pub sealed : queue_by (next part) m.shown ≡ (lasting m).queue
  pub ground : Grounded p s.root (view_of m part)
  pub tree : pairs_by s.root (view_of m part) ≡ last_pairs m
  pub none : s.worked ≡ 0
  pub plain : s.imaged ≡ false

-- so it does; or the power went, and the book comes back
abbrev pub RaisedOr : ℕ → Pairs → Bool → Medium → List ℕ → Store → Type 0
RaisedOr p b true m part s = Raised p m part s b
RaisedOr p b false m part s = Cut p b m

-- and the room's queue r has the durable queue's records, which know nothing of the tree yet
pub record Queued (p : ℕ) (m : Medium) (room : List ℕ) (s : Store) (b : Pairs) (r : Ring) : Type 0 where
  pub raised : Raised p m (part_of room) s b
  pub ring : QueueIn room r
  pub lines : queue_lines room r ≡ map line_of (lasting m).queue

-- the records of a page at the places r
abbrev pub records_at : List ℕ → Range ℕ → List Record
records_at w r = map (record_at w) (range_with_len r.start (r.end - r.start))

-- a line that knows what the tree has above its key, where it's a drop
abbrev pub told : Pairs → Line → Line
told t Idle = Idle
told t (Wrote k x) = Wrote k x
told t (Cleared k s) = Cleared k (next_key k t)
told t (Stale k) = Stale k
told t (Read k) = Read k
told t (Scanned k q) = Scanned k q
told t Marked = Marked
