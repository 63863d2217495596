-- A deal's writes as records of the queue, when they may join it, and how they last.
use Rattle.std.specs.Prelude.{◌≡◌, ℕ, ◌+◌, ◌≤◌, Bool, true, false, cond, ◌&&◌, ◌⊎◌, List, [], ◌∷◌, ◌++◌, length, Some, None, Option, is_some}
use Rattle.std.specs.List.{filter_map, list_any}
use Rattle.lines.specs.declared.line.Line.{Line}
use Rattle.lines.specs.declared.line.Line.TheVariants.{Idle, Wrote, Cleared, Stale, Read, Scanned, Marked}
use Rattle.lines.specs.Tables.{queue_lines}
use Rattle.store.specs.declared.head.Record.{Record}
use Rattle.store.specs.declared.head.Record.TheVariants.{Put, Drop}
use Rattle.store.specs.declared.Store.{Store}
use Rattle.store.specs.Medium.{Medium}
use Rattle.store.specs.Store.{Appended, Lost, Seals, Takes, cache}
use Rattle.view.specs.Adds.{writing}
use Rattle.ledger.specs.declared.Ledger.{Ledger}
use Rattle.ledger.specs.Ledger.{part_of, now_pairs, limit}

-- a line as a record, where it writes
abbrev pub record_by : Line → Option Record
record_by Idle = None
record_by (Wrote k x) = Some (Put k x)
record_by (Cleared k s) = Some (Drop k)
record_by (Stale k) = None
record_by (Read k) = None
record_by (Scanned k q) = None
record_by Marked = None

abbrev pub records_by : List Line → List Record
records_by ls = filter_map record_by ls

-- is there any
abbrev pub writes_any : List Line → Bool
writes_any ls = list_any (λ l. is_some (record_by l)) ls

-- how many puts are among lines
abbrev pub put_of : Line → ℕ
put_of Idle = 0
put_of (Wrote k x) = 1
put_of (Cleared k s) = 0
put_of (Stale k) = 0
put_of (Read k) = 0
put_of (Scanned k q) = 0
put_of Marked = 0

abbrev pub puts_in : List Line → ℕ
puts_in [] = 0
puts_in (l ∷ ls) = put_of l + puts_in ls

-- THE SUMS: what the lines ls write may join the durable queue, and the tree may take in all of it
pub record Allows (m : Medium) (room : List ℕ) (l : Ledger) (ls : List Line) : Type 0 where
  pub records : l.store.worked + (l.queue.count + length (writing ls)) ≤ 32768
  pub pairs : length (now_pairs m room l) + (puts_in (queue_lines room l.queue) + puts_in ls) ≤ limit m.pages

-- the records rs have joined the next head, or the power went
abbrev pub AppendsAll : Medium → List ℕ → Store → List Record → Bool → Medium → List ℕ → Store → Type 0
AppendsAll m p s rs true e q z = Appended m p s rs e q z
AppendsAll m p s rs false e q z = Lost m e

-- a batch whose images have lasted is taken with the next head
abbrev pub takes_along : Store → Bool
takes_along s = s.imaged && s.lasted

-- the next head has lasted, with the batch or without
abbrev pub Settles : Medium → List ℕ → Store → Bool → Medium → List ℕ → Store → Type 0
Settles m p s ok e q z = Takes m p s ok e q z ⊎ (Seals m p s ok e z × (q ≡ p))

-- as many askings at most
abbrev pub settle_asks : List ℕ → Store → ℕ
settle_asks p s = 3 + cond (takes_along s) (cache p).count 0

-- what the lines `own` write has joined the room's queue, and the tree has the same pairs
pub record Joined (m : Medium) (room : List ℕ) (l : Ledger) (own : List Line) (e : Medium) (then : List ℕ) (k : Ledger) : Type 0 where
  pub tree : now_pairs e then k ≡ now_pairs m room l
  pub queue : queue_lines then k.queue ≡ queue_lines room l.queue ++ writing own
  pub worked : k.store.worked ≤ l.store.worked

-- the askings of a commit at most
abbrev pub commit_asks : List ℕ → Ledger → ℕ
commit_asks room l = 9 + settle_asks (part_of room) l.store
