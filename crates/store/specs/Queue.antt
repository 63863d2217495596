-- The queue as it is read page by page: the ring's full pages from the first on, and then the next head.
use Rattle.std.specs.Prelude.{◌≡◌, ℕ, ◌+◌, ◌-◌, ◌*◌, ◌<◌, ◌≤◌, cond, List, length, ◌==◌, nat_lt, slice_index_or}
use Rattle.std.specs.declared.ops.Range.{Range}
use Rattle.store.specs.declared.head.Record.{Record}
use Rattle.store.specs.declared.Store.{Store}
use Rattle.store.specs.Medium.{Medium}
use Rattle.store.specs.Head.{Head, record_at}
use Rattle.store.specs.State.{queue_by}
use Rattle.store.specs.Store.{next, next_of, frames_of, scratch_of, Intact}

-- The page w is page i of the queue: at the places r of it stand the queue's records from number 128 * i on, less those that are done.
-- Only the first page has any that are done.
pub record QueuePage (h : Head) (s : ℕ → List ℕ) (i : ℕ) (r : Range ℕ) (w : List ℕ) : Type 0 where
  pub start : r.start ≡ cond (i == 0) h.done 0
  pub end : r.end ≡ cond (nat_lt i h.full) 128 (length h.own)
  pub within : (r.start ≤ r.end) × (r.end ≤ 128)
  pub each : (j : ℕ) → r.start ≤ j → j < r.end → (d : Record) → slice_index_or (queue_by h s) (128 * i + j - h.done) d ≡ record_at w j

-- page i of the queue is in the scratch, and nothing else has changed
pub record Loaded (m : Medium) (p : List ℕ) (s : Store) (i : ℕ) (r : Range ℕ) (e : Medium) (q : List ℕ) : Type 0 where
  pub page : QueuePage (next p) m.shown i r (scratch_of q)
  pub pages : e.pages ≡ m.pages
  pub shown : e.shown ≡ m.shown
  pub intact : Intact e q s
  pub head : next_of q ≡ next_of p
  pub frames : frames_of q ≡ frames_of p
  pub left : m.left ≤ e.left + 1
