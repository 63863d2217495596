-- A record of the queue goes into the tree in the frames.
use Rattle.std.specs.Prelude.{◌≡◌, ℕ, ◌+◌, ◌<◌, ◌≤◌, List, length, slice_index}
use Rattle.lines.specs.declared.ring.Ring.{Ring}
use Rattle.lines.specs.Tables.{deal_lines, queue_lines, QueueIn}
use Rattle.store.specs.declared.Store.{Store}
use Rattle.store.specs.Medium.{Medium}
use Rattle.view.specs.Room.{Applied}
use Rattle.view.specs.Upkeep.{SuccOk}
use Rattle.pager.specs.Volume.{pairs_in}
use Rattle.pager.specs.Volume as pager
use Rattle.ledger.specs.declared.Ledger.{Ledger}
use Rattle.ledger.specs.Ledger.{part_of, now_pairs, limit}

-- the askings that it takes at most
abbrev pub work_asks : ℕ
work_asks = 24

-- there is one, and there is room for it: no images stand, the batch has places, and the tree may grow
pub record Workable (m : Medium) (room : List ℕ) (l : Ledger) : Type 0 where
  pub some : 0 < l.queue.count
  pub spare : pager.Ready 13 (part_of room) l.store
  pub pairs : length (now_pairs m room l) < limit m.pages

-- one record more is worked in
pub record Worked (l k : Ledger) : Type 0 where
  pub worked : k.store.worked ≡ l.store.worked + 1
  pub queue : k.queue.count + 1 ≡ l.queue.count

-- the front of the queue r has gone into the tree: s is what is left
pub record Goes (ns : List ℕ) (r : Ring) (m : Medium) (room : List ℕ) (s : Store) (e : Medium) (then : List ℕ) (z : Store) (q : Ring) : Type 0 where
  pub applied : Applied (pairs_in m (part_of room) s) (pairs_in e (part_of then) z) room then ns r q
  pub succs : SuccOk (pairs_in e (part_of then) z) (queue_lines then q)
  pub deals : (c : ℕ) → c < 32 → SuccOk (pairs_in m (part_of room) s) (deal_lines room c (slice_index ns c)) → SuccOk (pairs_in e (part_of then) z) (deal_lines then c (slice_index ns c))
  pub ring : QueueIn then q
  pub count : q.count + 1 ≡ r.count
  pub left : m.left ≤ e.left + work_asks
