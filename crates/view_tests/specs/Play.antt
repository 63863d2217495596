-- What the play keeps: each dropped key has the tree's first key above it, in the queue and in all deals.
use Rattle.std.specs.Prelude.{ℕ, ◌<◌, List, slice_index}
use Rattle.lines.specs.declared.ring.Ring.{Ring}
use Rattle.lines.specs.Tables.{deal_lines, queue_lines, QueueIn}
use Rattle.view.specs.Asks.{Asks}
use Rattle.view.specs.Room.{Counts}
use Rattle.view.specs.Upkeep.{SuccOk}
use Rattle.view.specs.Writes.{Rising}

-- no disk is asked
abbrev pub free : Asks
free = record { left = 0; get = 0; next = 0; change = 0 }

-- what clauses see of a play: the pairs that are found by the queue and the tree, and the queue's ring
pub record Found : Type 0 where
  pub pairs : List (ℕ × ℕ)
  pub ring : Ring

pub record Sane (t : List (ℕ × ℕ)) (room ns : List ℕ) (q : Ring) : Type 0 where
  pub counts : Counts ns
  pub queue : QueueIn room q
  pub up : Rising t
  pub queued : SuccOk t (queue_lines room q)
  pub deals : (c : ℕ) → c < 32 → SuccOk t (deal_lines room c (slice_index ns c))
