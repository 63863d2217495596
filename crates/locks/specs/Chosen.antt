-- Who is chosen.
use Rattle.std.specs.Prelude.{◌≡◌, ℕ, ◌<◌, Bool, true, false, List, length, Some, None, Option, slice_index, slice_index_or}
use Rattle.locks.specs.declared.graph.Pick.{Pick}
use Rattle.locks.specs.Sets.{some_of}
use Rattle.locks.specs.Graphs.{counts_by}

-- the first in the order who counts
pub record First (w : ℕ → ℕ → Bool) (order : List ℕ) (p : Pick) : Type 0 where
  pub among : p.place < length order
  pub there : slice_index_or order p.place 0 ≡ p.who
  pub few : p.who < 32
  pub clash : p.clash ≡ some_of 32 (w p.who)
  pub counts : counts_by w p.who ≡ true
  pub before : (k : ℕ) → k < p.place → counts_by w (slice_index order k) ≡ false

unfoldable pub Chosen : (ℕ → ℕ → Bool) → List ℕ → Option Pick → Type 0
Chosen w order None = (k : ℕ) → k < length order → counts_by w (slice_index order k) ≡ false
Chosen w order (Some p) = First w order p
