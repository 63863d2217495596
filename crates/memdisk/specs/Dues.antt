-- The cuts that are set, in the order in which they were set.
-- Assumes nothing.
use Rattle.std.specs.Prelude.{ℕ, ◌-◌, cond, List, [], ◌∷◌, Some, None, Option, nat_le}
use Rattle.memdisk.specs.declared.cuts.Due.{Due}

-- One asking later: those that come then are gone, and the others are one asking nearer.
unfoldable pub later : List Due → List Due
later [] = []
later (d ∷ ds) = cond (nat_le d.asks 1) (later ds) (record { asks = d.asks - 1; choice = d.choice } ∷ later ds)

-- the choice of the last of those that come with the next asking, or else o
unfoldable pub coming_or : Option ℕ → List Due → Option ℕ
coming_or o [] = o
coming_or o (d ∷ ds) = coming_or (cond (nat_le d.asks 1) (Some d.choice) o) ds

abbrev pub coming : List Due → Option ℕ
coming ds = coming_or None ds
