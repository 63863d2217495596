-- A part in a lent slice.
use Rattle.std.specs.Prelude.{ℕ, List}
use Rattle.std.specs.Borrow.{Lends, Array, u64, MutBor, Fml}

-- the slice ends as what the part ends as
abbrev pub LendsPart : MutBor (List ℕ) → MutBor (List ℕ) → Fml
LendsPart words part = Lends (Array u64 0) (Array u64 0) words part (λ ws. ws)
