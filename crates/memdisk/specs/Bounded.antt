-- A list, and how many items there is room for.
-- Assumes nothing.
use Rattle.std.specs.Prelude.{ℕ, List}

pub record Bounded (T : Type 0) : Type 0 where
  pub items : List T
  pub room : ℕ
