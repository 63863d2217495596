-- A text's first word.
-- Assumes nothing.
use Rattle.std.specs.Prelude.{◌≡◌, ℕ, ◌<◌, ◌≤◌, List, length, ◌≢◌, slice_index}

-- it ends at the first space, or where the text does
pub record WordEnd (text : List ℕ) (e : ℕ) : Type 0 where
  pub within : e ≤ length text
  pub before : (k : ℕ) → k < e → slice_index text k ≢ 32
  pub stops : e < length text → slice_index text e ≡ 32
