-- What a line buffer holds, seen as the line so far; None where it is too long.
-- Assumes nothing.
use Rattle.std.specs.Prelude.{ℕ, cond, List, [], ◌∷◌, ◌++◌, length, Some, None, Option, nat_lt}

-- with one byte more
abbrev pub with : ℕ → Option (List ℕ) → Option (List ℕ)
with x None = None
with x (Some t) = cond (nat_lt (length t) 64) (Some (t ++ (x ∷ []))) None
