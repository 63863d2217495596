-- Pairs of a key and a word, with rising keys: what a tree means.
use Rattle.std.specs.Prelude.{ℕ, suc, ◌≤◌, cond, List, [], ◌∷◌, Some, None, Option, ◌==◌, nat_lt}

-- keys rise, from lo on, and stay below hi
abbrev pub Up : ℕ → ℕ → List (ℕ × ℕ) → Type 0
Up lo hi [] = lo ≤ hi
Up lo hi (e ∷ es) = (lo ≤ e.0) × Up (suc e.0) hi es

-- the word at k
abbrev pub find : ℕ → List (ℕ × ℕ) → Option ℕ
find k [] = None
find k (e ∷ es) = cond (e.0 == k) (Some e.1) (find k es)

-- the first pair
abbrev pub first : List (ℕ × ℕ) → Option (ℕ × ℕ)
first [] = None
first (e ∷ es) = Some e

-- the first pair with a key above k
abbrev pub above : ℕ → List (ℕ × ℕ) → Option (ℕ × ℕ)
above k [] = None
above k (e ∷ es) = cond (nat_lt k e.0) (Some e) (above k es)

abbrev pub put_in : ℕ → ℕ → List (ℕ × ℕ) → List (ℕ × ℕ)
put_in k x [] = (k, x) ∷ []
put_in k x (e ∷ es) = cond (nat_lt e.0 k) (e ∷ put_in k x es) (cond (e.0 == k) ((k, x) ∷ es) ((k, x) ∷ (e ∷ es)))

abbrev pub drop_in : ℕ → List (ℕ × ℕ) → List (ℕ × ℕ)
drop_in k [] = []
drop_in k (e ∷ es) = cond (e.0 == k) es (e ∷ drop_in k es)
