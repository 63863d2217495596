-- Books: keys that rise, what is found at a key, a book after a put and after a drop, the next key.
use Rattle.std.specs.Prelude.{◌≡◌, ℕ, suc, ◌<◌, ◌≤◌, [], ◌∷◌, ◌++◌}
use Rattle.deals.specs.declared.Answer.{Answer}
use Rattle.deals.specs.declared.Answer.TheVariants.{Missing, Word, Pair}
use Rattle.deals.specs.Deals.{Two, Book, below, from, keyless, word_of, pair_of}

-- keys rise, from n on
abbrev pub Up : ℕ → Book → Type 0
Up n [] = Unit {0}
Up n (p ∷ ps) = (n ≤ p.key) × Up (suc p.key) ps

-- what is found at a key
abbrev pub find : ℕ → Book → Answer
find k b = word_of k (from k b)

abbrev pub two : ℕ → ℕ → Two
two k x = record { key = k; word = x }

abbrev pub put_in : ℕ → ℕ → Book → Book
put_in k x b = below k b ++ (two k x ∷ keyless k (from k b))

abbrev pub drop_in : ℕ → Book → Book
drop_in k b = below k b ++ keyless k (from k b)

-- THE NEXT KEY. What is told of it, by what is found at each key.
pub data IsNext (f : ℕ → Answer) (k : ℕ) : Answer → Type 0 where
  none : ((j : ℕ) → k < j → f j ≡ Missing) → IsNext f k Missing
  some : (l x : ℕ) → k < l → f l ≡ Word x → ((j : ℕ) → k < j → j < l → f j ≡ Missing) → IsNext f k (Pair l x)

abbrev pub next_in : ℕ → Book → Answer
next_in k b = pair_of (from (suc k) b)
