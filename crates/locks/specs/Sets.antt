-- A set of clerks as the bits of a word.
use Rattle.std.specs.Prelude.{ℕ, zero, suc, ◌/◌, ◌%◌, ◌^◌, Bool, false, ◌&&◌, ◌||◌, ◌==◌, nat_lt}
use Rattle.locks.specs.declared.set.ClerkSet.{ClerkSet}

abbrev pub bit : ℕ → ℕ → Bool
bit m e = m / 2 ^ e % 2 == 1

unfoldable pub has : ℕ → ℕ → Bool
has m e = nat_lt e 32 && bit m e

-- clerk e is in the set
abbrev pub is_in : ClerkSet → ℕ → Bool
is_in s e = has s.bits e

-- one of the first n
unfoldable pub some_of : ℕ → (ℕ → Bool) → Bool
some_of zero f = false
some_of (suc n) f = some_of n f || f n
