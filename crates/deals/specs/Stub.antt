-- The office until the engine is there: a set of clerks who wait for their answer, as the bits of a word.
-- Assumes nothing.
use Rattle.std.specs.Prelude.{ℕ, ◌-◌, ◌^◌, cond, Some, None, Option, ◌==◌, bit_and, bit_or, nat_lt}
use Rattle.std.specs.Int.Count.{count_trailing_zeros}
use Rattle.deals.specs.declared.Answer.{Answer}
use Rattle.deals.specs.declared.Answer.TheVariants.{No}

-- with one more who waits
abbrev pub joined : ℕ → ℕ → ℕ
joined waiting who = cond (nat_lt who 32) (bit_or waiting (2 ^ who)) waiting

-- the first who waits is told that nothing is built
abbrev pub first_told : ℕ → Option (ℕ × Answer)
first_told waiting = cond (waiting == 0) None (Some (count_trailing_zeros 32 waiting, No 9))

-- the others, who wait on
abbrev pub others : ℕ → ℕ
others waiting = bit_and waiting (waiting - 1)
