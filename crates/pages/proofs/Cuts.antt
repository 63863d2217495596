-- The length of a cut.
use Rattle.std.proofs.Common.{◌≡◌, ◌+◌, ◌-◌, ℕ, arith}

pub cut_len : (a n : ℕ) → a + n - a ≡ n
cut_len a n = omega arith
