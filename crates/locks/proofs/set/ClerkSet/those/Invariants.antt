use Rattle.std.proofs.Common.{◌≡◌, ℕ, ◌<◌, ◌≤◌, false}
use Rattle.locks.specs.Sets.{is_in}
use Rattle.locks.proofs.set.ClerkSet.those.Given as goal

-- of each below the number it's known whether it is taken in, and nobody else is
abbrev pub invariant-loop-number : goal.invariant-loop-number
invariant-loop-number g l = record {
  each : (k : ℕ) → k < l.number → goal.F-post g l.choose k (is_in l.set k);
  past : (k : ℕ) → l.number ≤ k → is_in l.set k ≡ false;
}
