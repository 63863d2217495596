use Rattle.std.proofs.Common.{◌≡◌, ℕ, ◌+◌, ◌<◌, ◌≤◌, cond, eqb, get_or}
use Rattle.memdisk.proofs.keeping.count.Given as goal

-- before k one more where the page is p
abbrev pub invariant-loop-k : goal.invariant-loop-k
invariant-loop-k l =
    ((k : ℕ) → k < l.k → get_or l.counts k 0 ≡ get_or l.initial.counts k 0 + cond (eqb l.p (get_or l.pages k 0)) 1 0)
    × ((k : ℕ) → l.k ≤ k → k < 128 → get_or l.counts k 0 ≡ get_or l.initial.counts k 0)
