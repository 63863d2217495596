use Rattle.std.proofs.Common.{ℕ, ◌-◌}
use Rattle.deals.specs.Holds.{HoldsBook}
use Rattle.deals.specs.Sits.{Lasting}
use Rattle.deals.proofs.lives.days.Given as goal

abbrev pub invariant-loop-n : goal.invariant-loop-n
invariant-loop-n g l = (p : ℕ) × HoldsBook p (g.C.Clerks.seen l.c) (Lasting p (g.D.Pages.disk l.d))

abbrev pub decreases-loop-n : goal.decreases-loop-n
decreases-loop-n g l = l.lives - l.n
