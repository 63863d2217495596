use Rattle.std.proofs.Common.{ℕ, ◌-◌}
use Rattle.deals.specs.Holds.{Holds}
use Rattle.deals.specs.Sits.{Sits}
use Rattle.deals.proofs.lives.serve.Given as goal

abbrev pub invariant-loop-t : goal.invariant-loop-t
invariant-loop-t g l =
    (p : ℕ) → Holds p (g.C.Clerks.seen l.initial.c) (Sits p l.initial.f l.initial.room (g.D.Pages.disk l.initial.d)) → Holds p (g.C.Clerks.seen l.c) (Sits p l.f l.room (g.D.Pages.disk l.d))

abbrev pub decreases-loop-t : goal.decreases-loop-t
decreases-loop-t g l = l.turns - l.t
