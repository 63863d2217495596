use Rattle.std.proofs.Common.{refl, arith}
use Rattle.store_tests.proofs.Sanely.{sane_up}
use Rattle.store_tests.proofs.bench.Bench.release.Goals as goal

pub release-requires-clause-table : goal.release-requires-clause-table
release-requires-clause-table c = c.in_ok-up.ensures.up.intact.table

pub release-requires-clause-fits : goal.release-requires-clause-fits
release-requires-clause-fits c = omega (arith, (c.if-not-can_change.ensures refl).low)

pub release-requires-clause-free : goal.release-requires-clause-free
release-requires-clause-free c = c.in_ok-up.ensures.up.intact.pins

pub release-requires-clause-room : goal.release-requires-clause-room
release-requires-clause-room c = λ _. (c.if-not-can_change.ensures refl).room

pub invariant_of-self : goal.invariant_of-self
invariant_of-self c = let x = c.if-not-can_change.ensures refl in record { sane = sane_up _ _ _ (c.release.ensures.intact _ c.in_ok-up.ensures.up.intact x.calm x.low x.near) }
