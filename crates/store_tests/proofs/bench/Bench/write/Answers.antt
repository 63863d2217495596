use Rattle.std.proofs.Common.{refl, arith}
use Rattle.store_tests.proofs.Sanely.{sane_up}
use Rattle.store_tests.proofs.bench.Bench.write.Goals as goal

pub write_page-requires-clause-table : goal.write_page-requires-clause-table
write_page-requires-clause-table c = c.in_ok-up.ensures.up.intact.table

pub write_page-requires-clause-fits : goal.write_page-requires-clause-fits
write_page-requires-clause-fits c = (omega (arith, (c.if-not-can_change.ensures refl).low), c.told-words)

pub write_page-requires-clause-free : goal.write_page-requires-clause-free
write_page-requires-clause-free c = c.in_ok-up.ensures.up.intact.pins

pub write_page-requires-clause-room : goal.write_page-requires-clause-room
write_page-requires-clause-room c = λ _. (c.if-not-can_change.ensures refl).room

pub invariant_of-self : goal.invariant_of-self
invariant_of-self c = let x = c.if-not-can_change.ensures refl in record { sane = sane_up _ _ _ (c.write_page.ensures.staged _ _ c.in_ok-up.ensures.up.intact x.calm x.low x.near).intact }
