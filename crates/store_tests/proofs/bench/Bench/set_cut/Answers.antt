use Rattle.std.proofs.Common.{subst, sym}
use Rattle.deals.specs.Disk.{Disk}
use Rattle.deals.specs.Drives.{medium_of}
use Rattle.store_tests.specs.Bench.{Sane}
use Rattle.store_tests.proofs.Sanely.{sane_set}
use Rattle.store_tests.proofs.bench.Bench.set_cut.Goals as goal

pub invariant_of-self : goal.invariant_of-self
invariant_of-self c = record { sane = subst (λ (d : Disk). Sane (medium_of d) c.args.self.now.part.now c.args.self.now.store) (sym c.set_cut.ensures.disk) (sane_set _ c.args.n _ _ c.args.self.now.sane) }
