use Rattle.std.proofs.Common.{sym, subst}
use Rattle.deals.specs.Disk.{Disk}
use Rattle.deals.specs.Drives.{medium_of}
use Rattle.store_tests.specs.Bench.{Sane}
use Rattle.store_tests.proofs.Sanely.{sane_left}
use Rattle.store_tests.proofs.bench.Bench.up.Goals as goal

pub invariant_of-self : goal.invariant_of-self
invariant_of-self c = record { sane = subst (λ (d : Disk). Sane (medium_of d) c.args.self.now.part.now c.args.self.now.store) (sym c.allow.ensures) (sane_left _ c.args.asks _ _ c.args.self.now.sane) }
