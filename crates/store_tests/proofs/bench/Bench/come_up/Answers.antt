use Rattle.std.proofs.Common.{subst, sym}
use Rattle.deals.specs.Disk.{Disk}
use Rattle.deals.specs.Drives.{medium_of}
use Rattle.deals.proofs.Drives.{back}
use Rattle.store.specs.State.{Rested}
use Rattle.store_tests.proofs.Sanely.{rested_left}
use Rattle.store_tests.proofs.bench.Bench.come_up.Goals as goal

pub open-requires-clause-rested : goal.open-requires-clause-rested
open-requires-clause-rested c =
    subst (λ (d : Disk). Rested (medium_of d)) (sym c.allow.ensures) (rested_left _ 129 (c.args.self.now.sane.down _ (back c.back.ensures.back)))
