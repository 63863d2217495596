use Rattle.store_tests.proofs.Sanely.{sane_noted}
use Rattle.store_tests.proofs.bench.Bench.root_at.Goals as goal

pub invariant_of-self : goal.invariant_of-self
invariant_of-self c = record { sane = sane_noted _ _ c.args.self.now.store _ _ c.args.self.now.sane }
