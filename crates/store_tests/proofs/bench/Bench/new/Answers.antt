use Rattle.memdisk.specs.Memory.{disk_of}
use Rattle.store_tests.proofs.Sanely.{sane_new}
use Rattle.store_tests.proofs.bench.Bench.new.Goals as goal

pub invariant_of-result : goal.invariant_of-result
invariant_of-result c = record { sane = sane_new (disk_of c.args.disk) (disk_of c.set_cut.new.self) _ _ c.requires c.set_cut.ensures.disk }
