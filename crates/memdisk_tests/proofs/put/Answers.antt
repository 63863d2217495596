use Rattle.std.proofs.Common.{ap, ◌∙◌, is_ok, replicate}
use Rattle.deals.specs.Disk.{Disk, at}
use Rattle.memdisk_tests.proofs.Writes.{write_shows}
use Rattle.memdisk_tests.proofs.put.Goals as goal

pub returns-clause-shows : goal.returns-clause-shows
returns-clause-shows g c = write_shows c.write.ensures (ap is_ok c.in_ok-write.was) ∙ ap (λ (d : Disk). at c.args.p (replicate 512 c.args.x) d.shown) c.allow.ensures
