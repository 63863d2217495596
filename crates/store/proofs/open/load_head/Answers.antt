use Rattle.std.proofs.Common.{◌≡◌, length, ◌∙◌}
use Rattle.store.proofs.Places.{length_next, put_next}
use Rattle.store.proofs.open.load_head.Goals as goal

pub returns-clause-reads : goal.returns-clause-reads
returns-clause-reads g c =
    let part = c.args.part.now in
    let l : length c.read.new.into ≡ 512 = c.read.auto.into ∙ length_next part c.told-part in
    rw (put_next part c.told-part c.read.new.into l) c.read.ensures.reads
