use Rattle.frames.proofs.Words.{count_set}
use Rattle.frames.proofs.layout.put_count.Goals as goal

pub returns : goal.returns
returns c = count_set c.args.part.now c.args.n c.requires
