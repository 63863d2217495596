use Rattle.frames.proofs.Words.{count_read}
use Rattle.frames.proofs.layout.count.Goals as goal

pub returns : goal.returns
returns c = count_read c.args.part.now
