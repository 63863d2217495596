use Rattle.frames.proofs.Words.{entry_read}
use Rattle.frames.proofs.layout.entry.Goals as goal

pub returns : goal.returns
returns c = entry_read c.args.part.now c.args.place c.requires.1
