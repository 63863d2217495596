use Rattle.frames.proofs.Words.{entry_set}
use Rattle.frames.proofs.layout.put_entry.Goals as goal

pub returns : goal.returns
returns c = rw c.number.ensures.is (entry_set c.args.part.now c.args.place c.args.slot c.requires.1)
