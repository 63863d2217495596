use Rattle.frames.proofs.Words.{hand_read}
use Rattle.frames.proofs.layout.hand.Goals as goal

pub returns : goal.returns
returns c = hand_read c.args.part.now
