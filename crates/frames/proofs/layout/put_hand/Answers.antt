use Rattle.frames.proofs.Words.{hand_set}
use Rattle.frames.proofs.layout.put_hand.Goals as goal

pub returns : goal.returns
returns c = rw c.number.ensures.is (hand_set c.args.part.now c.args.slot c.requires)
