use Rattle.frames.proofs.Words.{marks_cleared}
use Rattle.frames.proofs.layout.clear_marks.Goals as goal

pub returns : goal.returns
returns c = marks_cleared c.args.part.now c.fill.new.self c.requires (c.fill.ensures.after (λ y e. e))
