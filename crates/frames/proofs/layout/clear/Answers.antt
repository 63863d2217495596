use Rattle.frames.proofs.Words.{table_cleared}
use Rattle.frames.proofs.layout.clear.Goals as goal

pub returns : goal.returns
returns c = table_cleared c.args.part.now c.fill.new.self c.requires (c.fill.ensures.after (λ y e. e))
