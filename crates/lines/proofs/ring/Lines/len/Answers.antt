use Rattle.lines.proofs.Circle.{length_lines}
use Rattle.lines.proofs.ring.Lines.len.Goals as goal

pub returns-clause-is : goal.returns-clause-is
returns-clause-is c = let n = length_lines c.self.inside.words.now c.self.inside.ring in cc
