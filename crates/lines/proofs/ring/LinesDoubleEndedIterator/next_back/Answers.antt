use Rattle.std.proofs.Common.{arith}
use Rattle.lines.proofs.Circle.{no_lines}
use Rattle.lines.proofs.ring.LinesDoubleEndedIterator.next_back.Goals as goal

pub returns-then-self-eq0-clause-steps : goal.returns-then-self-eq0-clause-steps
returns-then-self-eq0-clause-steps c = let e = no_lines c.self.inside.words.now c.self.inside.ring (omega arith) in (cc, cc)
