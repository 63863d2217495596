use Rattle.std.proofs.Common.{ap, ◌-◌, arith}
use Rattle.lines.specs.Lines.{line_at}
use Rattle.lines.proofs.Circle.{pop_back_lines}
use Rattle.lines.proofs.ring.Ring.pop_back.Goals as goal

pub returns-clause-lines : goal.returns-clause-lines
returns-clause-lines c =
    let w = c.args.words.now in
    let e = pop_back_lines w c.args.self (c.args.self.count - 1) (omega arith) in
    let is = ap (line_at w) c.spot.ensures.is in
    cc
