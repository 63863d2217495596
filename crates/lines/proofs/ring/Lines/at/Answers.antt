use Rattle.std.proofs.Common.{length, ap, arith}
use Rattle.lines.specs.declared.line.Line.TheVariants.{Idle}
use Rattle.lines.specs.Lines.{line_at}
use Rattle.lines.proofs.Circle.{length_lines, at_line}
use Rattle.lines.proofs.ring.Lines.at.Goals as goal

pub spot-requires : goal.spot-requires
spot-requires c =
    let n = length_lines c.self.inside.words.now c.self.inside.ring in
    let e = ap length c.self.view_is in
    (omega arith, (omega arith, omega arith))

pub returns : goal.returns
returns c =
    let w = c.self.inside.words.now in
    let r = c.self.inside.ring in
    let n = length_lines w r in
    let e = ap length c.self.view_is in
    let at = at_line w r c.args.i Idle (omega arith) in
    let is = ap (line_at w) c.spot.ensures.is in
    cc
