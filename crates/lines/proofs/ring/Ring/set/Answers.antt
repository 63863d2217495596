use Rattle.std.proofs.Common.{sym, ap, ◌∙◌, arith}
use Rattle.lines.specs.Lines.{line_at}
use Rattle.lines.proofs.Circle.{set_lines}
use Rattle.lines.proofs.ring.Ring.set.Goals as goal

pub returns : goal.returns
returns c =
    let w = c.args.words.now in
    let v = c.write_line.new.words in
    let is = c.spot.ensures.is in
    let e = c.write_line.ensures in
    set_lines w v c.args.self c.args.i c.args.line (omega arith) (omega arith) (ap (line_at v) (sym is) ∙ e.written) (λ q d. e.others q (λ u. d (u ∙ is))) c.requires.1
