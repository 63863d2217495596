use Rattle.std.proofs.Common.{sym, refl, ap, ◌∙◌, arith}
use Rattle.lines.specs.Lines.{line_at}
use Rattle.lines.proofs.Circle.{push_lines}
use Rattle.lines.proofs.ring.Ring.push.Goals as goal

pub returns : goal.returns
returns c =
    let w = c.args.words.now in
    let v = c.write_line.new.words in
    let is = c.spot.ensures.is in
    let e = c.write_line.ensures in
    let lines = push_lines w v c.args.self c.args.self.count c.args.line (omega arith) (omega arith) (ap (line_at v) (sym is) ∙ e.written) (λ q d. e.others q (λ u. d (u ∙ is))) refl c.requires.1 in
    record {
      lines = lines;
      holds = record { words = omega arith; start = omega arith; count = omega arith; small = omega arith };
      grown = (refl, (refl, refl));
    }
