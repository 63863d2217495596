use Rattle.std.proofs.Common.{sym, ap, ◌∙◌, arith, of_calls}
use Rattle.lines.specs.declared.line.Line.TheVariants.{Idle}
use Rattle.lines.specs.Lines.{line_at}
use Rattle.lines.specs.Rings.{lines_of}
use Rattle.lines.proofs.Changes.{turn, all_done}
use Rattle.lines.proofs.Circle.{length_lines, at_line}
use Rattle.lines.proofs.ring.Ring.change_all.Goals as goal

pub loop-i-preserved : goal.loop-i-preserved
loop-i-preserved g c =
    let r = c.args.self in
    let i = c.loop-i.i in
    let w = c.args.words.now in
    let u = c.loop-i.words in
    let is = c.spot.ensures.is in
    let x = c.read_line.ensures ∙ ap (line_at u) is ∙ sym (at_line u r i Idle (omega arith)) in
    let t = turn (goal.F-step g) c.args.change c.loop-i.change (lines_of w r) (lines_of u r) i (omega (arith, length_lines w r)) (length_lines u r ∙ sym (length_lines w r)) c.loop-i.invariant.done c.loop-i.invariant.rest
    c.read_line.result c.change-line.result c.change-line.new.self x c.change-line.ensures in
    record { callable = search of_calls; done = rw c.set.ensures t.0; rest = rw c.set.ensures t.1 }

pub returns : goal.returns
returns g c =
    let r = c.args.self in
    let n = c.loop-i.auto.i-end in
    all_done (goal.F-step g) c.args.change c.loop-i.change (lines_of c.args.words.now r) (lines_of c.loop-i.words r) c.loop-i.i
    (omega (arith, length_lines c.args.words.now r)) (omega (arith, length_lines c.loop-i.words r)) c.loop-i.invariant.done
