use Rattle.std.proofs.Common.{arith}
use Rattle.std.proofs.lemmas.Grind.{common_steps}
use Rattle.script.proofs.Figures.{Figure, reads_figures, no_text}
use Rattle.script.proofs.Reading.{no_value}
use Rattle.script.proofs.line.read_number.Goals as goal

pub returns-in_err-from_utf8-in-Some-49-to-57 : goal.returns-in_err-from_utf8-in-Some-49-to-57
returns-in_err-from_utf8-in-Some-49-to-57 c = rw (no_value _ c.from_residual.ensures.0) (no_text _ c.in_err-from_utf8-in-Some-49-to-57.ensures.cases.0)

pub returns-in_err-parse-in-Some-49-to-57 : goal.returns-in_err-parse-in-Some-49-to-57
returns-in_err-parse-in-Some-49-to-57 c =
    let figure : Figure c.args.word.now = grind (arith, common_steps) in
    let read = reads_figures c.args.word.now c.parse.result figure (rw c.in_ok-from_utf8-in-Some-49-to-57.ensures.cases.0 at c.parse.ensures.value.0) in
    rw (no_value _ c.from_residual-in_err-parse-in-Some-49-to-57.ensures.0) (rw c.in_err-parse-in-Some-49-to-57.was at read)

pub returns-in_ok-parse-in-Some-49-to-57 : goal.returns-in_ok-parse-in-Some-49-to-57
returns-in_ok-parse-in-Some-49-to-57 c =
    let figure : Figure c.args.word.now = grind (arith, common_steps) in
    let read = reads_figures c.args.word.now c.parse.result figure (rw c.in_ok-from_utf8-in-Some-49-to-57.ensures.cases.0 at c.parse.ensures.value.0) in
    rw c.in_ok-parse-in-Some-49-to-57.was at read
