use Rattle.std.proofs.Common.{ap, ◌∙◌, rules}
use Rattle.lines.specs.Rings.{lines_of}
use Rattle.lines.specs.Marks.{marks_in}
use Rattle.lines.proofs.Going.{backed_from_changes, marks_back}
use Rattle.lines.proofs.marks.go_back.Goals as goal

pub returns : goal.returns
returns c =
    let is = backed_from_changes _ (λ f. f.0) (λ f x y g s. search rules) _ _ _ c.change_all.ensures in
    record { lines = is; marks = ap marks_in is ∙ marks_back c.args.stay (lines_of c.args.words.now c.args.ring) }
