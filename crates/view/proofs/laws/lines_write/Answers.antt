use Rattle.lines.specs.declared.line.Line.TheVariants.{Wrote, Cleared}
use Rattle.std.proofs.Common.{[], ◌∷◌}
use Rattle.view.proofs.Done.{lines_append}
use Rattle.view.proofs.laws.lines_write.Goals as goal

pub returns : goal.returns
returns c = ((λ t ls k x. lines_append t ls (Wrote k x ∷ [])), (λ t ls k s. lines_append t ls (Cleared k s ∷ [])))
