use Rattle.view.proofs.Looks.{viewed_found}
use Rattle.view.proofs.laws.view_is.Goals as goal

pub returns : goal.returns
returns c = viewed_found
