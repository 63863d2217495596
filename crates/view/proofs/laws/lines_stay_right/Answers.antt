use Rattle.view.proofs.Upkeeps.{more_ok, back_ok}
use Rattle.view.proofs.laws.lines_stay_right.Goals as goal

pub returns : goal.returns
returns c = (more_ok, back_ok)
