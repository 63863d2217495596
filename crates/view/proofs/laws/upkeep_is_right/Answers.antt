use Rattle.view.proofs.Upkeeps.{kept_lines, kept_succ_lem}
use Rattle.view.proofs.laws.upkeep_is_right.Goals as goal

pub returns : goal.returns
returns c = (kept_lines, kept_succ_lem)
