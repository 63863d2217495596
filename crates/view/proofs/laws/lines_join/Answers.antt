use Rattle.view.proofs.Done.{lines_front, rising_lines}
use Rattle.view.proofs.Filed.{lines_filed}
use Rattle.view.proofs.laws.lines_join.Goals as goal

pub returns : goal.returns
returns c = (lines_front, (lines_filed, rising_lines))
