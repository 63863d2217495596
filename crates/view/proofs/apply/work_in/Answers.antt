use Rattle.std.proofs.Common.{refl}
use Rattle.view.proofs.apply.work_in.Goals as goal

pub returns-in_default-clause-passed : goal.returns-in_default-clause-passed
returns-in_default-clause-passed g c = record { onto = λ a w h. h; tied = refl }
