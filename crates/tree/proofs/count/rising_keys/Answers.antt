use Rattle.tree.proofs.Sizes.{rising_keys}
use Rattle.tree.proofs.count.rising_keys.Goals as goal

pub returns : goal.returns
returns c = rising_keys
