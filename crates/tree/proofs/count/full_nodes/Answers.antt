use Rattle.tree.proofs.Sizes.{full_nodes}
use Rattle.tree.proofs.count.full_nodes.Goals as goal

pub returns : goal.returns
returns c = full_nodes
