use Rattle.tree.proofs.Sizes.{few_nodes}
use Rattle.tree.proofs.count.few_nodes.Goals as goal

pub returns : goal.returns
returns c = few_nodes
