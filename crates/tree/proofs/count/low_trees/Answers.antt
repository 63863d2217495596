use Rattle.tree.proofs.Sizes.{low_trees}
use Rattle.tree.proofs.count.low_trees.Goals as goal

pub returns : goal.returns
returns c = low_trees
