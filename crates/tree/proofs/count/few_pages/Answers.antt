use Rattle.tree.proofs.Sizes.{few_pages}
use Rattle.tree.proofs.count.few_pages.Goals as goal

pub returns : goal.returns
returns c = few_pages
