use Rattle.tree.proofs.Sizes.{own_pages}
use Rattle.tree.proofs.count.own_pages.Goals as goal

pub returns : goal.returns
returns c = own_pages
