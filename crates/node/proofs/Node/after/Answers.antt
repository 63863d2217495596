use Rattle.std.proofs.Common.{◌∙◌}
use Rattle.node.proofs.Spots.{after_is}
use Rattle.node.proofs.Node.after.Goals as goal

pub returns : goal.returns
returns c = c.nth.ensures ∙ after_is c.args.self.now.pairs c.args.k c.requires c.upper.result c.upper.ensures
