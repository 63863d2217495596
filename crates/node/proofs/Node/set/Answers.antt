use Rattle.node.proofs.Entries.{entry_put}
use Rattle.node.proofs.Node.set.Goals as goal

pub returns : goal.returns
returns c = entry_put c.self.inside.words c.args.self.now c.args.i c.args.entry c.self.invariant c.self.view_is c.requires
