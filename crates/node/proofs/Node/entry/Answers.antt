use Rattle.node.proofs.Words.{entry_is}
use Rattle.node.proofs.Node.entry.Goals as goal

pub returns : goal.returns
returns c = entry_is c.self.inside.words c.args.self.now c.args.i c.self.invariant c.self.view_is c.requires
