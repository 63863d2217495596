use Rattle.node.proofs.Words.{keys_in}
use Rattle.node.proofs.Node.keys.Goals as goal

pub returns : goal.returns
returns c = keys_in c.self.inside.words c.args.self.now c.len.result c.self.invariant c.self.view_is c.len.ensures.is
