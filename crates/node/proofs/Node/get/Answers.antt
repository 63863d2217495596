use Rattle.std.proofs.Common.{sym, ◌∙◌}
use Rattle.node.proofs.Spots.{got}
use Rattle.node.proofs.Node.get.Goals as goal

pub returns : goal.returns
returns c = got c.args.self.now.pairs c.args.k c.requires c.find.result c.in_ok-i.i c.entry.result c.find.ensures.spot (sym c.ok.ensures.value ∙ c.in_ok-i.was) c.entry.ensures
