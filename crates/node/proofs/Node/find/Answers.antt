use Rattle.node.proofs.Spots.{search_tells}
use Rattle.node.proofs.Node.find.Goals as goal

pub returns : goal.returns
returns c =
    let h = search_tells c.args.self.now.pairs c.args.k c.requires c.keys.result.now c.keys.ensures c.binary_search.result c.binary_search.ensures.position in
    record { spot = h.0; place = h.1 }
