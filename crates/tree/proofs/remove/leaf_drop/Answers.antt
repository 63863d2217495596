use Rattle.tree.proofs.Amends.{leaf_cut}
use Rattle.tree.proofs.remove.leaf_drop.Goals as goal

pub returns-in_ok-write-in-Ok-clause-got : goal.returns-in_ok-write-in-Ok-clause-got
returns-in_ok-write-in-Ok-clause-got g c =
    let st = g.S.PageStore.state in let r = c.in_ok-leaf.ensures.got in let v = c.in_ok-leaf.leaf in
    leaf_cut (st c.args.s.now) (st c.read_node.new.s) (st c.write.new.self) c.args.p c.args.k c.in-Ok.i c.len-low.result v c.remove_at.new.self c.words.result.now
    r.0 r.1 c.requires.asks.1.1.1.1 c.in-Ok.ensures.spot c.remove_at.ensures.pairs c.words.ensures c.len-low.ensures.is c.in_ok-write-in-Ok.ensures.got
