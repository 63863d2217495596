use Rattle.std.proofs.Common.{◌++◌, subst}
use Rattle.node.specs.Node.{Joins}
use Rattle.tree.proofs.Amends.{neighbours_read, lent, merged}
use Rattle.tree.proofs.remove.join_pages.Goals as goal

pub join-more-requires : goal.join-more-requires
join-more-requires g c =
    let st = g.S.PageStore.state in let r1 = c.in_ok-left.ensures.got in let r2 = c.in_ok-right.ensures.got in
    neighbours_read (st c.args.s.now) (st c.read_node.new.s) c.args.l c.args.a c.args.c c.in_ok-left.left c.in_ok-right.right c.requires.asks.0 r1.0 r1.1 r2.0

pub returns-in-Some-clause-got : goal.returns-in-Some-clause-got
returns-in-Some-clause-got g c =
    let st = g.S.PageStore.state in let r1 = c.in_ok-left.ensures.got in let r2 = c.in_ok-right.ensures.got in let x = c.in_ok-left.left in let y = c.in_ok-right.right in
    lent (st c.args.s.now) (st c.read_node.new.s) (st c.read_node-2.new.s) (st c.write.new.self) (st c.write-in-Some.new.self) c.args.l c.args.a c.args.c x y c.words.result.now c.requires.asks.0 r1.0 r1.1 r2.0 r2.1 c.in_ok-write.ensures.got
    c.in-Some.key c.join-more.new.self c.join-more.new.right c.words-in-Some.result.now (subst (λ o. Joins c.join-more.new.self c.join-more.new.right x.level (x.pairs ++ y.pairs) o) c.in-Some.is c.join-more.ensures.joined)
    c.words.ensures c.words-in-Some.ensures c.in_ok-write-2.ensures.got

pub returns-clause-got : goal.returns-clause-got
returns-clause-got g c =
    let st = g.S.PageStore.state in let r1 = c.in_ok-left.ensures.got in let r2 = c.in_ok-right.ensures.got in let x = c.in_ok-left.left in let y = c.in_ok-right.right in
    merged (st c.args.s.now) (st c.read_node.new.s) (st c.read_node-2.new.s) (st c.write.new.self) (st c.release.new.self) c.args.l c.args.a c.args.c x y c.words.result.now c.requires.asks.0 r1.0 r1.1 r2.0 r2.1 c.in_ok-write.ensures.got
    c.join-more.new.self (subst (λ o. Joins c.join-more.new.self c.join-more.new.right x.level (x.pairs ++ y.pairs) o) c.in_default.is c.join-more.ensures.joined) c.words.ensures c.in_ok-release.ensures.got
