use Rattle.std.proofs.Common.{length, ap, arith}
use Rattle.node.proofs.Words.{pairs_length}
use Rattle.tree.proofs.insert.change.Goals as goal

pub set-requires : goal.set-requires
set-requires g c =
    let a = c.requires.asks in
    omega (arith, ap (λ v. length v.pairs) c.in_ok-node.ensures.got.0, pairs_length ((g.S.PageStore.state c.args.s.now).page c.args.p) a.1.0, a.1.1.0)
