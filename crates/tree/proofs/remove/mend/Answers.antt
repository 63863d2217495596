use Rattle.std.proofs.Common.{ℕ, ◌+◌, length, get_or, ap, ◌∙◌, arith}
use Rattle.node.proofs.Words.{pairs_length}
use Rattle.tree.proofs.Amends.{mend_all}
use Rattle.tree.proofs.remove.mend.Goals as goal

pub entry-c-requires : goal.entry-c-requires
entry-c-requires g c =
    let m = c.requires.asks.0 in
    omega (arith, ap (λ v. length v.pairs) c.in_ok-node.ensures.got.0, pairs_length ((g.S.PageStore.state c.args.s.now).page c.args.p) m.is, m.two)

pub amend-requires : goal.amend-requires
amend-requires g c =
    let m = c.requires.asks.0 in
    omega (arith, ap (λ v. length v.pairs) c.in_ok-node.ensures.got.0, pairs_length ((g.S.PageStore.state c.args.s.now).page c.args.p) m.is, m.two)

pub returns-clause-got : goal.returns-clause-got
returns-clause-got g c =
    let st = g.S.PageStore.state in let r = c.in_ok-node.ensures.got in
    mend_all (st c.args.s.now) (st c.read_node.new.s) (st c.join_pages.new.s) (st c.write.new.self) c.args.l c.args.p c.args.j c.entry-a.result.1 c.entry-c.result.1 c.len.result c.in_ok-more.more c.in_ok-node.node c.amend.new.self c.words.result.now
    r.0 r.1 c.requires.asks.0 (ap (λ (e : ℕ × ℕ). e.1) (c.entry-a.ensures ∙ ap (λ v. get_or v.pairs c.args.j (0, 0)) r.0)) (ap (λ (e : ℕ × ℕ). e.1) (c.entry-c.ensures ∙ ap (λ v. get_or v.pairs (c.args.j + 1) (0, 0)) r.0))
    c.in_ok-more.ensures.got c.amend.ensures c.words.ensures c.len.ensures.is c.in_ok-write.ensures.got
