use Rattle.std.proofs.Common.{ℕ, length, sym, ap, subst, arith}
use Rattle.std.specs.List.{insert}
use Rattle.node.specs.Node.{Shared}
use Rattle.node.proofs.Words.{pairs_length}
use Rattle.node.proofs.Shared.{shared}
use Rattle.tree.proofs.Steps.{enter_two}
use Rattle.tree.proofs.insert.enter.Goals as goal

pub insert_at-requires-clause-place : goal.insert_at-requires-clause-place
insert_at-requires-clause-place g c =
    let a = c.requires.asks in
    omega (arith, ap (λ v. length v.pairs) c.in_ok-node.ensures.got.0, pairs_length ((g.S.PageStore.state c.args.s.now).page c.args.p) a.1.0, a.1.1.0)

pub returns-clause-got : goal.returns-clause-got
returns-clause-got g c =
    let st = g.S.PageStore.state in let r = c.in_ok-node.ensures.got in let v = c.in_ok-node.node in
    let es = insert v.pairs c.args.i c.args.entry in
    let b = c.words-2.result.now in let f = c.words-3.result.now in
    enter_two (st c.args.s.now) (st c.read_node.new.s) (st c.alloc.new.self) (st c.write-2.new.self) (st c.write-3.new.self) c.args.p c.in_ok-q.q c.args.i c.entry.result.0 c.args.entry v b f
    r.0 r.1 c.in_ok-q.ensures.got c.in_ok-write-2.ensures.got c.in_ok-write-3.ensures.got c.requires.asks.0
    (subst (λ k. Shared b f v.level k es) (sym (ap (λ (e : ℕ × ℕ). e.0) c.entry.ensures)) (shared b f c.split_in.new.self c.split_in.new.later v.level es c.words-2.ensures c.words-3.ensures c.split_in.ensures))
