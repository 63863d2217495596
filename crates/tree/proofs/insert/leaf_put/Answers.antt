use Rattle.std.proofs.Common.{ℕ, ◌<◌, ◌≤◌, not, List, sym, ap, subst, arith, rules}
use Rattle.node.specs.Node.{count_of, pairs_of, IsNode, Rising, Spot, Found, Missing}
use Rattle.node.proofs.Words.{pairs_length}
use Rattle.tree.proofs.Steps.{leaf_enter}
use Rattle.tree.proofs.insert.leaf_put.Goals as goal

pub look_at-requires-clause-looks : goal.look_at-requires-clause-looks
look_at-requires-clause-looks g c = λ p e κs vs x f h. subst (λ v. Rising v.pairs) (sym e) c.requires.asks.1.1.0

pub change-requires-clause-asks : goal.change-requires-clause-asks
change-requires-clause-asks g c =
    let d = g.S.PageStore.state c.args.s.now in let b = d.page c.args.p in let a = c.requires.asks in
    let r = c.in_ok-i.ensures.got in let s = r.1 in
    let z : Spot r.0.0.now.pairs c.args.pair.0 c.in_ok-i.field-0 = search rules in
    let t : Found (pairs_of b) c.args.pair.0 c.in-Ok.i = subst (λ o. Spot (pairs_of b) c.args.pair.0 o) c.in-Ok.is (subst (λ v. Spot v.pairs c.args.pair.0 c.in_ok-i.field-0) r.0.2 z) in (
      omega (arith, a.0, ap (λ (t : ℕ → ℕ). t c.args.p) s.taken),
      (
        subst (λ (v : ℕ → List ℕ). IsNode (v c.args.p)) (sym s.page) a.1.0,
        (subst (λ (v : ℕ → List ℕ). c.in-Ok.i < count_of (v c.args.p)) (sym s.page) (omega (arith, t.here, pairs_length b a.1.0)), omega (arith, a.1.1.1.1.0, s.left)),
      ),
    )

pub enter-requires-clause-asks : goal.enter-requires-clause-asks
enter-requires-clause-asks g c =
    let d = g.S.PageStore.state c.args.s.now in let b = d.page c.args.p in let a = c.requires.asks in
    let r = c.in_ok-i.ensures.got in let s = r.1 in
    let z : Spot r.0.0.now.pairs c.args.pair.0 c.in_ok-i.field-0 = search rules in
    let t : Missing (pairs_of b) c.args.pair.0 c.in-Err.i = subst (λ o. Spot (pairs_of b) c.args.pair.0 o) c.in-Err.is (subst (λ v. Spot v.pairs c.args.pair.0 c.in_ok-i.field-0) r.0.2 z) in (
      omega (arith, a.0, ap (λ (t : ℕ → ℕ). t c.args.p) s.taken),
      (
        subst (λ (v : ℕ → List ℕ). IsNode (v c.args.p)) (sym s.page) a.1.0,
        (
          subst (λ (v : ℕ → List ℕ). c.in-Err.i ≤ count_of (v c.args.p)) (sym s.page) (omega (arith, t.here, pairs_length b a.1.0)),
          (omega (arith, a.1.1.1.1.0, s.left), omega (arith, a.1.1.1.1.1, s.room)),
        ),
      ),
    )

pub returns-in_ok-more-in-Err-clause-got : goal.returns-in_ok-more-in-Err-clause-got
returns-in_ok-more-in-Err-clause-got g c =
    let d = g.S.PageStore.state c.args.s.now in let b = d.page c.args.p in let a = c.requires.asks in
    let r = c.in_ok-i.ensures.got in
    let z : Spot r.0.0.now.pairs c.args.pair.0 c.in_ok-i.field-0 = search rules in
    let t : Missing (pairs_of b) c.args.pair.0 c.in-Err.i = subst (λ o. Spot (pairs_of b) c.args.pair.0 o) c.in-Err.is (subst (λ v. Spot v.pairs c.args.pair.0 c.in_ok-i.field-0) r.0.2 z) in (
      leaf_enter d (g.S.PageStore.state c.look_at.new.s) (g.S.PageStore.state c.enter.new.s) c.args.p c.args.pair.0 c.args.pair.1 c.in-Err.i c.in_ok-more-in-Err.more r.1 a.1.1.1.0 t c.in_ok-more-in-Err.ensures.got,
      sym (ap not t.was),
    )
