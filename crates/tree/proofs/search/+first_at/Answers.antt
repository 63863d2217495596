use Rattle.std.proofs.Common.{◌≡◌, ℕ, get_or, subst, ◌+◌, ◌-◌, ◌<◌, List, length, Some, sym, ap, ◌∙◌, arith, rules}
use Rattle.node.specs.Pairs.{first}
use Rattle.node.specs.Node.{pairs_of}
use Rattle.tree.specs.Tree.{pairs_at}
use Rattle.node.proofs.Words.{pairs_length}
use Rattle.tree.proofs.Down.{asks_node, mine_here, first_leaf, first_inner, kid_asks, asks_still, still_more, still_on}
use Rattle.std.proofs.lemmas.Result.{IfOk-weaker}
use Rattle.tree.proofs.search.+first_at.Goals as goal

pub look_at-requires : goal.look_at-requires
look_at-requires g t c =
    let d = g.S.PageStore.state c.args.s.now in
    let x = asks_node d c.args.l c.args.p c.requires.asks.0.0 c.requires.asks.0.1 in
    record {
      asks = (omega (arith, c.requires.asks.1.1), (mine_here d c.args.l c.args.p c.requires.asks.1.0, x.0));
      looks = λ p e κs vs y. subst (λ v. 0 < length v.pairs) (sym e) (omega (arith, pairs_length (d.page c.args.p) x.0, x.1));
      whole = search rules;
    }

pub returns-then-l-eq0 : goal.returns-then-l-eq0
returns-then-l-eq0 g t c =
    record {
      got = (let d = g.S.PageStore.state c.args.s.now in
          let first_is : c.in_ok-e.e ≡ get_or (pairs_of (d.page c.args.p)) 0 (0, 0) = (let z : c.in_ok-e.e ≡ get_or c.in_ok-e.ensures.got.0.0.now.pairs 0 (0, 0) = search rules in z ∙ ap (λ v. get_or v.pairs 0 (0, 0)) c.in_ok-e.ensures.got.0.2) in
          (ap Some first_is ∙ sym (first_leaf d c.args.l c.args.p c.requires.asks.0.0 c.if-l-eq0.true c.requires.asks.0.1), still_more 1 (c.args.l + 1) d _ (omega arith) c.in_ok-e.ensures.got.1));
      passed = search rules;
    }

pub first_at-requires : goal.first_at-requires
first_at-requires g t c κs within =
    let d = g.S.PageStore.state c.args.s.now in let e = g.S.PageStore.state c.look_at.new.s in
    let n : 0 < c.args.l = omega (arith, c.if-l-eq0.false) in
    let w = c.in_ok-e.ensures.got in let first_is : c.in_ok-e.e ≡ get_or (pairs_of (d.page c.args.p)) 0 (0, 0) = (let z : c.in_ok-e.e ≡ get_or c.in_ok-e.ensures.got.0.0.now.pairs 0 (0, 0) = search rules in z ∙ ap (λ v. get_or v.pairs 0 (0, 0)) c.in_ok-e.ensures.got.0.2) in
    let x = asks_node d c.args.l c.args.p c.requires.asks.0.0 c.requires.asks.0.1 in
    let h : 0 < length (pairs_of (d.page c.args.p)) = omega (arith, pairs_length (d.page c.args.p) x.0, x.1) in
    let r = kid_asks d c.args.l (c.args.l - 1) c.args.p c.in_ok-e.e.1 0 c.requires.asks.0.0 (omega arith) c.requires.asks.0.1 c.requires.asks.1.0 h (ap (λ y. y.1) first_is) in
    let a = asks_still 1 d e (c.args.l - 1) c.in_ok-e.e.1 w.1 (r.0, r.1) in
    (omega (arith, c.decreases), (within, ((a.0, (a.1, omega (arith, w.1.left, c.requires.asks.1.1))), search rules)))

pub returns : goal.returns
returns g t c =
    record {
      got = (let d = g.S.PageStore.state c.args.s.now in let e = g.S.PageStore.state c.look_at.new.s in
          let n : 0 < c.args.l = omega (arith, c.if-l-eq0.false) in
          let w = c.in_ok-e.ensures.got in let first_is : c.in_ok-e.e ≡ get_or (pairs_of (d.page c.args.p)) 0 (0, 0) = (let z : c.in_ok-e.e ≡ get_or c.in_ok-e.ensures.got.0.0.now.pairs 0 (0, 0) = search rules in z ∙ ap (λ v. get_or v.pairs 0 (0, 0)) c.in_ok-e.ensures.got.0.2) in
          let f = first_inner d c.args.l (c.args.l - 1) c.args.p c.in_ok-e.e.1 c.requires.asks.0.0 (omega arith) c.requires.asks.0.1 c.requires.asks.1.0 (ap (λ y. y.1) first_is) in
          IfOk-weaker c.first_at.result _ _ (λ o h. (h.0 ∙ ap (λ (v : ℕ → List ℕ). first (pairs_at v (c.args.l - 1) c.in_ok-e.e.1)) w.1.page ∙ sym f, still_on 1 (c.args.l - 1 + 1) (c.args.l + 1) d e _ (omega arith) w.1 h.1)) c.first_at.ensures.got);
      passed = search rules;
    }
