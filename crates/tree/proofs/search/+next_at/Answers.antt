use Rattle.std.proofs.Common.{◌≡◌, ℕ, suc, ◌+◌, ◌-◌, ◌*◌, ◌<◌, Some, sym, ap, ◌∙◌, subst, arith, rules}
use Rattle.node.specs.Pairs.{above}
use Rattle.node.specs.Node.{pairs_of, Rising, RightOf}
use Rattle.tree.proofs.Down.{asks_leaf, asks_inner, mine_here, leaf_pairs, below, beyond, kid_asks, asks_still, still_more, still_on}
use Rattle.std.proofs.lemmas.Result.{IfOk-weaker}
use Rattle.tree.proofs.search.+next_at.Goals as goal

pub look_at-requires : goal.look_at-requires
look_at-requires g t c =
    let d = g.S.PageStore.state c.args.s.now in
    let leaf = asks_leaf d c.args.l c.args.p c.args.k c.if-l-eq0.true c.requires.asks.0 in
    record {
      asks = (omega (arith, c.requires.asks.1.1.0), (mine_here d c.args.l c.args.p c.requires.asks.1.0, leaf.0));
      looks = λ p e κs vs x f h. subst (λ v. Rising v.pairs) (sym e) leaf.1;
      whole = search rules;
    }

pub returns-then-l-eq0 : goal.returns-then-l-eq0
returns-then-l-eq0 g t c =
    record {
      got = (let d = g.S.PageStore.state c.args.s.now in
          IfOk-weaker c.look_at.result _ _ (λ o h.
          let y : o ≡ above c.args.k h.0.0.now.pairs = search rules in (
            y ∙ ap (λ v. above c.args.k v.pairs) h.0.2 ∙ ap (λ es. above c.args.k es) (sym (leaf_pairs d.page c.args.l c.args.p c.if-l-eq0.true)),
            still_more 1 (2 * c.args.l + 1) d _ (omega arith) h.1,
            (λ z. still_more 1 (c.args.l + 1) d _ (omega arith) h.1),
          )) c.look_at.ensures.got);
      passed = search rules;
    }

pub find_way-requires : goal.find_way-requires
find_way-requires g t c =
    record {
      asks = (let d = g.S.PageStore.state c.args.s.now in
          let n : 0 < c.args.l = omega (arith, c.if-l-eq0.false) in
          (omega (arith, c.requires.asks.1.1.0), (mine_here d c.args.l c.args.p c.requires.asks.1.0, asks_inner d c.args.l c.args.p c.args.k n c.requires.asks.0)));
      whole = search rules;
    }

pub next_at-requires : goal.next_at-requires
next_at-requires g t c κs within =
    let d = g.S.PageStore.state c.args.s.now in let e = g.S.PageStore.state c.find_way.new.s in
    let n : 0 < c.args.l = omega (arith, c.if-l-eq0.false) in
    let w = c.in_ok-w.ensures.got.0 in let still = c.in_ok-w.ensures.got.1 in
    let b = below d e c.args.l (c.args.l - 1) c.args.p c.in_ok-w.w.down c.args.k c.in_ok-w.w.at (omega arith) still c.requires.asks.0 c.requires.asks.1.0 w.0 w.1 in
    (omega (arith, c.decreases), (within, ((b.asks, (b.mine, (omega (arith, still.left, c.requires.asks.1.1.0), omega (arith, c.requires.asks.1.1.1)))), search rules)))

pub returns-in-Some : goal.returns-in-Some
returns-in-Some g t c =
    record {
      got = (let d = g.S.PageStore.state c.args.s.now in let e = g.S.PageStore.state c.find_way.new.s in let f = g.S.PageStore.state c.next_at.new.s in
          let n : 0 < c.args.l = omega (arith, c.if-l-eq0.false) in
          let w = c.in_ok-w.ensures.got.0 in let still = c.in_ok-w.ensures.got.1 in let r = c.in_ok-below.ensures.got in
          let b = beyond d e c.args.l (c.args.l - 1) c.args.p c.in_ok-w.w.down c.args.k c.in_ok-w.w.at (omega arith) still c.requires.asks.0 c.requires.asks.1.0 w.0 w.1 in (
            b.some c.in-Some.e (sym c.in-Some.is ∙ r.0),
            still_on 1 (2 * (c.args.l - 1) + 1) (2 * c.args.l + 1) d e f (omega arith) still r.1,
            (λ z. let y : ◌≡◌ {A = ℕ} 0 1 = cc in absurd (omega arith)),
          ));
      passed = search rules;
    }

pub first_at-requires : goal.first_at-requires
first_at-requires g t c =
    record {
      asks = (let d = g.S.PageStore.state c.args.s.now in let e = g.S.PageStore.state c.find_way.new.s in let f = g.S.PageStore.state c.next_at.new.s in
          let n : 0 < c.args.l = omega (arith, c.if-l-eq0.false) in
          let w = c.in_ok-w.ensures.got.0 in let still = c.in_ok-w.ensures.got.1 in let r = c.in_ok-below.ensures.got in
          let y : RightOf (pairs_of (d.page c.args.p)) c.in_ok-w.w.at (Some c.in-Some-right.q) = subst (λ o. RightOf (pairs_of (d.page c.args.p)) c.in_ok-w.w.at o) c.in-Some-right.is w.2 in
          let s = still_on 1 (c.args.l - 1 + 1) (c.args.l + 1) d e f (omega arith) still (r.2 c.in_default.is) in
          let k = kid_asks d c.args.l (c.args.l - 1) c.args.p c.in-Some-right.q (suc c.in_ok-w.w.at) c.args.k (omega arith) c.requires.asks.0 c.requires.asks.1.0 y.0 y.1 in
          let a = asks_still (c.args.l + 1) d f (c.args.l - 1) c.in-Some-right.q s (k.0, k.1) in
          (a.0, (a.1, omega (arith, s.left, c.requires.asks.1.1.0))));
      whole = search rules;
    }

pub returns-in-Some-right : goal.returns-in-Some-right
returns-in-Some-right g t c =
    record {
      got = (let d = g.S.PageStore.state c.args.s.now in let e = g.S.PageStore.state c.find_way.new.s in let f = g.S.PageStore.state c.next_at.new.s in let h = g.S.PageStore.state c.first_at.new.s in
          let n : 0 < c.args.l = omega (arith, c.if-l-eq0.false) in
          let w = c.in_ok-w.ensures.got.0 in let still = c.in_ok-w.ensures.got.1 in let r = c.in_ok-below.ensures.got in
          let y : RightOf (pairs_of (d.page c.args.p)) c.in_ok-w.w.at (Some c.in-Some-right.q) = subst (λ o. RightOf (pairs_of (d.page c.args.p)) c.in_ok-w.w.at o) c.in-Some-right.is w.2 in
          let s = still_on 1 (c.args.l - 1 + 1) (c.args.l + 1) d e f (omega arith) still (r.2 c.in_default.is) in
          let b = beyond d e c.args.l (c.args.l - 1) c.args.p c.in_ok-w.w.down c.args.k c.in_ok-w.w.at (omega arith) still c.requires.asks.0 c.requires.asks.1.0 w.0 w.1 in
          let q = c.in_ok-e.ensures.got in (
            b.right c.in_ok-e.e c.in-Some-right.q f y.0 y.1 (sym c.in_default.is ∙ r.0) s.page q.0,
            still_on (c.args.l + 1) (c.args.l - 1 + 1) (2 * c.args.l + 1) d f h (omega arith) s q.1,
            (λ z. let y : ◌≡◌ {A = ℕ} 0 1 = cc in absurd (omega arith)),
          ));
      passed = search rules;
    }

pub returns : goal.returns
returns g t c =
    record {
      got = (let d = g.S.PageStore.state c.args.s.now in let e = g.S.PageStore.state c.find_way.new.s in let f = g.S.PageStore.state c.next_at.new.s in
          let n : 0 < c.args.l = omega (arith, c.if-l-eq0.false) in
          let w = c.in_ok-w.ensures.got.0 in let still = c.in_ok-w.ensures.got.1 in let r = c.in_ok-below.ensures.got in
          let s = still_on 1 (c.args.l - 1 + 1) (c.args.l + 1) d e f (omega arith) still (r.2 c.in_default.is) in
          let y = subst (λ o. RightOf (pairs_of (d.page c.args.p)) c.in_ok-w.w.at o) c.in_default-right.is w.2 in
          let b = beyond d e c.args.l (c.args.l - 1) c.args.p c.in_ok-w.w.down c.args.k c.in_ok-w.w.at (omega arith) still c.requires.asks.0 c.requires.asks.1.0 w.0 w.1 in (
            b.end y (sym c.in_default.is ∙ r.0),
            still_more (c.args.l + 1) (2 * c.args.l + 1) d f (omega arith) s,
            (λ z. s),
          ));
      passed = search rules;
    }
