use Rattle.std.proofs.Common.{◌≡◌, subst, ◌+◌, ◌-◌, ◌<◌, sym, ap, ◌∙◌, arith, rules}
use Rattle.std.proofs.lemmas.Result.{IfOk-weaker}
use Rattle.node.specs.Node.{Rising}
use Rattle.node.specs.Pairs.{find}
use Rattle.tree.proofs.Down.{asks_leaf, asks_inner, mine_here, leaf_pairs, below, still_more, still_on}
use Rattle.tree.proofs.search.+get_at.Goals as goal

pub look_at-requires : goal.look_at-requires
look_at-requires g t c =
    let d = g.S.PageStore.state c.args.s.now in
    let leaf = asks_leaf d c.args.l c.args.p c.args.k c.if-l-eq0.true c.requires.asks.0 in
    record {
      asks = (omega (arith, c.requires.asks.1.1), (mine_here d c.args.l c.args.p c.requires.asks.1.0, leaf.0));
      looks = λ p e κs vs x f h. subst (λ v. Rising v.pairs) (sym e) leaf.1;
      whole = search rules;
    }

pub returns-then-l-eq0 : goal.returns-then-l-eq0
returns-then-l-eq0 g t c =
    record {
      got = (let d = g.S.PageStore.state c.args.s.now in
          IfOk-weaker c.look_at.result _ _ (λ o h.
          let z : o ≡ find c.args.k h.0.0.now.pairs = search rules in
          (z ∙ ap (λ v. find c.args.k v.pairs) h.0.2 ∙ ap (λ es. find c.args.k es) (sym (leaf_pairs d.page c.args.l c.args.p c.if-l-eq0.true)), still_more 1 (c.args.l + 1) d _ (omega arith) h.1)) c.look_at.ensures.got);
      passed = search rules;
    }

pub find_way-requires : goal.find_way-requires
find_way-requires g t c =
    record {
      asks = (let d = g.S.PageStore.state c.args.s.now in
          let n : 0 < c.args.l = omega (arith, c.if-l-eq0.false) in
          (omega (arith, c.requires.asks.1.1), (mine_here d c.args.l c.args.p c.requires.asks.1.0, asks_inner d c.args.l c.args.p c.args.k n c.requires.asks.0)));
      whole = search rules;
    }

pub get_at-requires : goal.get_at-requires
get_at-requires g t c κs within =
    let d = g.S.PageStore.state c.args.s.now in let e = g.S.PageStore.state c.find_way.new.s in
    let n : 0 < c.args.l = omega (arith, c.if-l-eq0.false) in
    let w = c.in_ok-w.ensures.got.0 in let still = c.in_ok-w.ensures.got.1 in
    let b = below d e c.args.l (c.args.l - 1) c.args.p c.in_ok-w.w.down c.args.k c.in_ok-w.w.at (omega arith) still c.requires.asks.0 c.requires.asks.1.0 w.0 w.1 in
    (omega (arith, c.decreases), (within, ((b.asks, (b.mine, omega (arith, still.left, c.requires.asks.1.1))), search rules)))

pub returns : goal.returns
returns g t c =
    record {
      got = (let d = g.S.PageStore.state c.args.s.now in let e = g.S.PageStore.state c.find_way.new.s in
          let n : 0 < c.args.l = omega (arith, c.if-l-eq0.false) in
          let w = c.in_ok-w.ensures.got.0 in let still = c.in_ok-w.ensures.got.1 in
          let b = below d e c.args.l (c.args.l - 1) c.args.p c.in_ok-w.w.down c.args.k c.in_ok-w.w.at (omega arith) still c.requires.asks.0 c.requires.asks.1.0 w.0 w.1 in
          IfOk-weaker c.get_at.result _ _ (λ o h. (h.0 ∙ sym b.finds, still_on 1 (c.args.l - 1 + 1) (c.args.l + 1) d e _ (omega arith) still h.1)) c.get_at.ensures.got);
      passed = search rules;
    }
