use Rattle.std.proofs.Common.{◌+◌, ◌-◌, ◌*◌, ◌<◌, not, is_some, None, sym, ap, ◌∙◌, arith, rules}
use Rattle.node.specs.Pairs.{find}
use Rattle.node.proofs.Words.{pairs_length}
use Rattle.tree.proofs.Down.{asks_leaf, asks_inner, mine_here, leaf_pairs, below}
use Rattle.tree.proofs.Growth.{leaf_grew, leaf_level, once_still, inner_same, inner_more, grew_more}
use Rattle.std.proofs.lemmas.Result.{IfOk-weaker}
use Rattle.std.proofs.Common.{subst}
use borrow.Enum.Total.{values_d}
use Rattle.tree.specs.contracts.insert.Stored.{enum}
use Rattle.tree.specs.Grow.{Grew}
use Rattle.tree.specs.Done.{more_of, is_new}
use Rattle.tree.proofs.insert.+put_at.Goals as goal

pub leaf_put-requires : goal.leaf_put-requires
leaf_put-requires g t c =
    record {
      asks = (let d = g.S.PageStore.state c.args.s.now in (
        mine_here d c.args.l c.args.p c.requires.asks.1.0,
        (
          (asks_leaf d c.args.l c.args.p c.args.pair.0 c.if-l-eq0.true c.requires.asks.0).0,
          (
            (asks_leaf d c.args.l c.args.p c.args.pair.0 c.if-l-eq0.true c.requires.asks.0).1,
            (
              leaf_level d c.args.l c.args.p c.args.pair.0 c.if-l-eq0.true c.requires.asks.0,
              (omega (arith, c.requires.asks.1.1.1.0), omega (arith, c.requires.asks.1.1.1.1)),
            ),
          ),
        ),
      ));
      budget = omega (arith, c.requires.budget);
      whole = search rules;
    }

pub returns-then-l-eq0 : goal.returns-then-l-eq0
returns-then-l-eq0 g t c =
    record {
      got = (let d = g.S.PageStore.state c.args.s.now in let e = g.S.PageStore.state c.leaf_put.new.s in
          IfOk-weaker c.leaf_put.result _ _ (λ r h. (
            grew_more 3 (3 * c.args.l + 3) d e c.args.l c.args.p c.args.pair.0 c.args.pair.1 (more_of r) (omega arith) (leaf_grew 3 d e c.args.l c.args.p c.args.pair.0 c.args.pair.1 (more_of r) c.if-l-eq0.true h.0 c.requires.asks.1.1.0),
            h.1 ∙ ap (λ es. not (is_some (find c.args.pair.0 es))) (sym (leaf_pairs d.page c.args.l c.args.p c.if-l-eq0.true)),
          )) c.leaf_put.ensures.got);
      passed = search rules;
    }

pub find_way-requires : goal.find_way-requires
find_way-requires g t c =
    record {
      asks = (let d = g.S.PageStore.state c.args.s.now in
          let n : 0 < c.args.l = omega (arith, c.if-l-eq0.false) in
          (omega (arith, c.requires.asks.1.1.1.0), (mine_here d c.args.l c.args.p c.requires.asks.1.0, asks_inner d c.args.l c.args.p c.args.pair.0 n c.requires.asks.0)));
      whole = search rules;
    }

pub put_at-requires : goal.put_at-requires
put_at-requires g t c κs within =
    let d = g.S.PageStore.state c.args.s.now in let e = g.S.PageStore.state c.find_way.new.s in
    let n : 0 < c.args.l = omega (arith, c.if-l-eq0.false) in
    let w = c.in_ok-w.ensures.got.0 in let still = c.in_ok-w.ensures.got.1 in
    let b = below d e c.args.l (c.args.l - 1) c.args.p c.in_ok-w.w.down c.args.pair.0 c.in_ok-w.w.at (omega arith) still c.requires.asks.0 c.requires.asks.1.0 w.0 w.1 in
    (omega (arith, c.decreases), (within, ((b.asks, (b.mine, (once_still 1 d e still c.requires.asks.1.1.0, (omega (arith, still.left, c.requires.asks.1.1.1.0), omega (arith, still.room, c.requires.asks.1.1.1.1))))), (omega (arith, still.spare, c.requires.budget), search rules))))

pub overflow_add-w : goal.overflow_add-w
overflow_add-w g t c =
    let d = g.S.PageStore.state c.args.s.now in
    let n : 0 < c.args.l = omega (arith, c.if-l-eq0.false) in
    let a = asks_inner d c.args.l c.args.p c.args.pair.0 n c.requires.asks.0 in
    omega (arith, c.in_ok-w.ensures.got.0.0.here, pairs_length (d.page c.args.p) a.0, a.0.1)

pub enter-requires : goal.enter-requires
enter-requires g t c =
    record {
      asks = (let d = g.S.PageStore.state c.args.s.now in let d1 = g.S.PageStore.state c.find_way.new.s in let e1 = g.S.PageStore.state c.put_at.new.s in
          let n : 0 < c.args.l = omega (arith, c.if-l-eq0.false) in
          let w = c.in_ok-w.ensures.got.0 in let still = c.in_ok-w.ensures.got.1 in let r = c.in_ok-stored.ensures.got in
          let m = inner_more d d1 e1 e1 c.args.l (c.args.l - 1) c.args.p c.in_ok-w.w.down c.args.pair.0 c.args.pair.1 c.in_ok-w.w.at (3 * (c.args.l - 1) + 3) (3 * c.args.l + 3) (more_of c.in_ok-stored.stored) None c.in-Added-Some.child (omega arith) (omega arith) (ap more_of c.in-Added-Some.is ∙ (sym (ap (λ s. (values_d enum 1 (None, tt) s).0) c.in-Added-Some.is) ∙ c.in-Added-Some.field-0-is)) still c.requires.asks.0 c.requires.asks.1.0 c.requires.asks.1.1.0 w.0 w.1 r.0 in
          (m.0.0, (m.0.1, (m.0.2, (omega (arith, r.0.left, still.left, c.requires.asks.1.1.1.0), omega (arith, r.0.room, still.room, c.requires.asks.1.1.1.1))))));
      budget = omega (arith, c.in_ok-stored.ensures.got.0.spends.spare, c.in_ok-w.ensures.got.1.spare, c.requires.budget, c.if-l-eq0.false);
      whole = search rules;
    }

pub returns-in_ok-more-in-Added-Some : goal.returns-in_ok-more-in-Added-Some
returns-in_ok-more-in-Added-Some g t c =
    record {
      got = (let d = g.S.PageStore.state c.args.s.now in let d1 = g.S.PageStore.state c.find_way.new.s in let e1 = g.S.PageStore.state c.put_at.new.s in let e = g.S.PageStore.state c.enter.new.s in
          let n : 0 < c.args.l = omega (arith, c.if-l-eq0.false) in
          let w = c.in_ok-w.ensures.got.0 in let still = c.in_ok-w.ensures.got.1 in let r = c.in_ok-stored.ensures.got in
          let b = below d d1 c.args.l (c.args.l - 1) c.args.p c.in_ok-w.w.down c.args.pair.0 c.in_ok-w.w.at (omega arith) still c.requires.asks.0 c.requires.asks.1.0 w.0 w.1 in
          let m = inner_more d d1 e1 e c.args.l (c.args.l - 1) c.args.p c.in_ok-w.w.down c.args.pair.0 c.args.pair.1 c.in_ok-w.w.at (3 * (c.args.l - 1) + 3) (3 * c.args.l + 3) (more_of c.in_ok-stored.stored) c.in_ok-more-in-Added-Some.more c.in-Added-Some.child (omega arith) (omega arith) (ap more_of c.in-Added-Some.is ∙ (sym (ap (λ s. (values_d enum 1 (None, tt) s).0) c.in-Added-Some.is) ∙ c.in-Added-Some.field-0-is)) still c.requires.asks.0 c.requires.asks.1.0 c.requires.asks.1.1.0 w.0 w.1 r.0 in
          (m.1 c.in_ok-more-in-Added-Some.ensures.got, sym (ap is_new c.in-Added-Some.is) ∙ r.1 ∙ ap (λ o. not (is_some o)) (sym b.finds)));
      passed = search rules;
    }

pub returns-in-Added-None : goal.returns-in-Added-None
returns-in-Added-None g t c =
    record {
      got = (let d = g.S.PageStore.state c.args.s.now in let d1 = g.S.PageStore.state c.find_way.new.s in let e1 = g.S.PageStore.state c.put_at.new.s in
          let n : 0 < c.args.l = omega (arith, c.if-l-eq0.false) in
          let w = c.in_ok-w.ensures.got.0 in let still = c.in_ok-w.ensures.got.1 in let r = c.in_ok-stored.ensures.got in
          let b = below d d1 c.args.l (c.args.l - 1) c.args.p c.in_ok-w.w.down c.args.pair.0 c.in_ok-w.w.at (omega arith) still c.requires.asks.0 c.requires.asks.1.0 w.0 w.1 in
          let none = (ap more_of c.in-Added-None.is ∙ (sym (ap (λ s. (values_d enum 1 (None, tt) s).0) c.in-Added-None.is) ∙ c.in-Added-None.field-0-is)) in (
            subst (λ o. Grew (3 * c.args.l + 3) d e1 c.args.l c.args.p c.args.pair.0 c.args.pair.1 o) none (inner_same d d1 e1 c.args.l (c.args.l - 1) c.args.p c.in_ok-w.w.down c.args.pair.0 c.args.pair.1 c.in_ok-w.w.at (3 * (c.args.l - 1) + 3) (3 * c.args.l + 3) (more_of c.in_ok-stored.stored) (omega arith) (omega arith) none still c.requires.asks.0 c.requires.asks.1.0 c.requires.asks.1.1.0 w.0 w.1 r.0),
            sym (ap is_new c.in-Added-None.is) ∙ r.1 ∙ ap (λ o. not (is_some o)) (sym b.finds),
          ));
      passed = search rules;
    }

pub returns-in-Changed : goal.returns-in-Changed
returns-in-Changed g t c =
    record {
      got = (let d = g.S.PageStore.state c.args.s.now in let d1 = g.S.PageStore.state c.find_way.new.s in let e1 = g.S.PageStore.state c.put_at.new.s in
          let n : 0 < c.args.l = omega (arith, c.if-l-eq0.false) in
          let w = c.in_ok-w.ensures.got.0 in let still = c.in_ok-w.ensures.got.1 in let r = c.in_ok-stored.ensures.got in
          let b = below d d1 c.args.l (c.args.l - 1) c.args.p c.in_ok-w.w.down c.args.pair.0 c.in_ok-w.w.at (omega arith) still c.requires.asks.0 c.requires.asks.1.0 w.0 w.1 in
          let none = (ap more_of c.in-Changed.is) in (
            subst (λ o. Grew (3 * c.args.l + 3) d e1 c.args.l c.args.p c.args.pair.0 c.args.pair.1 o) none (inner_same d d1 e1 c.args.l (c.args.l - 1) c.args.p c.in_ok-w.w.down c.args.pair.0 c.args.pair.1 c.in_ok-w.w.at (3 * (c.args.l - 1) + 3) (3 * c.args.l + 3) (more_of c.in_ok-stored.stored) (omega arith) (omega arith) none still c.requires.asks.0 c.requires.asks.1.0 c.requires.asks.1.1.0 w.0 w.1 r.0),
            sym (ap is_new c.in-Changed.is) ∙ r.1 ∙ ap (λ o. not (is_some o)) (sym b.finds),
          ));
      passed = search rules;
    }
