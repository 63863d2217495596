use Rattle.std.proofs.Common.{◌+◌, ◌-◌, ◌*◌, ◌<◌, is_some, sym, ap, ◌∙◌, arith, rules}
use Rattle.std.proofs.lemmas.Result.{IfOk-weaker}
use Rattle.node.specs.Pairs.{find}
use Rattle.tree.proofs.Down.{asks_leaf, asks_inner, mine_here, leaf_pairs, below}
use Rattle.tree.proofs.Growth.{leaf_level, once_still}
use Rattle.tree.proofs.Falls.{leaf_shrunk}
use Rattle.tree.proofs.Settle.{shrunk_more, not_thin, thin_mends, thin_mended, kid_wide}
use Rattle.std.proofs.Common.{subst}
use Rattle.tree.specs.Shrink.{Shrunk}
use Rattle.tree.specs.Done.{is_thin, was_there}
use Rattle.tree.proofs.remove.+drop_at.Goals as goal

pub leaf_drop-requires : goal.leaf_drop-requires
leaf_drop-requires g t c =
    record {
      asks = (let d = g.S.PageStore.state c.args.s.now in (
        omega (arith, c.requires.asks.1.1.1.1),
        (
          mine_here d c.args.l c.args.p c.requires.asks.1.0,
          (
            (asks_leaf d c.args.l c.args.p c.args.k c.if-l-eq0.true c.requires.asks.0).0,
            ((asks_leaf d c.args.l c.args.p c.args.k c.if-l-eq0.true c.requires.asks.0).1, leaf_level d c.args.l c.args.p c.args.k c.if-l-eq0.true c.requires.asks.0),
          ),
        ),
      ));
      budget = omega (arith, c.requires.budget);
      whole = search rules;
    }

pub returns-then-l-eq0 : goal.returns-then-l-eq0
returns-then-l-eq0 g t c =
    record {
      got = (let d = g.S.PageStore.state c.args.s.now in let e = g.S.PageStore.state c.leaf_drop.new.s in
          IfOk-weaker c.leaf_drop.result _ _ (λ r h. (
            shrunk_more 1 (4 * c.args.l + 1) d e c.args.l c.args.p c.args.k (is_thin r) (omega arith) (leaf_shrunk 1 d e c.args.l c.args.p c.args.k (is_thin r) c.if-l-eq0.true h.0),
            h.1 ∙ ap (λ es. is_some (find c.args.k es)) (sym (leaf_pairs d.page c.args.l c.args.p c.if-l-eq0.true)),
          )) c.leaf_drop.ensures.got);
      passed = search rules;
    }

pub find_way-requires : goal.find_way-requires
find_way-requires g t c =
    record {
      asks = (let d = g.S.PageStore.state c.args.s.now in
          let n : 0 < c.args.l = omega (arith, c.if-l-eq0.false) in
          (omega (arith, c.requires.asks.1.1.1.1), (mine_here d c.args.l c.args.p c.requires.asks.1.0, asks_inner d c.args.l c.args.p c.args.k n c.requires.asks.0)));
      whole = search rules;
    }

pub drop_at-requires : goal.drop_at-requires
drop_at-requires g t c κs within =
    let d = g.S.PageStore.state c.args.s.now in let e = g.S.PageStore.state c.find_way.new.s in
    let n : 0 < c.args.l = omega (arith, c.if-l-eq0.false) in
    let w = c.in_ok-w.ensures.got.0 in let still = c.in_ok-w.ensures.got.1 in
    let b = below d e c.args.l (c.args.l - 1) c.args.p c.in_ok-w.w.down c.args.k c.in_ok-w.w.at (omega arith) still c.requires.asks.0 c.requires.asks.1.0 w.0 w.1 in
    (omega (arith, c.decreases), (within, ((b.asks, (b.mine, (once_still 1 d e still c.requires.asks.1.1.0, (kid_wide d e c.args.l (c.args.l - 1) c.args.p c.in_ok-w.w.down c.args.k c.in_ok-w.w.at (omega arith) still c.requires.asks.0 w.0 w.1, omega (arith, still.left, c.requires.asks.1.1.1.1))))), (omega (arith, still.spare, c.requires.budget), search rules))))

pub mend-requires : goal.mend-requires
mend-requires g t c =
    record {
      asks = (let d = g.S.PageStore.state c.args.s.now in let d1 = g.S.PageStore.state c.find_way.new.s in let e1 = g.S.PageStore.state c.drop_at.new.s in
          let n : 0 < c.args.l = omega (arith, c.if-l-eq0.false) in
          let w = c.in_ok-w.ensures.got.0 in let still = c.in_ok-w.ensures.got.1 in let r = c.in_ok-lost.ensures.got in (
            thin_mends d d1 e1 c.args.l (c.args.l - 1) c.args.p c.in_ok-w.w.down c.args.k c.in_ok-w.w.at c.saturating_sub.result (4 * (c.args.l - 1) + 1) (is_thin c.in_ok-lost.lost) (omega arith) (ap is_thin c.in-Taken-true.is ∙ c.in-Taken-true.thin-test) still c.requires.asks.0 c.requires.asks.1.0 c.requires.asks.1.1.0 w.0 w.1 r.0 c.saturating_sub.ensures (c.requires.asks.1.1.1.0 n),
            omega (arith, r.0.left, still.left, c.requires.asks.1.1.1.1),
          ));
      budget = omega (arith, c.in_ok-lost.ensures.got.0.spends.spare, c.in_ok-w.ensures.got.1.spare, c.requires.budget, c.if-l-eq0.false);
      whole = search rules;
    }

pub returns-in_ok-thin-in-Taken-true : goal.returns-in_ok-thin-in-Taken-true
returns-in_ok-thin-in-Taken-true g t c =
    record {
      got = (let d = g.S.PageStore.state c.args.s.now in let d1 = g.S.PageStore.state c.find_way.new.s in let e1 = g.S.PageStore.state c.drop_at.new.s in let e = g.S.PageStore.state c.mend.new.s in
          let n : 0 < c.args.l = omega (arith, c.if-l-eq0.false) in
          let w = c.in_ok-w.ensures.got.0 in let still = c.in_ok-w.ensures.got.1 in let r = c.in_ok-lost.ensures.got in
          let b = below d d1 c.args.l (c.args.l - 1) c.args.p c.in_ok-w.w.down c.args.k c.in_ok-w.w.at (omega arith) still c.requires.asks.0 c.requires.asks.1.0 w.0 w.1 in (
            thin_mended d d1 e1 e c.args.l (c.args.l - 1) c.args.p c.in_ok-w.w.down c.args.k c.in_ok-w.w.at c.saturating_sub.result (4 * (c.args.l - 1) + 1) 3 (4 * c.args.l + 1) (is_thin c.in_ok-lost.lost) c.in_ok-thin-in-Taken-true.thin (omega arith) (omega arith) (ap is_thin c.in-Taken-true.is ∙ c.in-Taken-true.thin-test) still c.requires.asks.0 c.requires.asks.1.0 c.requires.asks.1.1.0 w.0 w.1 r.0 c.saturating_sub.ensures (c.requires.asks.1.1.1.0 n) c.in_ok-thin-in-Taken-true.ensures.got,
            sym (ap was_there c.in-Taken-true.is) ∙ r.1 ∙ ap (λ o. is_some o) (sym b.finds),
          ));
      passed = search rules;
    }

pub returns-in-Absent : goal.returns-in-Absent
returns-in-Absent g t c =
    record {
      got = (let d = g.S.PageStore.state c.args.s.now in let d1 = g.S.PageStore.state c.find_way.new.s in let e1 = g.S.PageStore.state c.drop_at.new.s in
          let n : 0 < c.args.l = omega (arith, c.if-l-eq0.false) in
          let w = c.in_ok-w.ensures.got.0 in let still = c.in_ok-w.ensures.got.1 in let r = c.in_ok-lost.ensures.got in
          let b = below d d1 c.args.l (c.args.l - 1) c.args.p c.in_ok-w.w.down c.args.k c.in_ok-w.w.at (omega arith) still c.requires.asks.0 c.requires.asks.1.0 w.0 w.1 in (
            subst (λ o. Shrunk (4 * c.args.l + 1) d e1 c.args.l c.args.p c.args.k o) (ap is_thin c.in-Absent.is) (not_thin d d1 e1 c.args.l (c.args.l - 1) c.args.p c.in_ok-w.w.down c.args.k c.in_ok-w.w.at (4 * (c.args.l - 1) + 1) (4 * c.args.l + 1) (is_thin c.in_ok-lost.lost) (omega arith) (omega arith) (ap is_thin c.in-Absent.is) still c.requires.asks.0 c.requires.asks.1.0 c.requires.asks.1.1.0 w.0 w.1 r.0),
            sym (ap was_there c.in-Absent.is) ∙ r.1 ∙ ap (λ o. is_some o) (sym b.finds),
          ));
      passed = search rules;
    }

pub returns-in-Taken-false : goal.returns-in-Taken-false
returns-in-Taken-false g t c =
    record {
      got = (let d = g.S.PageStore.state c.args.s.now in let d1 = g.S.PageStore.state c.find_way.new.s in let e1 = g.S.PageStore.state c.drop_at.new.s in
          let n : 0 < c.args.l = omega (arith, c.if-l-eq0.false) in
          let w = c.in_ok-w.ensures.got.0 in let still = c.in_ok-w.ensures.got.1 in let r = c.in_ok-lost.ensures.got in
          let b = below d d1 c.args.l (c.args.l - 1) c.args.p c.in_ok-w.w.down c.args.k c.in_ok-w.w.at (omega arith) still c.requires.asks.0 c.requires.asks.1.0 w.0 w.1 in (
            subst (λ o. Shrunk (4 * c.args.l + 1) d e1 c.args.l c.args.p c.args.k o) (ap is_thin c.in-Taken-false.is ∙ c.in-Taken-false.thin-test) (not_thin d d1 e1 c.args.l (c.args.l - 1) c.args.p c.in_ok-w.w.down c.args.k c.in_ok-w.w.at (4 * (c.args.l - 1) + 1) (4 * c.args.l + 1) (is_thin c.in_ok-lost.lost) (omega arith) (omega arith) (ap is_thin c.in-Taken-false.is ∙ c.in-Taken-false.thin-test) still c.requires.asks.0 c.requires.asks.1.0 c.requires.asks.1.1.0 w.0 w.1 r.0),
            sym (ap was_there c.in-Taken-false.is) ∙ r.1 ∙ ap (λ o. is_some o) (sym b.finds),
          ));
      passed = search rules;
    }
