use Rattle.std.proofs.Common.{◌+◌, ◌-◌, ◌*◌, ◌<◌, not, is_some, sym, ap, ◌∙◌, arith}
use Rattle.node.specs.Pairs.{find}
use Rattle.tree.proofs.Down.{sound_asks, tree_some}
use Rattle.tree.proofs.Crown.{first_tree, same_tree, taller_tree}
use Rattle.std.proofs.Common.{None, subst}
use borrow.Enum.Total.{values_d}
use Rattle.tree.specs.contracts.insert.Stored.{enum}
use Rattle.node.specs.Node.{rows}
use Rattle.tree.specs.Grow.{Built}
use Rattle.tree.specs.Done.{more_of, is_new}
use Rattle.tree.proofs.TreeRoot.put.Goals as goal

pub returns-then-self-eq0-clause-got : goal.returns-then-self-eq0-clause-got
returns-then-self-eq0-clause-got g c =
    let t = c.args.self.now in
    first_tree (g.S.PageStore.state c.args.s.now) (g.S.PageStore.state c.build.new.s) t.height t.page c.args.k c.args.x c.in_ok-page.page c.if-self-eq0.true c.requires.asks.1.0 c.ranges.k.fits c.in_ok-page.ensures.got

pub put_at-requires-clause-asks : goal.put_at-requires-clause-asks
put_at-requires-clause-asks g c =
    let d = g.S.PageStore.state c.args.s.now in let t = c.args.self.now in
    let n : 0 < t.height = omega (arith, c.if-self-eq0.false) in
    let a = sound_asks d t.height (t.height - 1) t.page c.args.k (omega arith) c.ranges.k.fits c.requires.asks.0 in
    (a.0, (a.1, (c.requires.asks.1.0, (omega (arith, c.requires.asks.1.1.1.0), omega (arith, c.requires.asks.1.1.1.1)))))

pub returns-in_ok-page-in-Added-Some-clause-got : goal.returns-in_ok-page-in-Added-Some-clause-got
returns-in_ok-page-in-Added-Some-clause-got g c =
    let d = g.S.PageStore.state c.args.s.now in let t = c.args.self.now in let e1 = g.S.PageStore.state c.put_at.new.s in let e = g.S.PageStore.state c.build-in-Added-Some.new.s in
    let n : 0 < t.height = omega (arith, c.if-self-eq0.false) in
    let r = c.in_ok-stored.ensures.got in (
      taller_tree d e1 e t.height (t.height - 1) t.page c.args.k c.args.x c.in_ok-page-in-Added-Some.page (3 * (t.height - 1) + 3) (more_of c.in_ok-stored.stored) c.in-Added-Some.child (omega arith) (ap more_of c.in-Added-Some.is ∙ (sym (ap (λ s. (values_d enum 1 (None, tt) s).0) c.in-Added-Some.is) ∙ c.in-Added-Some.field-0-is)) (omega arith) c.requires.asks.0 c.ranges.k.fits r.0 (subst (λ o. Built e1 e c.in_ok-page-in-Added-Some.page t.height (rows 0 t.page o)) (sym (ap more_of c.in-Added-Some.is ∙ (sym (ap (λ s. (values_d enum 1 (None, tt) s).0) c.in-Added-Some.is) ∙ c.in-Added-Some.field-0-is))) c.in_ok-page-in-Added-Some.ensures.got),
      sym (ap is_new c.in-Added-Some.is) ∙ r.1 ∙ ap (λ es. not (is_some (find c.args.k es))) (sym (tree_some d.page t.height (t.height - 1) t.page (omega arith))),
    )

pub returns-in-Added-None-clause-got : goal.returns-in-Added-None-clause-got
returns-in-Added-None-clause-got g c =
    let d = g.S.PageStore.state c.args.s.now in let t = c.args.self.now in let e1 = g.S.PageStore.state c.put_at.new.s in
    let n : 0 < t.height = omega (arith, c.if-self-eq0.false) in
    let r = c.in_ok-stored.ensures.got in (
      same_tree d e1 t.height (t.height - 1) t.page c.args.k c.args.x (3 * (t.height - 1) + 3) (more_of c.in_ok-stored.stored) (omega arith) (ap more_of c.in-Added-None.is ∙ (sym (ap (λ s. (values_d enum 1 (None, tt) s).0) c.in-Added-None.is) ∙ c.in-Added-None.field-0-is)) (omega arith) c.requires.asks.0 c.ranges.k.fits r.0,
      sym (ap is_new c.in-Added-None.is) ∙ r.1 ∙ ap (λ es. not (is_some (find c.args.k es))) (sym (tree_some d.page t.height (t.height - 1) t.page (omega arith))),
    )

pub returns-in-Changed-clause-got : goal.returns-in-Changed-clause-got
returns-in-Changed-clause-got g c =
    let d = g.S.PageStore.state c.args.s.now in let t = c.args.self.now in let e1 = g.S.PageStore.state c.put_at.new.s in
    let n : 0 < t.height = omega (arith, c.if-self-eq0.false) in
    let r = c.in_ok-stored.ensures.got in (
      same_tree d e1 t.height (t.height - 1) t.page c.args.k c.args.x (3 * (t.height - 1) + 3) (more_of c.in_ok-stored.stored) (omega arith) (ap more_of c.in-Changed.is) (omega arith) c.requires.asks.0 c.ranges.k.fits r.0,
      sym (ap is_new c.in-Changed.is) ∙ r.1 ∙ ap (λ es. not (is_some (find c.args.k es))) (sym (tree_some d.page t.height (t.height - 1) t.page (omega arith))),
    )
