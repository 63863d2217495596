use Rattle.std.proofs.Common.{◌+◌, ◌-◌, ◌*◌, ◌<◌, is_some, sym, ap, ◌∙◌, arith}
use Rattle.node.specs.Pairs.{find}
use Rattle.tree.proofs.Down.{sound_asks, tree_some}
use Rattle.tree.proofs.Base.{sound_wide, empty_drop, worn, once_shrunk, kept_root, new_root}
use Rattle.tree.specs.Done.{is_thin, was_there}
use Rattle.tree.proofs.TreeRoot.drop.Goals as goal

pub returns-then-self-eq0-clause-got : goal.returns-then-self-eq0-clause-got
returns-then-self-eq0-clause-got g c = empty_drop (g.S.PageStore.state c.args.s.now) c.args.self.now.height c.args.self.now.page c.args.k c.if-self-eq0.true c.requires.asks.1.0

pub drop_at-requires-clause-asks : goal.drop_at-requires-clause-asks
drop_at-requires-clause-asks g c =
    let d = g.S.PageStore.state c.args.s.now in let t = c.args.self.now in
    let n : 0 < t.height = omega (arith, c.if-self-eq0.false) in
    let a = sound_asks d t.height (t.height - 1) t.page c.args.k (omega arith) c.ranges.k.fits c.requires.asks.0 in
    (a.0, (a.1, (c.requires.asks.1.0, (sound_wide d t.height (t.height - 1) t.page (omega arith) c.requires.asks.0, omega (arith, c.requires.asks.1.1)))))

pub crown-requires-clause-asks : goal.crown-requires-clause-asks
crown-requires-clause-asks g c =
    let d = g.S.PageStore.state c.args.s.now in let t = c.args.self.now in let e1 = g.S.PageStore.state c.drop_at.new.s in
    let n : 0 < t.height = omega (arith, c.if-self-eq0.false) in
    let r = c.in_ok-lost.ensures.got in (
      worn (4 * (t.height - 1) + 1) d e1 t.height (t.height - 1) t.page c.args.k (is_thin c.in_ok-lost.lost) (omega arith) (ap is_thin c.in-Taken-true.is ∙ c.in-Taken-true.thin-test) c.ranges.k.fits c.requires.asks.0 r.0,
      (once_shrunk (4 * (t.height - 1) + 1) d e1 (t.height - 1) t.page c.args.k (is_thin c.in_ok-lost.lost) c.requires.asks.1.0 r.0, omega (arith, r.0.left, c.requires.asks.1.1)),
    )

pub returns-in_ok-crown-in-Taken-true-clause-got : goal.returns-in_ok-crown-in-Taken-true-clause-got
returns-in_ok-crown-in-Taken-true-clause-got g c =
    let d = g.S.PageStore.state c.args.s.now in let t = c.args.self.now in let e1 = g.S.PageStore.state c.drop_at.new.s in let e = g.S.PageStore.state c.crown.new.s in
    let n : 0 < t.height = omega (arith, c.if-self-eq0.false) in
    let r = c.in_ok-lost.ensures.got in
    let a = sound_asks d t.height (t.height - 1) t.page c.args.k (omega arith) c.ranges.k.fits c.requires.asks.0 in (
      new_root (4 * (t.height - 1) + 1) d e1 e t.height (t.height - 1) t.page c.args.k c.crown.new.self.height c.crown.new.self.page (is_thin c.in_ok-lost.lost) (omega arith) (omega arith) a.1 r.0 c.in_ok-crown-in-Taken-true.ensures.got,
      sym (ap was_there c.in-Taken-true.is) ∙ r.1 ∙ ap (λ es. is_some (find c.args.k es)) (sym (tree_some d.page t.height (t.height - 1) t.page (omega arith))),
    )

pub returns-in-Taken-false-clause-got : goal.returns-in-Taken-false-clause-got
returns-in-Taken-false-clause-got g c =
    let d = g.S.PageStore.state c.args.s.now in let t = c.args.self.now in let e1 = g.S.PageStore.state c.drop_at.new.s in
    let n : 0 < t.height = omega (arith, c.if-self-eq0.false) in
    let r = c.in_ok-lost.ensures.got in (
      kept_root (4 * (t.height - 1) + 1) d e1 t.height (t.height - 1) t.page c.args.k (is_thin c.in_ok-lost.lost) (omega arith) (ap is_thin c.in-Taken-false.is ∙ c.in-Taken-false.thin-test) (omega arith) c.ranges.k.fits c.requires.asks.0 c.requires.asks.1.0 r.0,
      sym (ap was_there c.in-Taken-false.is) ∙ r.1 ∙ ap (λ es. is_some (find c.args.k es)) (sym (tree_some d.page t.height (t.height - 1) t.page (omega arith))),
    )

pub returns-in-Absent-clause-got : goal.returns-in-Absent-clause-got
returns-in-Absent-clause-got g c =
    let d = g.S.PageStore.state c.args.s.now in let t = c.args.self.now in let e1 = g.S.PageStore.state c.drop_at.new.s in
    let n : 0 < t.height = omega (arith, c.if-self-eq0.false) in
    let r = c.in_ok-lost.ensures.got in (
      kept_root (4 * (t.height - 1) + 1) d e1 t.height (t.height - 1) t.page c.args.k (is_thin c.in_ok-lost.lost) (omega arith) (ap is_thin c.in-Absent.is) (omega arith) c.ranges.k.fits c.requires.asks.0 c.requires.asks.1.0 r.0,
      sym (ap was_there c.in-Absent.is) ∙ r.1 ∙ ap (λ es. is_some (find c.args.k es)) (sym (tree_some d.page t.height (t.height - 1) t.page (omega arith))),
    )
