use Rattle.std.proofs.Common.{◌+◌, ◌-◌, ◌*◌, ◌<◌, sym, refl, ap, ◌∙◌, arith}
use Rattle.std.proofs.lemmas.Result.{IfOk-weaker}
use Rattle.node.specs.Pairs.{above}
use Rattle.tree.proofs.Down.{sound_asks, tree_none, tree_some, still_more}
use Rattle.tree.proofs.TreeRoot.next.Goals as goal

pub returns-then-self-eq0-clause-got : goal.returns-then-self-eq0-clause-got
returns-then-self-eq0-clause-got g c =
    let d = g.S.PageStore.state c.args.s.now in
    (ap (λ es. above c.args.k es) (sym (tree_none d.page c.args.self.height c.args.self.page c.if-self-eq0.true)), record { page = refl; taken = refl; room = refl; left = omega arith; dirty = refl; spare = refl })

pub next_at-requires-clause-asks : goal.next_at-requires-clause-asks
next_at-requires-clause-asks g c =
    let d = g.S.PageStore.state c.args.s.now in let t = c.args.self in
    let n : 0 < t.height = omega (arith, c.if-self-eq0.false) in
    let a = sound_asks d t.height (t.height - 1) t.page c.args.k (omega arith) c.ranges.k.fits c.requires.asks.0 in
    (a.0, (a.1, (omega (arith, c.requires.asks.1.0), omega (arith, c.requires.asks.1.1))))

pub returns-clause-got : goal.returns-clause-got
returns-clause-got g c =
    let d = g.S.PageStore.state c.args.s.now in let t = c.args.self in
    let n : 0 < t.height = omega (arith, c.if-self-eq0.false) in
    IfOk-weaker c.next_at.result _ _ (λ o h. (h.0 ∙ ap (λ es. above c.args.k es) (sym (tree_some d.page t.height (t.height - 1) t.page (omega arith))), still_more (2 * (t.height - 1) + 1) (2 * t.height - 1) d _ (omega arith) h.1)) c.next_at.ensures.got
