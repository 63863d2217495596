use Rattle.std.proofs.Common.{ℕ, ◌-◌, length, get_or, sym, ap, ◌∙◌, arith}
use Rattle.tree.specs.Tree.{root_min, keys_end}
use Rattle.tree.proofs.Kids.{well_node}
use Rattle.tree.proofs.Down.{mine_here}
use Rattle.tree.proofs.Base.{crown_stays, crown_gone, crown_child, crown_once}
use Rattle.tree.proofs.TreeRoot.crown.Goals as goal

pub read_node-requires-clause-asks : goal.read_node-requires-clause-asks
read_node-requires-clause-asks g c =
    let w = c.requires.asks.0 in let d = g.S.PageStore.state c.args.s.now in
    (c.requires.asks.1.1, (mine_here d w.0 c.args.self.now.page w.3, (well_node d.page (root_min w.0 - 1) w.0 c.args.self.now.page 0 keys_end w.2).is))

pub release-requires-clause-asks : goal.release-requires-clause-asks
release-requires-clause-asks g c =
    let s = c.in_ok-root.ensures.got.1 in
    (crown_once (g.S.PageStore.state c.args.s.now) (g.S.PageStore.state c.read_node.new.s) c.args.self.now.height c.args.self.now.page s c.requires.asks.1.0 c.requires.asks.0, omega (arith, s.spare, c.requires.budget))

pub release-requires-then-n-eq1-clause-asks : goal.release-requires-then-n-eq1-clause-asks
release-requires-then-n-eq1-clause-asks g c =
    let s = c.in_ok-root.ensures.got.1 in
    (crown_once (g.S.PageStore.state c.args.s.now) (g.S.PageStore.state c.read_node.new.s) c.args.self.now.height c.args.self.now.page s c.requires.asks.1.0 c.requires.asks.0, omega (arith, s.spare, c.requires.budget))

pub returns-in_ok-release-clause-got : goal.returns-in_ok-release-clause-got
returns-in_ok-release-clause-got g c =
    let st = g.S.PageStore.state in let r = c.in_ok-root.ensures.got in
    crown_gone (st c.args.s.now) (st c.read_node.new.s) (st c.release.new.self) c.args.self.now.height c.args.self.now.page r.1 c.in_ok-release.ensures.got c.requires.asks.1.0 c.requires.asks.0
    c.if-self-eq1.true (ap (λ v. length v.pairs) (sym r.0) ∙ sym c.len-n.ensures.is ∙ c.if-n-eq0.true)

pub returns-else-n-eq0-clause-got : goal.returns-else-n-eq0-clause-got
returns-else-n-eq0-clause-got g c =
    let st = g.S.PageStore.state in let r = c.in_ok-root.ensures.got in
    crown_stays (st c.args.s.now) (st c.read_node.new.s) c.args.self.now.height c.args.self.now.page r.1 c.requires.asks.1.0 c.requires.asks.0
    (λ h z. c.if-n-eq0.false (c.len-n.ensures.is ∙ ap (λ v. length v.pairs) r.0 ∙ z)) (λ h z. h c.if-self-eq1.true)

pub returns-in_ok-release-2-clause-got : goal.returns-in_ok-release-2-clause-got
returns-in_ok-release-2-clause-got g c =
    let st = g.S.PageStore.state in let r = c.in_ok-root.ensures.got in
    crown_child (st c.args.s.now) (st c.read_node.new.s) (st c.release-then-n-eq1.new.self) c.args.self.now.height c.args.self.now.page c.entry-child.result.1 r.1 c.in_ok-release-2.ensures.got c.requires.asks.1.0 c.requires.asks.0
    c.if-self-eq1.false (ap (λ v. length v.pairs) (sym r.0) ∙ sym c.len-n.ensures.is ∙ c.if-n-eq1.true) (ap (λ (e : ℕ × ℕ). e.1) (c.entry-child.ensures ∙ ap (λ v. get_or v.pairs 0 (0, 0)) r.0))

pub returns-else-n-eq1-clause-got : goal.returns-else-n-eq1-clause-got
returns-else-n-eq1-clause-got g c =
    let st = g.S.PageStore.state in let r = c.in_ok-root.ensures.got in
    crown_stays (st c.args.s.now) (st c.read_node.new.s) c.args.self.now.height c.args.self.now.page r.1 c.requires.asks.1.0 c.requires.asks.0
    (λ h z. c.if-self-eq1.false h) (λ h z. c.if-n-eq1.false (c.len-n.ensures.is ∙ ap (λ v. length v.pairs) r.0 ∙ z))
