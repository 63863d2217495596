use Rattle.std.proofs.Common.{◌≡◌, ap, rules, ℕ, ◌-◌, ◌*◌, ap, arith}
use Rattle.std.specs.Result.{is_ok}
use Rattle.pager.specs.Volume.{Ends, pairs_in}
use Rattle.pager.proofs.Calls.{as_lent, at_rest, low, sound_at, asked_ends}
use Rattle.pager.proofs.by_key.next.Goals as goal

pub next-requires-clause-asks : goal.next-requires-clause-asks
next-requires-clause-asks g c =
    let h = c.tree_of-tree.ensures.height in
    (sound_at _ _ _ c.requires.paged _ c.tree_of-tree.ensures.page h, (omega (arith, h, c.requires.asks), omega (arith, h, low _ _ _ c.requires.paged)))

pub next-requires-clause-whole : goal.next-requires-clause-whole
next-requires-clause-whole g c = ((record { device = c.args.d; part = c.args.part; store = c.args.store }), at_rest _ _ _ c.requires.paged)

pub returns-clause-ends : goal.returns-clause-ends
returns-clause-ends g c =
    let n = c.next.new.s in
    let m = g.D.Device.medium c.args.d.now in
    let p = c.args.part.now in
    let s = c.args.store.now in
    let d : _ ≡ n.device.now = search rules in
    let v : _ ≡ n.part.now = search rules in
    let w : _ ≡ n.store.now = search rules in
    as_lent (λ f r y. Ends (pairs_in m p s) (2 * s.root.height - 1) 0 m p s (is_ok c.next.result) f r y) _ _ _ _ _ _ (ap g.D.Device.medium d) v w
    (asked_ends _ _ _ c.requires.paged _ c.tree_of-tree.ensures.page c.tree_of-tree.ensures.height _ n.part.now n.store.now c.next.result _ _ _ (ap (λ (j : ℕ). 2 * j - 1) c.tree_of-tree.ensures.height) c.next.ensures.got (c.next.ensures.passed.0 (record { device = c.args.d; part = c.args.part; store = c.args.store }) (at_rest _ _ _ c.requires.paged)))
