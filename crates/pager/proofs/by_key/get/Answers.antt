use Rattle.std.proofs.Common.{◌≡◌, ap, rules, arith}
use Rattle.std.specs.Result.{is_ok}
use Rattle.pager.specs.Volume.{Ends, pairs_in}
use Rattle.pager.proofs.Calls.{as_lent, at_rest, sound_at, asked_ends}
use Rattle.pager.proofs.by_key.get.Goals as goal

pub get-requires-clause-asks : goal.get-requires-clause-asks
get-requires-clause-asks g c = (sound_at _ _ _ c.requires.paged _ c.tree_of-tree.ensures.page c.tree_of-tree.ensures.height, omega (arith, c.tree_of-tree.ensures.height, c.requires.asks))

pub get-requires-clause-whole : goal.get-requires-clause-whole
get-requires-clause-whole g c = ((record { device = c.args.d; part = c.args.part; store = c.args.store }), at_rest _ _ _ c.requires.paged)

pub returns-clause-ends : goal.returns-clause-ends
returns-clause-ends g c =
    let n = c.get.new.s in
    let m = g.D.Device.medium c.args.d.now in
    let p = c.args.part.now in
    let s = c.args.store.now in
    let d : _ ≡ n.device.now = search rules in
    let v : _ ≡ n.part.now = search rules in
    let w : _ ≡ n.store.now = search rules in
    as_lent (λ f r y. Ends (pairs_in m p s) s.root.height 0 m p s (is_ok c.get.result) f r y) _ _ _ _ _ _ (ap g.D.Device.medium d) v w
    (asked_ends _ _ _ c.requires.paged _ c.tree_of-tree.ensures.page c.tree_of-tree.ensures.height _ n.part.now n.store.now c.get.result _ _ _ c.tree_of-tree.ensures.height c.get.ensures.got (c.get.ensures.passed.0 (record { device = c.args.d; part = c.args.part; store = c.args.store }) (at_rest _ _ _ c.requires.paged)))
