use Rattle.std.proofs.Common.{◌≡◌, rules, sym, subst, ap, arith}
use Rattle.std.proofs.lemmas.Result.{err_from_is_err_and}
use Rattle.store.specs.Store.{Lost, cache}
use Rattle.pager.proofs.Frees.{taken_once}
use Rattle.pager.proofs.Calls.{as_number, at_rest, low, lost_of, sound_at, spare_still, put_leaves}
use Rattle.pager.proofs.by_key.put.Goals as goal

pub put-requires-clause-asks : goal.put-requires-clause-asks
put-requires-clause-asks g c =
    let h = c.tree_of-tree.ensures.height in
    let l = low _ _ _ c.requires.paged in
    (sound_at _ _ _ c.requires.paged _ c.tree_of-tree.ensures.page h, (taken_once c.args.store.now.root _, (omega (arith, h, l), (omega (arith, h, c.requires.asks), omega (arith, h, c.requires.room)))))

pub put-requires-clause-budget : goal.put-requires-clause-budget
put-requires-clause-budget g c = omega (arith, c.tree_of-tree.ensures.height, spare_still c.args.store.now.imaged (cache c.args.part.now) c.requires.ready.still, c.requires.ready.spare)

pub put-requires-clause-whole : goal.put-requires-clause-whole
put-requires-clause-whole g c = ((record { device = c.args.d; part = c.args.part; store = c.args.store }), at_rest _ _ _ c.requires.paged)

pub returns-in_err-new-clause-ends : goal.returns-in_err-new-clause-ends
returns-in_err-new-clause-ends g c =
    let p = err_from_is_err_and c.from_residual.result c.from_residual.ensures.1 in
    let d : _ ≡ c.put.new.s.device.now = search rules in
    rw p.1 (subst (λ y. Lost (g.D.Device.medium c.args.d.now) (g.D.Device.medium y)) (sym d) (lost_of (c.in_err-new.ensures.passed.0 (record { device = c.args.d; part = c.args.part; store = c.args.store }) (at_rest _ _ _ c.requires.paged))))

pub returns-clause-ends : goal.returns-clause-ends
returns-clause-ends g c =
    let n = c.put.new.s in
    let t = c.put.new.self in
    let d : _ ≡ n.device.now = search rules in
    let v : _ ≡ n.part.now = search rules in
    let k : _ ≡ n.store.now = search rules in
    put_leaves _ _ _ c.requires.paged _ c.tree_of-tree.ensures.page c.tree_of-tree.ensures.height _ n.part.now n.store.now (c.in_ok-new.ensures.passed.0 (record { device = c.args.d; part = c.args.part; store = c.args.store }) (at_rest _ _ _ c.requires.paged))
    _ (ap g.D.Device.medium d) _ v t _ _ c.stand.new.store c.stand.ensures k c.args.k c.args.x _ (omega (arith, c.from.ensures, as_number c.in_ok-new.new)) c.in_ok-new.ensures.got
