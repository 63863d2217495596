use Rattle.std.proofs.Common.{◌≡◌, List, ℕ, ◌-◌, ◌*◌, subst}
use Rattle.std.specs.Result.{is_ok, IfOk}
use Rattle.node.specs.Pairs.{above}
use Rattle.pager.specs.Volume.{Ends, pairs_in}
use Rattle.treeindex.proofs.in_part.next.Goals as goal

pub returns-clause-got : goal.returns-clause-got
returns-clause-got g c = subst (λ (p : List ℕ). IfOk c.next.result (λ o. o ≡ above c.args.k (pairs_in (g.D.Device.medium c.args.d.now) p c.args.store.now))) c.part_of.ensures.same c.next.ensures.got

pub returns-clause-ends : goal.returns-clause-ends
returns-clause-ends g c =
    let m = g.D.Device.medium c.args.d.now in
    let s = c.args.store.now in
    let e = c.next.new in
    subst (λ (p : List ℕ). Ends (pairs_in m p s) (2 * s.root.height - 1) 0 m p s (is_ok c.next.result) (g.D.Device.medium e.d) e.part e.store) c.part_of.ensures.same c.next.ensures.ends
