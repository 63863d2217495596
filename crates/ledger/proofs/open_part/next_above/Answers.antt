use Rattle.std.proofs.Common.{◌≡◌, subst}
use Rattle.std.specs.Result.{is_ok, IfOk}
use Rattle.view.specs.Upkeep.{next_key}
use Rattle.pager.specs.Volume.{Ends, pairs_in}
use Rattle.ledger.proofs.open_part.next_above.Goals as goal

pub returns-clause-got : goal.returns-clause-got
returns-clause-got g c =
    let m = g.D.Device.medium c.args.d.now in
    subst (λ w. IfOk c.next_in.result (λ o. o ≡ next_key c.args.k (pairs_in m w c.args.store.now))) c.part_of.ensures.same c.next_in.ensures.got

pub returns-clause-ends : goal.returns-clause-ends
returns-clause-ends g c =
    let m = g.D.Device.medium c.args.d.now in
    subst (λ w. Ends (pairs_in m w c.args.store.now) 11 0 m w c.args.store.now (is_ok c.next_in.result) (g.D.Device.medium c.next_in.new.d) c.next_in.new.part c.next_in.new.store) c.part_of.ensures.same c.next_in.ensures.ends
