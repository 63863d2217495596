use Rattle.std.proofs.Common.{false, sym, subst, arith}
use Rattle.deals.specs.Deals.{Over, set_clerk}
use Rattle.deals.specs.Sits.{Seated}
use Rattle.deals.proofs.Orders.{order_long}
use Rattle.deals.proofs.Answering.{seated_away}
use Rattle.deals.proofs.engine.turn_away.Goals as goal

pub invariant_of-tables : goal.invariant_of-tables
invariant_of-tables c = record { sound = c.requires.stands.5.sits.seated.tables.sound }

pub turn_away-requires : goal.turn_away-requires
turn_away-requires c = let v = c.requires.stands.5 in omega (arith, v.served.among, order_long c.args.room.now v.sits.seated.tables.sound)

pub returns-clause-away : goal.returns-clause-away
returns-clause-away c p es f d s v o a k =
    let who = c.args.pick.who in
    let new = c.turn_away.new.self.room.now in
    subst (λ x. Seated false p f x d (set_clerk who (s.clerk who).deal (Over o a k) s)) (sym (c.room-1.given.1.1 (sym c.turn_away.ensures.only.lent)))
    (seated_away p f c.args.room.now new d s who (Over o a k) v.sits (c.turn_away.ensures.holds s o a k v.sits.seated.tables v.served) c.turn_away.ensures.lines c.turn_away.ensures.only.rest)
