use Rattle.std.proofs.Common.{◌-◌, false, [], sym, refl, subst, arith}
use Rattle.deals.specs.declared.engine.Office.{Office}
use Rattle.deals.specs.Deals.{Over, set_clerk}
use Rattle.deals.specs.Tables.{Keeps}
use Rattle.deals.specs.Sits.{Seated}
use Rattle.deals.proofs.Orders.{order_long}
use Rattle.deals.proofs.Answering.{writes_least, puts_least, seated_apart}
use Rattle.deals.proofs.engine.Office.take_apart.Goals as goal

pub overflow_sub-self : goal.overflow_sub-self
overflow_sub-self c =
    let w = c.requires.stands in
    let i = w.4.sits in
    let who = c.args.pick.who in
    let k = (w.3.clerk who).deal in
    let few = w.4.served.few in
    omega (arith, writes_least w.0 c.args.self.now c.args.room.now w.2 w.3 who i few, c.tally-gone.ensures.writes k (subst (λ r. Keeps r who k) (sym c.new.ensures) (i.seated.tables.desk who few)))

pub overflow_sub-self-2 : goal.overflow_sub-self-2
overflow_sub-self-2 c =
    let w = c.requires.stands in
    let i = w.4.sits in
    let who = c.args.pick.who in
    let k = (w.3.clerk who).deal in
    let few = w.4.served.few in
    omega (arith, puts_least w.0 c.args.self.now c.args.room.now w.2 w.3 who i few, c.tally-gone.ensures.puts k (subst (λ r. Keeps r who k) (sym c.new.ensures) (i.seated.tables.desk who few)))

pub invariant_of-tables : goal.invariant_of-tables
invariant_of-tables c = record { sound = c.requires.stands.4.sits.seated.tables.sound }

pub take_apart-requires : goal.take_apart-requires
take_apart-requires c = let v = c.requires.stands.4 in omega (arith, v.served.among, order_long c.args.room.now v.sits.seated.tables.sound)

pub returns : goal.returns
returns c = record {
  apart = λ p es d s v o a k.
      let i = v.sits in
      let r = c.args.room.now in
      let who = c.args.pick.who in
      let few = v.served.few in
      let new = c.take_apart.new.self.room.now in
      let f = c.args.self.now in
      let deal = (s.clerk who).deal in
      let held = subst (λ x. Keeps x who deal) (sym c.new.ensures) (i.seated.tables.desk who few) in
      let g : Office = record { ledger = f.ledger; tally = record { writes = f.tally.writes - c.tally-gone.result.writes; puts = f.tally.puts - c.tally-gone.result.puts } } in
      subst (λ x. Seated false p g x d (set_clerk who [] (Over o a k) s)) (sym (c.room-1.given.1.1 (sym c.take_apart.ensures.only.lent)))
      (seated_apart p f g r new d s who (Over o a k) i few (c.take_apart.ensures.holds s o a k i.seated.tables v.served) c.take_apart.ensures.lines c.take_apart.ensures.only.rest refl
      (omega (arith, writes_least p f r d s who i few, c.tally-gone.ensures.writes deal held))
      (omega (arith, puts_least p f r d s who i few, c.tally-gone.ensures.puts deal held)));
}
