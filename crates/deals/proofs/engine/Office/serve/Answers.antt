use Rattle.std.proofs.Common.{T, Some, ap, ◌∙◌, sym, subst}
use Rattle.deals.specs.declared.Answer.TheVariants.{Clash, No}
use Rattle.deals.specs.Promise.{can}
use Rattle.deals.specs.Tables.{op_at, Desk}
use Rattle.deals.specs.Refusals.{Refuses}
use Rattle.deals.specs.Sits.{Answered}
use Rattle.deals.proofs.Answering.{asked, clashed, away_not_built, away_too_long, why_not_built, why_too_long, goes_further, no_mark_only, none_only}
use Rattle.deals.proofs.engine.Office.serve.Goals as goal

pub returns-then-pick-clause-serves : goal.returns-then-pick-clause-serves
returns-then-pick-clause-serves g c p es s i =
    let room = c.args.room.now in
    let who = c.args.pick.who in
    let k = asked room s c.args.pick i.sits.seated.tables i.served in
    clashed p es c.args.self.now c.take_apart.new.self room c.take_apart.new.room _ s who k.0 (op_at room who) i.run i.sits i.served.few k.1 (subst T (sym (i.served.ringed c.if-pick.true)) tt)
    (c.take_apart.ensures.apart p es _ s i (op_at room who) Clash k.0)

pub returns-in-Some-NotBuilt-clause-serves : goal.returns-in-Some-NotBuilt-clause-serves
returns-in-Some-NotBuilt-clause-serves g c p es s i =
    let room = c.args.room.now in
    let who = c.args.pick.who in
    let k = asked room s c.args.pick i.sits.seated.tables i.served in
    let r : Refuses can (op_at room who) (s.clerk who).deal c.refused.result = subst (λ x. Refuses can (op_at x who) (s.clerk who).deal c.refused.result) c.new-2.ensures (c.refused.ensures s (subst (λ x. Desk x s) (sym c.new-2.ensures) i.sits.seated.tables.desk)) in
    let n = why_not_built (op_at room who) (s.clerk who).deal c.refused.result r (c.in-Some-NotBuilt.is ∙ ap Some c.in-Some-NotBuilt.field-0-is) in
    subst (λ a. Answered p es c.args.self.now c.turn_away.new.room (g.D.Pages.disk c.args.d.now) (Some (who, a))) (sym c.turn_away.ensures.told)
    (away_not_built p es c.args.self.now room c.turn_away.new.room _ s who (op_at room who) k.0 i.run i.sits i.served.few k.1 n (c.turn_away.ensures.away p es c.args.self.now _ s i (op_at room who) (No 9) k.0))

pub returns-in-Some-TooLong-clause-serves : goal.returns-in-Some-TooLong-clause-serves
returns-in-Some-TooLong-clause-serves g c p es s i =
    let room = c.args.room.now in
    let who = c.args.pick.who in
    let k = asked room s c.args.pick i.sits.seated.tables i.served in
    let then = c.turn_away-in-Some-TooLong.new.room in
    let r : Refuses can (op_at room who) (s.clerk who).deal c.refused.result = subst (λ x. Refuses can (op_at x who) (s.clerk who).deal c.refused.result) c.new-2.ensures (c.refused.ensures s (subst (λ x. Desk x s) (sym c.new-2.ensures) i.sits.seated.tables.desk)) in
    let n = why_too_long (op_at room who) (s.clerk who).deal c.refused.result r (c.in-Some-TooLong.is ∙ ap Some c.in-Some-TooLong.field-0-is) in
    subst (λ a. Answered p es c.args.self.now then (g.D.Pages.disk c.args.d.now) (Some (who, a))) (sym c.turn_away-in-Some-TooLong.ensures.told)
    (away_too_long p es c.args.self.now room then _ s who (op_at room who) k.0 i.run i.sits i.served.few k.1 n.0 n.1 n.2 (c.turn_away-in-Some-TooLong.ensures.away p es c.args.self.now _ s i (op_at room who) (No 5) k.0))

pub go_on-requires-clause-stands : goal.go_on-requires-clause-stands
go_on-requires-clause-stands g c =
    let w = c.requires.stands in
    let n = no_mark_only c.refused.result (c.in-Some-NoMark.is ∙ ap Some c.in-Some-NoMark.field-0-is) in
    (w.0, w.1, w.2, goes_further w.0 w.1 c.args.self.now c.args.room.now c.new-2.result.room.now c.new.result.room.now (g.D.Pages.disk c.args.d.now) c.args.pick w.2 c.read_op-o.result c.refused.result w.3 c.if-pick.false c.new.ensures c.read_op-o.ensures c.new-2.ensures c.refused.ensures n.0 n.1)

pub go_on-requires-in-None-clause-stands : goal.go_on-requires-in-None-clause-stands
go_on-requires-in-None-clause-stands g c =
    let w = c.requires.stands in
    let n = none_only c.refused.result c.in-None.is in
    (w.0, w.1, w.2, goes_further w.0 w.1 c.args.self.now c.args.room.now c.new-2.result.room.now c.new.result.room.now (g.D.Pages.disk c.args.d.now) c.args.pick w.2 c.read_op-o.result c.refused.result w.3 c.if-pick.false c.new.ensures c.read_op-o.ensures c.new-2.ensures c.refused.ensures n.0 n.1)

pub returns-in-Some-NoMark-clause-serves : goal.returns-in-Some-NoMark-clause-serves
returns-in-Some-NoMark-clause-serves g c p es s i =
    let n = no_mark_only c.refused.result (c.in-Some-NoMark.is ∙ ap Some c.in-Some-NoMark.field-0-is) in
    c.go_on.ensures.goes p es s (goes_further p es c.args.self.now c.args.room.now c.new-2.result.room.now c.new.result.room.now (g.D.Pages.disk c.args.d.now) c.args.pick s c.read_op-o.result c.refused.result i c.if-pick.false c.new.ensures c.read_op-o.ensures c.new-2.ensures c.refused.ensures n.0 n.1)

pub returns-in-None-clause-serves : goal.returns-in-None-clause-serves
returns-in-None-clause-serves g c p es s i =
    let n = none_only c.refused.result c.in-None.is in
    c.go_on-in-None.ensures.goes p es s (goes_further p es c.args.self.now c.args.room.now c.new-2.result.room.now c.new.result.room.now (g.D.Pages.disk c.args.d.now) c.args.pick s c.read_op-o.result c.refused.result i c.if-pick.false c.new.ensures c.read_op-o.ensures c.new-2.ensures c.refused.ensures n.0 n.1)
