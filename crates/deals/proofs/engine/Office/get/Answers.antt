use Rattle.std.proofs.Common.{Some, sym, refl, ap, ◌∙◌, subst, arith}
use Rattle.std.proofs.lemmas.Result.{err_from_is_err_and}
use Rattle.deals.specs.Deals.{ends}
use Rattle.deals.specs.Tables.{count_at}
use Rattle.deals.specs.Sits.{Answered}
use Rattle.deals.proofs.Orders.{order_long}
use Rattle.deals.proofs.Sitting.{lasting_cut}
use Rattle.deals.proofs.Looking.{serving_looked}
use Rattle.deals.proofs.Plain.{comes_parts, got}
use Rattle.deals.proofs.engine.Office.get.Goals as goal

pub look-requires-clause-stands : goal.look-requires-clause-stands
look-requires-clause-stands g c = let w = c.requires.stands in (w.0, w.3.serving.sits.seated.pairs, w.3.serving.sits.seated.stands)

pub returns-in_err-found-clause-only : goal.returns-in_err-found-clause-only
returns-in_err-found-clause-only g c = λ _. c.in_err-found.ensures.only refl

pub returns-in_err-found-clause-gets : goal.returns-in_err-found-clause-gets
returns-in_err-found-clause-gets g c p es s v =
    let j = v.serving.sits.seated in
    rw (err_from_is_err_and c.from_residual.result c.from_residual.ensures.1).1
    (λ e k. (s, v.serving.run, lasting_cut p j.pairs s.book _ e j.book (c.in_err-found.ensures.looks p j.pairs j.stands) k))

pub invariant_of-tables : goal.invariant_of-tables
invariant_of-tables g c =
    let w = c.requires.stands in
    let j = w.3.serving.sits.seated in
    let i = serving_looked w.0 w.1 c.args.self.now c.args.room.now c.look.new.room _ _ c.look.new.l c.args.pick w.2 w.3.serving (c.in_ok-found.ensures.looks w.0 j.pairs j.stands).1 in
    record { sound = i.sits.seated.tables.sound }

pub answer-requires-clause-picked : goal.answer-requires-clause-picked
answer-requires-clause-picked g c =
    let w = c.requires.stands in
    let j = w.3.serving.sits.seated in
    let i = serving_looked w.0 w.1 c.args.self.now c.args.room.now c.look.new.room _ _ c.look.new.l c.args.pick w.2 w.3.serving (c.in_ok-found.ensures.looks w.0 j.pairs j.stands).1 in
    omega (arith, i.served.among, order_long c.look.new.room i.sits.seated.tables.sound)

pub answer-requires-clause-short : goal.answer-requires-clause-short
unfolding ends
answer-requires-clause-short g c =
    let w = c.requires.stands in
    let j = w.3.serving.sits.seated in
    let i = serving_looked w.0 w.1 c.args.self.now c.args.room.now c.look.new.room _ _ c.look.new.l c.args.pick w.2 w.3.serving (c.in_ok-found.ensures.looks w.0 j.pairs j.stands).1 in
    omega (arith, (comes_parts _ (w.2.clerk c.args.pick.who).deal w.3.comes tt).1, (i.sits.seated.tables.desk c.args.pick.who w.3.serving.served.few).count)

pub returns-clause-gets : goal.returns-clause-gets
returns-clause-gets g c p es s v =
    let j = v.serving.sits.seated in
    let new = c.answer.new.self.room.now in
    let looked = c.in_ok-found.ensures.looks p j.pairs j.stands in
    let count = c.count-count.ensures.is ∙ ap (λ r. count_at r c.args.pick.who) c.new.ensures in
    subst (λ x. Answered p es (record { ledger = c.look.new.l; tally = c.args.self.now.tally }) x (g.D.Pages.disk c.look.new.d) (Some (c.args.pick.who, c.word_told-answer.result))) (sym (c.room-2-1.given.1.1 (sym c.answer.ensures.only.lent)))
    (got p es c.args.self.now c.args.room.now c.look.new.room new _ _ c.look.new.l c.args.pick c.args.k c.count-count.result s c.in_ok-found.found _ v looked.1 count looked.0 c.word_told-answer.ensures
    (λ k t m. c.answer.ensures.holds s k t m) c.answer.ensures.lines c.answer.ensures.only.rest)
