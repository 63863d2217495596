use Rattle.std.proofs.Common.{true, refl}
use Rattle.std.proofs.lemmas.Bool.{both_ways}
use Rattle.std.proofs.lemmas.Result.{err_from_is_err_and}
use Rattle.deals.specs.Promise.{can}
use Rattle.deals.specs.LineUps.{Picked}
use Rattle.deals.proofs.Holding.{holds_none}
use Rattle.deals.proofs.Turning.{seated_idle}
use Rattle.deals.proofs.engine.Office.answer.Goals as goal

pub returns-in_default-clause-answers : goal.returns-in_default-clause-answers
returns-in_default-clause-answers g c p es h =
    let f = c.args.self.now in
    let room = c.args.room.now in
    let i = h.2.seated in
    record { to = h.0; run = h.1; seated = seated_idle p f room _ h.0 i (holds_none can room h.0 i.tables (c.in_default.ensures h.0 i.tables)); tells = tt; alone = h.2.told }

pub serve-requires-clause-stands : goal.serve-requires-clause-stands
unfolding Picked
serve-requires-clause-stands g c =
    let w = c.requires.stands in
    (w.0, w.1, w.2.0, record { run = w.2.1; sits = w.2.2; served = c.in-Some.ensures w.2.0 w.2.2.seated.tables })

pub returns-in_err-told-clause-only : goal.returns-in_err-told-clause-only
returns-in_err-told-clause-only g c = λ _. c.in_err-told.ensures.only refl

pub returns-in_err-told-clause-answers : goal.returns-in_err-told-clause-answers
unfolding Picked
returns-in_err-told-clause-answers g c p es h =
    rw (err_from_is_err_and c.from_residual.result c.from_residual.ensures.1).1
    (c.in_err-told.ensures.serves p es h.0 (record { run = h.1; sits = h.2; served = c.in-Some.ensures h.0 h.2.seated.tables }))

pub returns : goal.returns
unfolding Picked
returns g c = record {
  only = λ x. absurd (both_ways true x refl);
  left = λ _. c.in_ok-told.ensures.left refl;
  answers = λ p es h. rw c.number.ensures.is (c.in_ok-told.ensures.serves p es h.0 (record { run = h.1; sits = h.2; served = c.in-Some.ensures h.0 h.2.seated.tables }));
}
