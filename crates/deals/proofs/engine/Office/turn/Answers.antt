use Rattle.std.proofs.Common.{refl, arith}
use Rattle.std.proofs.lemmas.Result.{err_from_is_err_and}
use Rattle.deals.proofs.Turning.{went}
use Rattle.deals.proofs.engine.Office.turn.Goals as goal

pub returns-in_err-told-clause-only : goal.returns-in_err-told-clause-only
returns-in_err-told-clause-only g c = λ _. c.in_err-told.ensures.only refl

pub returns-in_err-told-clause-turns : goal.returns-in_err-told-clause-turns
returns-in_err-told-clause-turns g c p es h = rw (err_from_is_err_and c.from_residual.result c.from_residual.ensures.1).1 (c.in_err-told.ensures.answers p es h)

pub work-requires-clause-soon : goal.work-requires-clause-soon
work-requires-clause-soon g c = omega (arith, c.requires.soon, c.in_ok-told.ensures.left refl)

pub work-requires-clause-stands : goal.work-requires-clause-stands
work-requires-clause-stands g c = let w = c.requires.stands in (w.0, w.1, c.in_ok-told.told, c.in_ok-told.ensures.answers w.0 w.1 w.2)

pub returns-in_err-work-clause-only : goal.returns-in_err-work-clause-only
returns-in_err-work-clause-only g c = λ _. c.in_err-work.ensures.only refl

pub returns-in_err-work-clause-turns : goal.returns-in_err-work-clause-turns
returns-in_err-work-clause-turns g c p es h =
    rw (err_from_is_err_and c.from_residual-in_err-work.result c.from_residual-in_err-work.ensures.1).1 (c.in_err-work.ensures.works p es c.in_ok-told.told (c.in_ok-told.ensures.answers p es h))

pub returns-clause-turns : goal.returns-clause-turns
returns-clause-turns g c p es h = went p es c.work.new.self c.work.new.room _ c.in_ok-told.told (c.in_ok-work.ensures.works p es c.in_ok-told.told (c.in_ok-told.ensures.answers p es h))
