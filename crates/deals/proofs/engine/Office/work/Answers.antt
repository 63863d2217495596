use Rattle.std.proofs.Common.{false, refl, ap, ◌∙◌, arith}
use Rattle.std.proofs.lemmas.Result.{err_from_is_err_and}
use Rattle.deals.specs.Promise.{can}
use Rattle.deals.specs.Tables.{count_at}
use Rattle.deals.proofs.Keeping.{open_few, seated_toiled}
use Rattle.deals.proofs.Sitting.{lasting_cut}
use Rattle.deals.proofs.engine.Office.work.Goals as goal

pub toil-requires-clause-few : goal.toil-requires-clause-few
toil-requires-clause-few g c = let a = c.requires.stands.3 in omega (arith, a.seated.writes, open_few can false c.args.room.now a.to a.seated.tables)

pub returns-in_err-toil-clause-only : goal.returns-in_err-toil-clause-only
returns-in_err-toil-clause-only g c = λ _. c.in_err-toil.ensures.only refl

pub returns-in_err-toil-clause-works : goal.returns-in_err-toil-clause-works
returns-in_err-toil-clause-works g c p es x a =
    rw (err_from_is_err_and c.from_residual.result c.from_residual.ensures.1).1
    (λ e k. (a.to, a.run, lasting_cut p a.seated.pairs a.to.book _ e a.seated.book (c.in_err-toil.ensures.toils p a.seated.pairs a.seated.stands) k))

pub returns-clause-works : goal.returns-clause-works
returns-clause-works g c p es x a =
    let z = seated_toiled p c.args.self.now c.args.room.now c.toil.new.room _ _ c.toil.new.l c.counts-counts.result a.to a.seated
    (λ j l. c.counts-counts.ensures j l ∙ ap (λ w. count_at w j) c.new.ensures)
    (c.in_ok-toil.ensures.toils p a.seated.pairs a.seated.stands) in
    record { answered = record { to = a.to; run = a.run; seated = z.0; tells = a.tells; alone = a.alone }; few = z.1 }
