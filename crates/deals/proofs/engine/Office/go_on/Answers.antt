use Rattle.std.proofs.Common.{ap, ◌∙◌, subst}
use Rattle.deals.specs.declared.Op.TheVariants.{Undo}
use Rattle.deals.specs.declared.Answer.TheVariants.{Done}
use Rattle.deals.specs.Deals.{Under}
use Rattle.deals.specs.Sits.{GoesOn}
use Rattle.deals.proofs.Answering.{asked, undone, not_end}
use Rattle.deals.proofs.engine.Office.go_on.Goals as goal

pub commit-requires-clause-stands : goal.commit-requires-clause-stands
commit-requires-clause-stands g c =
    let w = c.requires.stands in
    (w.0, w.1, w.2, subst (λ o. GoesOn w.0 w.1 c.args.self.now c.args.room.now (g.D.Pages.disk c.args.d.now) c.args.pick o w.2) c.in-Commit.is w.3)

pub carry_out-requires : goal.carry_out-requires
carry_out-requires g c = let w = c.requires.stands in record { soon = c.requires.soon; stands = (w.0, w.1, w.2, w.3, not_end c.args.o c.in_default.not-Commit c.in_default.not-Undo) }

pub returns-in-Undo-clause-goes : goal.returns-in-Undo-clause-goes
returns-in-Undo-clause-goes g c p es s v =
    let i = v.serving in
    let room = c.args.room.now in
    let k = asked room s c.args.pick i.sits.seated.tables i.served in
    undone p es c.args.self.now c.take_apart.new.self room c.take_apart.new.room _ s c.args.pick.who k.0 i.run i.sits i.served.few (k.1 ∙ ap (λ o. Under o k.0) (v.asks ∙ c.in-Undo.is))
    (c.take_apart.ensures.apart p es _ s i Undo Done k.0)

pub returns-in-Commit-clause-goes : goal.returns-in-Commit-clause-goes
returns-in-Commit-clause-goes g c p es s v =
    c.commit.ensures.commits p es s (subst (λ o. GoesOn p es c.args.self.now c.args.room.now (g.D.Pages.disk c.args.d.now) c.args.pick o s) c.in-Commit.is v)

pub returns-in_default : goal.returns-in_default
returns-in_default g c = record {
  only = c.carry_out.ensures.only;
  left = c.carry_out.ensures.left;
  goes = λ p es s v. c.carry_out.ensures.tells p es s v (not_end c.args.o c.in_default.not-Commit c.in_default.not-Undo);
}
