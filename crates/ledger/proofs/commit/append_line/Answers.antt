use Rattle.std.proofs.Common.{ap, sym, ◌∙◌, subst, length, arith}
use Rattle.std.specs.Result.{is_ok}
use Rattle.store.specs.Store.{Appended}
use Rattle.store.proofs.Grows.{appended_none}
use Rattle.ledger.specs.Ledger.{part_of}
use Rattle.ledger.proofs.Parting.{lent}
use Rattle.ledger.proofs.Appending.{line_is, one_appends, only_refl}
use Rattle.ledger.proofs.commit.append_line.Goals as goal

pub append-requires-clause-room : goal.append-requires-clause-room
append-requires-clause-room g c = omega (arith, c.requires.room, ap length (line_is c.args.line _ (sym c.in-Some.is ∙ c.record_by.ensures)))

pub returns-in-Some-clause-appends : goal.returns-in-Some-clause-appends
returns-in-Some-clause-appends g c =
    one_appends (g.D.Device.medium c.args.d.now) (part_of c.args.room.now) c.args.store.now c.in-Some.item (is_ok c.append.result) (g.D.Device.medium c.append.new.d) c.append.new.words _ c.append.new.store _
    c.append.ensures.appends (line_is c.args.line _ (sym c.in-Some.is ∙ c.record_by.ensures)) (lent c.args.room.now c.append.new.words c.requires.size c.append.auto.words).part

pub returns-in-Some-clause-only : goal.returns-in-Some-clause-only
returns-in-Some-clause-only g c = (lent c.args.room.now c.append.new.words c.requires.size c.append.auto.words).only

pub returns-in-None-clause-appends : goal.returns-in-None-clause-appends
returns-in-None-clause-appends g c =
    subst (λ rs. Appended (g.D.Device.medium c.args.d.now) (part_of c.args.room.now) c.args.store.now rs (g.D.Device.medium c.args.d.now) (part_of c.args.room.now) c.args.store.now)
    (sym (line_is c.args.line _ (sym c.in-None.is ∙ c.record_by.ensures))) (appended_none c.requires.intact)

pub returns-in-None-clause-only : goal.returns-in-None-clause-only
returns-in-None-clause-only g c = only_refl c.args.room.now
