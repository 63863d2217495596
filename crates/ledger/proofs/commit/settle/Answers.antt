use Rattle.std.proofs.Common.{List, ℕ, sym, subst}
use Rattle.std.specs.Result.{is_ok}
use Rattle.ledger.specs.Ledger.{part_of}
use Rattle.ledger.specs.Commits.{Settles}
use Rattle.ledger.proofs.Parting.{lent}
use Rattle.ledger.proofs.commit.settle.Goals as goal

pub returns-clause-settles : goal.returns-clause-settles
returns-clause-settles g c =
    subst (λ (x : List ℕ). Settles (g.D.Device.medium c.args.d.now) (part_of c.args.room.now) c.args.store.now (is_ok c.settle.result) (g.D.Device.medium c.settle.new.d) x c.settle.new.store)
    (sym (lent c.args.room.now c.settle.new.words c.requires.size c.settle.auto.words).part) c.settle.ensures.settles

pub returns-clause-only : goal.returns-clause-only
returns-clause-only g c = (lent c.args.room.now c.settle.new.words c.requires.size c.settle.auto.words).only
