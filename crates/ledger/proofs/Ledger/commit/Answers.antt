use Rattle.std.proofs.Common.{sym, refl, subst, arith}
use Rattle.std.proofs.lemmas.Result.{err_from_is_err_and}
use Rattle.lines.specs.Tables.{deal_lines}
use Rattle.ledger.specs.Ledger.{Stands}
use Rattle.ledger.proofs.Parting.{only_aside}
use Rattle.ledger.proofs.Appending.{none_written, only_refl}
use Rattle.ledger.proofs.Settling.{joined_none}
use Rattle.ledger.proofs.Ledger.commit.Goals as goal

pub returns-then-not-writes_any : goal.returns-then-not-writes_any
returns-then-not-writes_any g c =
    let own = deal_lines c.args.room.now c.args.deal c.args.count in
    let e = sym c.if-not-writes_any.ensures in
    record {
      book = λ p b s. subst (λ x. Stands p (g.D.Device.medium c.args.d.now) c.args.room.now c.args.self.now x) (sym (none_written b own e)) s;
      token = sym e;
      joined = joined_none (g.D.Device.medium c.args.d.now) c.args.room.now c.args.self.now own e;
      asked = omega arith;
      quiet = λ _. refl;
      aside = only_aside _ _ (only_refl c.args.room.now);
      tied = refl;
    }

pub returns-in_err-lasted : goal.returns-in_err-lasted
returns-in_err-lasted g c =
    let n = err_from_is_err_and c.from_residual.result c.from_residual.ensures.1 in
    let k = c.in_err-lasted.ensures in
    record {
      book = λ p b s. rw n.1 (k.book p b s);
      token = rw n.1 tt;
      joined = rw n.1 tt;
      asked = rw n.1 tt;
      quiet = λ e. absurd (cc);
      aside = k.aside;
      tied = k.tied;
    }

pub returns : goal.returns
returns g c =
    let k = c.in_ok-lasted.ensures in
    record { book = k.book; token = c.if-not-writes_any.ensures; joined = k.joined; asked = k.asked; quiet = λ e. absurd (cc); aside = k.aside; tied = k.tied }
