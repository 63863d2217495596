use Rattle.std.proofs.Common.{List, length, get_or, refl, sym, ap, ◌∙◌, arith}
use Rattle.std.proofs.lemmas.Result.{err_from_is_err_and}
use Rattle.lines.specs.declared.line.Line.{Line}
use Rattle.lines.specs.declared.line.Line.TheVariants.{Idle}
use Rattle.view.proofs.Filed.{length_queue}
use Rattle.ledger.proofs.Parting.{lent, only_aside}
use Rattle.ledger.proofs.Opens.{raised_paged, raised_lost}
use Rattle.ledger.proofs.Filing.{aside_none}
use Rattle.ledger.proofs.Telling.{told_raised, told_pairs, told_lines, told_aside, told_not}
use Rattle.ledger.proofs.open.tell_record.Goals as goal

pub at-line-requires : goal.at-line-requires
at-line-requires g c = omega (arith, c.requires.queue.1, ap (λ (x : List Line). length x) c.records_of.ensures, length_queue c.args.room.now c.args.queue)

pub next_above-requires-clause-paged : goal.next_above-requires-clause-paged
next_above-requires-clause-paged g c = let h = c.requires.raised in raised_paged h.0 _ _ _ h.1 h.2

pub returns-in_err-above-clause-raises : goal.returns-in_err-above-clause-raises
returns-in_err-above-clause-raises g c = λ p b h.
    let n = err_from_is_err_and c.from_residual.result c.from_residual.ensures.1 in rw n.1 (raised_lost p _ _ _ b h _ c.in_err-above.ensures.ends)

pub returns-in_err-above-clause-lines : goal.returns-in_err-above-clause-lines
returns-in_err-above-clause-lines g c = let n = err_from_is_err_and c.from_residual.result c.from_residual.ensures.1 in rw n.1 tt

pub returns-in_err-above-clause-pairs : goal.returns-in_err-above-clause-pairs
returns-in_err-above-clause-pairs g c = let n = err_from_is_err_and c.from_residual.result c.from_residual.ensures.1 in rw n.1 tt

pub returns-in_err-above-clause-shown : goal.returns-in_err-above-clause-shown
returns-in_err-above-clause-shown g c = let n = err_from_is_err_and c.from_residual.result c.from_residual.ensures.1 in rw n.1 tt

pub returns-in_err-above-clause-aside : goal.returns-in_err-above-clause-aside
returns-in_err-above-clause-aside g c = only_aside _ _ (lent c.args.room.now c.next_above.new.words c.requires.queue.0.room c.next_above.auto.words).only

pub returns-in_ok-above-clause-raises : goal.returns-in_ok-above-clause-raises
returns-in_ok-above-clause-raises g c =
    told_raised _ c.args.room.now c.args.store.now c.args.queue _ _ c.next_above.new.words _ c.in_ok-above.ensures.ends (lent c.args.room.now c.next_above.new.words c.requires.queue.0.room c.next_above.auto.words)
    c.set_record.new.room c.set_record.ensures.only

pub returns-in_ok-above-clause-lines : goal.returns-in_ok-above-clause-lines
returns-in_ok-above-clause-lines g c =
    told_lines _ c.args.room.now c.args.store.now c.args.queue _ _ c.next_above.new.words _ c.in_ok-above.ensures.ends (lent c.args.room.now c.next_above.new.words c.requires.queue.0.room c.next_above.auto.words)
    c.set_record.new.room c.set_record.ensures.only c.args.i _ _ c.in_ok-above.above c.in_ok-above.ensures.got
    (ap (λ x. get_or x c.args.i Idle) (sym c.records_of.ensures) ∙ sym c.at-line.ensures ∙ c.in-Cleared.is) c.set_record.ensures.lines

pub returns-in_ok-above-clause-pairs : goal.returns-in_ok-above-clause-pairs
returns-in_ok-above-clause-pairs g c =
    told_pairs _ c.args.room.now c.args.store.now c.args.queue _ _ c.next_above.new.words _ c.in_ok-above.ensures.ends (lent c.args.room.now c.next_above.new.words c.requires.queue.0.room c.next_above.auto.words)
    c.set_record.new.room c.set_record.ensures.only

pub returns-in_ok-above-clause-shown : goal.returns-in_ok-above-clause-shown
returns-in_ok-above-clause-shown g c = c.in_ok-above.ensures.ends.shown

pub returns-in_ok-above-clause-aside : goal.returns-in_ok-above-clause-aside
returns-in_ok-above-clause-aside g c =
    told_aside _ c.args.room.now c.args.store.now c.args.queue _ _ c.next_above.new.words _ c.in_ok-above.ensures.ends (lent c.args.room.now c.next_above.new.words c.requires.queue.0.room c.next_above.auto.words)
    c.set_record.new.room c.set_record.ensures.only c.requires.queue.0 c.set_record.ensures.queue

pub returns-in_default : goal.returns-in_default
returns-in_default g c =
    let at = ap (λ x. get_or x c.args.i Idle) (sym c.records_of.ensures) ∙ sym c.at-line.ensures in
    record {
      raises = λ p b h. h;
      lines = told_not _ _ c.args.i (λ k s e. c.in_default.not-Cleared k s (sym at ∙ e));
      pairs = refl;
      shown = refl;
      queue = c.requires.queue.0;
      asked = omega arith;
      aside = aside_none _;
      tied = refl;
    }
