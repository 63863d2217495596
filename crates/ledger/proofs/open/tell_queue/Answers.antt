use Rattle.std.proofs.Common.{◌<◌, ◌≤◌, ◌∙◌, arith}
use Rattle.std.proofs.lemmas.Result.{err_from_is_err_and}
use Rattle.ledger.proofs.Filing.{aside_trans}
use Rattle.ledger.proofs.Telling.{telling_more, telling_all}
use Rattle.ledger.proofs.open.tell_queue.Goals as goal

pub tell_record-requires-clause-raised : goal.tell_record-requires-clause-raised
tell_record-requires-clause-raised g c = let h = c.requires.raised in (h.0, h.1, c.loop-i.invariant.telling.raised h.0 h.1 h.2)

pub returns-in_err-tell_record-clause-raises : goal.returns-in_err-tell_record-clause-raises
returns-in_err-tell_record-clause-raises g c = λ p b h.
    let n = err_from_is_err_and c.from_residual.result c.from_residual.ensures.1 in
    rw n.1 (c.in_err-tell_record.ensures.raises p b (c.loop-i.invariant.telling.raised p b h))

pub returns-in_err-tell_record-clause-aside : goal.returns-in_err-tell_record-clause-aside
returns-in_err-tell_record-clause-aside g c = aside_trans _ _ _ c.loop-i.invariant.telling.aside c.tell_record.ensures.aside

pub returns-in_err-tell_record-clause-tied : goal.returns-in_err-tell_record-clause-tied
returns-in_err-tell_record-clause-tied g c = c.tell_record.ensures.tied ∙ c.loop-i.invariant.tied

pub loop-i-preserved : goal.loop-i-preserved
loop-i-preserved g c =
    let e = c.in_ok-tell_record.ensures in
    let l : c.loop-i.i < c.args.queue.count = omega (arith, c.loop-i-test.true) in
    record {
      telling = telling_more _ c.args.room.now c.args.store.now c.args.queue c.loop-i.i _ c.loop-i.room c.loop-i.store c.loop-i.invariant.telling l _ c.tell_record.new.room c.tell_record.new.store
          e.raises e.lines e.pairs e.shown e.queue e.asked e.aside;
      tied = c.tell_record.ensures.tied ∙ c.loop-i.invariant.tied;
    }

pub returns-clause-lines : goal.returns-clause-lines
returns-clause-lines g c =
    let l : c.args.queue.count ≤ c.loop-i.i = omega (arith, c.loop-i-test.false) in
    telling_all _ c.args.room.now c.args.store.now c.args.queue c.loop-i.i _ c.loop-i.room c.loop-i.store c.loop-i.invariant.telling l
