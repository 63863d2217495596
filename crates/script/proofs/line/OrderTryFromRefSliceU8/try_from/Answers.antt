use Rattle.script.proofs.Orders.{no_verb, bad_numbers, an_order}
use Rattle.script.proofs.Reading.{no_value}
use Rattle.script.proofs.line.OrderTryFromRefSliceU8.try_from.Goals as goal

pub returns-in_err-try_into : goal.returns-in_err-try_into
returns-in_err-try_into c = rw (no_value _ c.from_residual.ensures.0) (no_verb _ _ c.word_end.ensures (rw c.split_at.ensures.front at c.in_err-try_into.ensures))

pub returns-in_err-try_into-2 : goal.returns-in_err-try_into-2
returns-in_err-try_into-2 c = rw (no_value _ c.from_residual-in_err-try_into-2.ensures.0) (bad_numbers _ _ c.word_end.ensures (rw c.split_at.ensures.back at c.in_err-try_into-2.ensures))

pub returns : goal.returns
returns c = an_order _ _ _ _ c.word_end.ensures (rw c.split_at.ensures.front at c.in_ok-try_into.ensures) (rw c.split_at.ensures.back at c.in_ok-try_into-2.ensures)
