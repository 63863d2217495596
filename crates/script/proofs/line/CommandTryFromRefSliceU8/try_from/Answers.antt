use Rattle.std.proofs.Common.{◌≡◌, ◌<◌, ◌∙◌, length, arith}
use Rattle.std.proofs.lemmas.List.{drop-drop}
use Rattle.script.proofs.Lines.{no_clerk, no_tail, no_order, no_op, an_ask, no_own, an_own}
use Rattle.script.proofs.Reading.{no_value}
use Rattle.script.proofs.Words.{back_is}
use Rattle.script.proofs.line.CommandTryFromRefSliceU8.try_from.Goals as goal

pub returns-in_err-try_from-in-Ok : goal.returns-in_err-try_from-in-Ok
returns-in_err-try_from-in-Ok c =
    let word = rw c.split_at.ensures.front at c.in-Ok.ensures in
    let large = c.in_err-try_from-in-Ok.ensures in
    rw (no_value _ c.from_residual.ensures.0) (no_clerk _ _ c.in-Ok.number c.word_end.ensures word (omega (arith, large)))

pub returns-in_err-who-in-Ok : goal.returns-in_err-who-in-Ok
returns-in_err-who-in-Ok c =
    let word = rw c.split_at.ensures.front at c.in-Ok.ensures in
    let large = c.in_err-who-in-Ok.ensures in
    let same = c.in_ok-try_from-in-Ok.ensures in
    rw (no_value _ c.from_residual-in_err-who-in-Ok.ensures.0) (no_clerk _ _ c.in-Ok.number c.word_end.ensures word (omega (arith, large.1, same.1)))

pub returns-in_default : goal.returns-in_default
returns-in_default c =
    let word = rw c.split_at.ensures.front at c.in-Ok.ensures in
    let none : length c.split_at.result.1.now ≡ 0 = omega arith in
    no_tail _ _ c.in-Ok.number c.word_end.ensures word (rw c.split_at.ensures.back at none)

pub returns-in_err-order-in-Ok : goal.returns-in_err-order-in-Ok
returns-in_err-order-in-Ok c =
    let word = rw c.split_at.ensures.front at c.in-Ok.ensures in
    let order = simp back_is at (rw c.split_at.ensures.back at c.in_err-order-in-Ok.ensures) in
    rw (no_value _ c.from_residual-in_err-order-in-Ok.ensures.0) (no_order _ _ _ c.word_end.ensures word (rw (drop-drop 1 c.word_end.result c.args.line.now) at order))

pub returns-in_err-try_into-in-Ok : goal.returns-in_err-try_into-in-Ok
returns-in_err-try_into-in-Ok c =
    let word = rw c.split_at.ensures.front at c.in-Ok.ensures in
    let order = simp back_is at (rw c.split_at.ensures.back at c.in_ok-order-in-Ok.ensures) in
    rw (no_value _ c.from_residual-in_err-try_into-in-Ok.ensures.0) (no_op _ _ _ _ c.word_end.ensures word (rw (drop-drop 1 c.word_end.result c.args.line.now) at order) c.in_err-try_into-in-Ok.ensures)

pub returns-in_ok-try_into-in-Ok : goal.returns-in_ok-try_into-in-Ok
returns-in_ok-try_into-in-Ok c =
    let word = rw c.split_at.ensures.front at c.in-Ok.ensures in
    let order = simp back_is at (rw c.split_at.ensures.back at c.in_ok-order-in-Ok.ensures) in
    let is : c.in_ok-who-in-Ok.who ≡ c.in-Ok.number = c.in_ok-who-in-Ok.ensures.0 ∙ c.in_ok-try_from-in-Ok.ensures.1 in
    let small : c.in-Ok.number < 32 = omega (arith, is, c.in_ok-who-in-Ok.ensures.1) in
    let more : c.word_end.result < length c.args.line.now = omega (arith, c.split_at.ensures.back_len) in
    rw is (an_ask _ _ _ _ _ c.word_end.ensures word small more (rw (drop-drop 1 c.word_end.result c.args.line.now) at order) c.in_ok-try_into-in-Ok.ensures)

pub returns-in_err-try_into-in-Err : goal.returns-in_err-try_into-in-Err
returns-in_err-try_into-in-Err c =
    let word = rw c.split_at.ensures.front at c.in-Err.ensures in
    let order = c.in_err-try_into-in-Err.ensures in
    rw (no_value _ c.from_residual-in_err-try_into-in-Err.ensures.0) (no_own c.args.line.now c.word_end.result c.word_end.ensures word order)

pub returns-in_ok-try_into-in-Err : goal.returns-in_ok-try_into-in-Err
returns-in_ok-try_into-in-Err c =
    let word = rw c.split_at.ensures.front at c.in-Err.ensures in
    an_own c.args.line.now c.word_end.result _ c.word_end.ensures word c.in_ok-try_into-in-Err.ensures _ c.own_command.ensures
