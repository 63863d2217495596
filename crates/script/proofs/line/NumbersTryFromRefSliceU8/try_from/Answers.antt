use Rattle.std.proofs.Common.{◌≡◌, ◌<◌, length, drop, arith}
use Rattle.std.proofs.lemmas.List.{drop-drop}
use Rattle.script.proofs.Operands.{Spaces, spaces, no_first, one_number, no_second, two_numbers}
use Rattle.script.proofs.Reading.{no_value}
use Rattle.script.proofs.Words.{back_is}
use Rattle.script.proofs.line.NumbersTryFromRefSliceU8.try_from.Goals as goal

pub returns-in_err-first-in-32 : goal.returns-in_err-first-in-32
returns-in_err-first-in-32 c =
    let s : Spaces c.args.text.now c.word_end.result = spaces _ _ (omega arith) (omega arith) c.word_end.ensures in
    let first = simp back_is at (rw c.split_at.ensures.front at c.in_err-first-in-32.ensures) in
    rw (no_value _ c.from_residual.ensures.0) (no_first _ _ s first)

pub returns-in-empty-more : goal.returns-in-empty-more
returns-in-empty-more c =
    let s : Spaces c.args.text.now c.word_end.result = spaces _ _ (omega arith) (omega arith) c.word_end.ensures in
    let first = simp back_is at (rw c.split_at.ensures.front at c.in_ok-first-in-32.ensures) in
    let all = simp back_is at c.split_at.ensures.back_len in
    let last : c.word_end.result ≡ length (drop 1 c.args.text.now) = omega (arith, all) in
    one_number _ _ _ s last first

pub returns-in_err-read_number-in-len1-up : goal.returns-in_err-read_number-in-len1-up
returns-in_err-read_number-in-len1-up c =
    let s : Spaces c.args.text.now c.word_end.result = spaces _ _ (omega arith) (omega arith) c.word_end.ensures in
    let all = simp back_is at c.split_at.ensures.back_len in
    let more : c.word_end.result < length (drop 1 c.args.text.now) = omega (arith, all) in
    let second = simp back_is at (rw c.split_at.ensures.back at c.in_err-read_number-in-len1-up.ensures) in
    rw (no_value _ c.from_residual-in_err-read_number-in-len1-up.ensures.0) (no_second _ _ s more (rw (drop-drop 1 c.word_end.result (drop 1 c.args.text.now)) at second))

pub returns-in_ok-read_number-in-len1-up : goal.returns-in_ok-read_number-in-len1-up
returns-in_ok-read_number-in-len1-up c =
    let s : Spaces c.args.text.now c.word_end.result = spaces _ _ (omega arith) (omega arith) c.word_end.ensures in
    let all = simp back_is at c.split_at.ensures.back_len in
    let first = simp back_is at (rw c.split_at.ensures.front at c.in_ok-first-in-32.ensures) in
    let second = simp back_is at (rw c.split_at.ensures.back at c.in_ok-read_number-in-len1-up.ensures) in
    let more : c.word_end.result < length (drop 1 c.args.text.now) = omega (arith, all) in
    two_numbers _ _ _ _ s more first (rw (drop-drop 1 c.word_end.result (drop 1 c.args.text.now)) at second)
