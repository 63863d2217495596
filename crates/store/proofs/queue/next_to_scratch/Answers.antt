use Rattle.std.proofs.Common.{◌≡◌, ◌-◌, length, take, drop, sym, ap, ◌∙◌, arith}
use Rattle.store.specs.Store.{next_of, frames_of}
use Rattle.store.proofs.Places.{next_front, frames_front, scratch_back}
use Rattle.store.proofs.queue.next_to_scratch.Goals as goal

pub returns-clause-scratch : goal.returns-clause-scratch
returns-clause-scratch c =
    let s = c.split_at_mut-held.ensures in
    let a = c.split_at_mut-held.result.0.now in
    let n : length a - 61952 ≡ 512 = omega (arith, s.front_len) in
    scratch_back a _ s.front_len (omega (arith, c.copy_from_slice.ensures.len, s.back_len, c.told-part))
    ∙ c.copy_from_slice.ensures.after ∙ ap (λ k. take k (drop 61952 a)) n ∙ sym (next_front a _ s.front_len) ∙ ap next_of (sym s.value)

pub returns-clause-head : goal.returns-clause-head
returns-clause-head c =
    let s = c.split_at_mut-held.ensures in
    next_front _ _ s.front_len ∙ sym (next_front _ _ s.front_len) ∙ ap next_of (sym s.value)

pub returns-clause-frames : goal.returns-clause-frames
returns-clause-frames c =
    let s = c.split_at_mut-held.ensures in
    frames_front _ _ s.front_len ∙ sym (frames_front _ _ s.front_len) ∙ ap frames_of (sym s.value)
