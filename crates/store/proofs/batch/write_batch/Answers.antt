use Rattle.std.proofs.Common.{refl, ap, ◌∙◌, arith}
use Rattle.std.proofs.lemmas.Result.{err_from_is_err_and}
use Rattle.frames.specs.Layout.{Cache, frame_in}
use Rattle.frames.specs.Frames.{entry_in}
use Rattle.store.specs.Store.{cache}
use Rattle.store.proofs.Over.{wrote_none, wrote_part, wrote_all, wrote_more}
use Rattle.store.proofs.batch.write_batch.Goals as goal

pub loop-k-init : goal.loop-k-init
loop-k-init g c = record { row = λ t f. wrote_none _ _ _; pages = refl; left = omega arith; tied = refl }

pub returns-in_err-write_frame-clause-row : goal.returns-in_err-write_frame-clause-row
returns-in_err-write_frame-clause-row g c =
    let p = err_from_is_err_and c.from_residual.result c.from_residual.ensures.1 in
    let v = c.loop-k.invariant in
    let n = c.batch_len-k-end.ensures.count ∙ ap (λ (d : Cache). d.count) c.look-frames.ensures in
    let b = ap (frame_in (cache c.args.part.now).frames) (c.batch_slot.ensures ∙ ap (λ (d : Cache). entry_in d c.loop-k.k) c.look-frames.ensures) in
    rw p.1 (λ t f. wrote_part (omega (arith, c.loop-k-test.true, n)) (omega (arith, c.loop-k-test.true, n))
    (wrote_more (v.row t f) c.in_err-write_frame.ensures.wrote (f c.loop-k.k c.to.result (omega (arith, c.loop-k-test.true, n)) c.to.ensures) b))

pub loop-k-preserved : goal.loop-k-preserved
loop-k-preserved g c =
    let v = c.loop-k.invariant in
    let w = c.in_ok-write_frame.ensures.wrote in
    let n = c.batch_len-k-end.ensures.count ∙ ap (λ (d : Cache). d.count) c.look-frames.ensures in
    let b = ap (frame_in (cache c.args.part.now).frames) (c.batch_slot.ensures ∙ ap (λ (d : Cache). entry_in d c.loop-k.k) c.look-frames.ensures) in
    record {
      row = λ t f. wrote_more (v.row t f) w (f c.loop-k.k c.to.result (omega (arith, c.loop-k-test.true, n)) c.to.ensures) b;
      pages = w.pages ∙ v.pages;
      left = omega (arith, w.left tt, v.left);
      tied = c.write_frame.ensures.tied ∙ v.tied;
    }

pub returns-clause-row : goal.returns-clause-row
returns-clause-row g c =
    let v = c.loop-k.invariant in
    let n = c.batch_len-k-end.ensures.count ∙ ap (λ (d : Cache). d.count) c.look-frames.ensures in
    λ t f. wrote_all (omega (arith, c.loop-k.auto.k-end, n)) (omega (arith, c.loop-k.auto.k-end, n)) (omega (arith, c.loop-k-test.false, n)) (v.row t f)
