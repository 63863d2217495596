use Rattle.std.proofs.Common.{◌<◌, length, sym, refl, ap, ◌∙◌, subst, arith}
use Rattle.std.proofs.lemmas.Result.{err_from_is_err_and}
use Rattle.store.specs.Head.{Head, head_of, Sound, slot, slot_in, target}
use Rattle.store.specs.Store.{next}
use Rattle.store.proofs.Over.{wrote_none, wrote_part, wrote_all}
use Rattle.store.proofs.Installs.{copied_more}
use Rattle.store.proofs.open.redo.Goals as goal

pub loop-k-init : goal.loop-k-init
loop-k-init g c = record { row = wrote_none _ _ _; head = refl; tied = refl }

pub returns-in_err-copy_page : goal.returns-in_err-copy_page
returns-in_err-copy_page g c =
    let p = err_from_is_err_and c.from_residual.result c.from_residual.ensures.1 in
    let s : Sound (g.D.Device.medium c.args.d.now).pages (next c.args.part.now) = subst (λ w. Sound (g.D.Device.medium c.args.d.now).pages (head_of w)) (sym c.requires.head) c.requires.rested.head in
    let n = c.batch_len-n.ensures ∙ ap (λ (h : Head). length h.targets) c.next_head.ensures in
    let e = c.next_head-head.ensures ∙ ap head_of c.loop-k.invariant.head in
    let from = c.slot_in-from.ensures ∙ ap (λ r. slot_in r c.loop-k.k) c.region.ensures ∙ ap (λ (h : Head). slot h c.loop-k.k) e in
    let to = c.target-to.ensures ∙ ap (λ (h : Head). target h c.loop-k.k) e in
    let l : c.loop-k.k < length (next c.args.part.now).targets = omega (arith, c.loop-k-test.true, n) in
    record {
      row = rw p.1 (wrote_part (omega (arith, s.few)) (omega arith) (copied_more _ _ _ (next c.args.part.now) _ c.loop-k.k _ _ _ s l from to c.loop-k.invariant.row c.in_err-copy_page.ensures.wrote));
      head = c.copy_page.ensures.head ∙ c.loop-k.invariant.head;
      tied = c.copy_page.ensures.tied ∙ c.loop-k.invariant.tied;
    }

pub loop-k-preserved : goal.loop-k-preserved
loop-k-preserved g c =
    let s : Sound (g.D.Device.medium c.args.d.now).pages (next c.args.part.now) = subst (λ w. Sound (g.D.Device.medium c.args.d.now).pages (head_of w)) (sym c.requires.head) c.requires.rested.head in
    let n = c.batch_len-n.ensures ∙ ap (λ (h : Head). length h.targets) c.next_head.ensures in
    let e = c.next_head-head.ensures ∙ ap head_of c.loop-k.invariant.head in
    let from = c.slot_in-from.ensures ∙ ap (λ r. slot_in r c.loop-k.k) c.region.ensures ∙ ap (λ (h : Head). slot h c.loop-k.k) e in
    let to = c.target-to.ensures ∙ ap (λ (h : Head). target h c.loop-k.k) e in
    let l : c.loop-k.k < length (next c.args.part.now).targets = omega (arith, c.loop-k-test.true, n) in
    record {
      row = wrote_all (omega arith) (omega arith) (omega arith) (copied_more _ _ _ (next c.args.part.now) _ c.loop-k.k _ _ _ s l from to c.loop-k.invariant.row c.in_ok-copy_page.ensures.wrote);
      head = c.copy_page.ensures.head ∙ c.loop-k.invariant.head;
      tied = c.copy_page.ensures.tied ∙ c.loop-k.invariant.tied;
    }

pub returns : goal.returns
returns g c =
    let s : Sound (g.D.Device.medium c.args.d.now).pages (next c.args.part.now) = subst (λ w. Sound (g.D.Device.medium c.args.d.now).pages (head_of w)) (sym c.requires.head) c.requires.rested.head in
    let n = c.batch_len-n.ensures ∙ ap (λ (h : Head). length h.targets) c.next_head.ensures in
    record {
      row = wrote_all (omega (arith, s.few, c.loop-k.auto.k-end, n)) (omega (arith, c.loop-k.auto.k-end, n)) (omega (arith, c.loop-k-test.false, n)) c.loop-k.invariant.row;
      head = c.loop-k.invariant.head;
      tied = c.loop-k.invariant.tied;
    }
