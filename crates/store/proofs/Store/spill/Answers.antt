use Rattle.std.proofs.Common.{ℕ, List, true, false, subst, ap, ◌∙◌}
use Rattle.std.proofs.lemmas.Result.{err_from_is_err_and}
use Rattle.store.specs.Medium.{Wrote}
use Rattle.store.specs.Head.{Head, ring_page}
use Rattle.store.proofs.Grows.{spilled, spill_lost}
use Rattle.store.proofs.Store.spill.Goals as goal

pub returns-in_err-write-clause-spills : goal.returns-in_err-write-clause-spills
returns-in_err-write-clause-spills g c =
    let p = err_from_is_err_and c.from_residual.result c.from_residual.ensures.1 in
    let e = c.ring_page-p.ensures ∙ ap (ring_page c.next_head-next.result) c.full.ensures ∙ ap (λ (h : Head). ring_page h h.full) c.next_head-next.ensures in
    let w = subst (λ (b : List ℕ). Wrote 1 (g.D.Device.medium c.args.d.now) c.ring_page-p.result b false (g.D.Device.medium c.write.new.self)) c.next_page.ensures.words c.in_err-write.ensures.wrote in
    rw p.1 (spill_lost _ _ c.args.part.now _ _ c.requires.ready c.requires.room e w)

pub returns-clause-spills : goal.returns-clause-spills
returns-clause-spills g c =
    let e = c.ring_page-p.ensures ∙ ap (ring_page c.next_head-next.result) c.full.ensures ∙ ap (λ (h : Head). ring_page h h.full) c.next_head-next.ensures in
    let w = subst (λ (b : List ℕ). Wrote 1 (g.D.Device.medium c.args.d.now) c.ring_page-p.result b true (g.D.Device.medium c.write.new.self)) c.next_page.ensures.words c.in_ok-write.ensures.wrote in
    spilled _ _ c.args.part.now c.turn_next.new.part c.args.self.now _ c.requires.ready c.requires.brim c.requires.room e w
    c.turn_next.ensures.head c.turn_next.ensures.frames
