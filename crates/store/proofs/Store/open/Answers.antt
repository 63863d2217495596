use Rattle.std.proofs.Common.{ℕ, true, false, List, sym, ap, ◌∙◌, subst}
use Rattle.std.proofs.lemmas.Result.{MatchResult-from_err}
use Rattle.frames.specs.Layout.{cache_of}
use Rattle.frames.specs.Frames.{Sound as Framed, Clean, pinned, shown_by}
use Rattle.store.specs.Head.{Head, head_of, stamped}
use Rattle.store.proofs.Media.{rested_safe}
use Rattle.store.proofs.Comes.{read_lost, redo_lost, opened}
use Rattle.store.proofs.Store.open.Goals as goal

pub returns-in_err-load_head-clause-opens : goal.returns-in_err-load_head-clause-opens
returns-in_err-load_head-clause-opens g c = MatchResult-from_err c.from_residual.result _ _ c.from_residual.ensures.0 (λ _. read_lost _ _ _ _ (rested_safe c.requires.rested) c.in_err-load_head.ensures.reads)

pub returns-in_err-redo-clause-opens : goal.returns-in_err-redo-clause-opens
returns-in_err-redo-clause-opens g c = MatchResult-from_err c.from_residual-in_err-redo.result _ _ c.from_residual-in_err-redo.ensures.0
    (λ _. redo_lost (g.D.Device.medium c.args.d.now) _ _ c.load_head.new.part false c.requires.rested c.in_ok-load_head.ensures.reads c.in_err-redo.ensures.row tt)

pub returns-clause-opens : goal.returns-clause-opens
returns-clause-opens g c =
    let f = c.stamp_next.ensures.frames in
    opened (g.D.Device.medium c.args.d.now) (g.D.Device.medium c.load_head.new.d) (g.D.Device.medium c.redo.new.d) c.load_head.new.part true c.requires.rested
    c.in_ok-load_head.ensures.reads c.in_ok-redo.ensures.row tt c.stamp_next.new.part _
    c.stamp_next.array_long
    (c.stamp_next.ensures.head ∙ ap (λ w. stamped (head_of w)) (c.clear_frames.ensures.head ∙ c.redo.ensures.head))
    (subst Framed (sym f) c.clear_frames.ensures.table) (ap cache_of f ∙ c.clear_frames.ensures.cache)
    (λ s. ap (λ (z : List ℕ). shown_by (cache_of z) s) f ∙ c.clear_frames.ensures.shown s) (λ s. subst (λ (z : List ℕ). Clean (cache_of z) s) (sym f) (c.clear_frames.ensures.clean s))
    (ap (λ (z : List ℕ). pinned (cache_of z)) f ∙ c.clear_frames.ensures.pins)
    _ (ap (λ o. record { fresh = false; imaged = false; lasted = false; root = o; worked = 0 }) (c.root-root.ensures ∙ ap (λ (h : Head). h.root) c.next_head.ensures))
