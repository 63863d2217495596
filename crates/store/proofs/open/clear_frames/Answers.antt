use Rattle.std.proofs.Common.{◌≡◌, ℕ, List, length, sym, ap, ◌∙◌, subst, rules}
use Rattle.frames.specs.Layout.{cache_of, cleared}
use Rattle.frames.specs.Frames.{Sound as Framed, Clean, pinned, shown_by}
use Rattle.store.proofs.Places.{frames_parts, held_next}
use Rattle.store.proofs.open.clear_frames.Goals as goal

pub returns : goal.returns
returns c =
    let part = c.args.part.now in
    let w = c.reset-frames.result.part.now in
    let a : c.held-1.given.0 ≡ c.reset-frames.result.part.now = search rules in
    let k : length c.held-1.given.0 ≡ 61952 = ap length a ∙ c.reset-frames.result.sound.sized in
    let f = frames_parts c.held-1.given.0 c.split_at_mut-held.result.1.now k ∙ a in
    record {
      head = held_next part c.held-1.given.0 c.split_at_mut-held.result.1.now c.told-part k c.split_at_mut-held.ensures.back;
      table = subst Framed (sym f) c.reset-frames.result.sound;
      cache = ap cache_of f ∙ c.reset-frames.ensures.cache ∙ ap (λ (x : List ℕ). cleared (cache_of x).frames) c.split_at_mut-held.ensures.front;
      shown = λ s. ap (λ (z : List ℕ). shown_by (cache_of z) s) f ∙ c.reset-frames.ensures.shown s;
      clean = λ s. subst (λ (z : List ℕ). Clean (cache_of z) s) (sym f) (c.reset-frames.ensures.clean s);
      pins = ap (λ (z : List ℕ). pinned (cache_of z)) f ∙ c.reset-frames.ensures.pins;
    }
