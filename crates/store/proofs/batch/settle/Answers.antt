use Rattle.std.proofs.Common.{◌≡◌, ℕ, List, length, sym, ap, ◌∙◌, subst, rules}
use Rattle.frames.specs.Layout.{cache_of}
use Rattle.frames.specs.Frames.{Sound as Framed, Clean, shown_by, settle, InPlace}
use Rattle.store.specs.Store.{cache}
use Rattle.store.proofs.Places.{frames_parts, held_next}
use Rattle.store.proofs.batch.settle.Goals as goal

pub returns : goal.returns
returns c =
    let part = c.args.part.now in
    let w = c.settle.new.self.part.now in
    let a : c.held-1.given.0 ≡ c.settle.new.self.part.now = search rules in
    let k : length c.held-1.given.0 ≡ 61952 = ap length a ∙ c.settle.new.self.sound.sized in
    let f = frames_parts c.held-1.given.0 c.split_at_mut-held.result.1.now k ∙ a in
    let held = c.new-frames.ensures.same ∙ c.split_at_mut-held.ensures.front in
    let ca = ap cache_of f ∙ c.settle.ensures.cache ∙ ap (λ (x : List ℕ). settle (cache_of x)) held in
    let put : (s t : ℕ → List ℕ) → InPlace (cache c.args.part.now) s t → InPlace (cache_of c.new-frames.result.part.now) s t =
    λ s t q. subst (λ (x : List ℕ). InPlace (cache_of x) s t) (sym held) q in
    record {
      head = held_next part c.held-1.given.0 c.split_at_mut-held.result.1.now c.told-part k c.split_at_mut-held.ensures.back;
      table = subst Framed (sym f) c.settle.new.self.sound;
      cache = ca;
      shown = λ s t q. ap (λ (x : List ℕ). shown_by (cache_of x) t) f ∙ c.settle.ensures.shown s t (put s t q) ∙ ap (λ (x : List ℕ). shown_by (cache_of x) s) held;
      clean = λ s t q l. subst (λ (x : List ℕ). Clean (cache_of x) t) (sym f) (c.settle.ensures.clean s t (put s t q) (subst (λ (x : List ℕ). Clean (cache_of x) s) (sym held) l));
    }
