use Rattle.std.proofs.Common.{◌≡◌, ℕ, ◌+◌, ◌<◌, ◌≤◌, cond, List, length, get_or, sum, sym, ap, ◌∙◌, subst, arith, rules}
use Rattle.frames.specs.Layout.{Cache, cache_of}
use Rattle.frames.specs.Frames.{Sound as Framed, Clean, at, pinned, changed, shown_by, slot_of, enter, write}
use Rattle.frames.proofs.Slots.{rows, slot_some}
use Rattle.frames.proofs.Changed.{entered_changed}
use Rattle.store.specs.Store.{frames_of, cache}
use Rattle.store.proofs.Places.{frames_parts, held_next, held_long}
use Rattle.store.proofs.Changing.{entered_count}
use Rattle.store.proofs.Views.{entered_like, intact_changed}
use Rattle.store.proofs.shown.change_in.Goals as goal

pub returns : goal.returns
returns c =
    let part = c.args.part.now in
    let slot = c.args.slot in
    let words = c.args.words.now in
    let r = c.split_at_mut-held.result.1.now in
    let a : c.held-1.given.0 ≡ c.change.new.self.part.now = search rules in
    let k : length c.held-1.given.0 ≡ 61952 = ap length a ∙ c.change.new.self.sound.sized in
    let back = c.split_at_mut-held.ensures.back in
    let f = frames_parts c.held-1.given.0 r k ∙ a in
    let held = c.new-frames.ensures.same ∙ c.split_at_mut-held.ensures.front in
    let ca = ap cache_of f ∙ c.change.ensures.cache ∙ ap (λ (x : List ℕ). write (enter (cache_of x) slot) slot words) held in
    let long = held_long part c.held-1.given.0 r c.told-part k back in
    let next = held_next part c.held-1.given.0 r c.told-part k back in
    let y = entered_like (cache part) slot in
    let b = slot_some (cache part).pages c.args.p slot c.requires.there.0 in
    record {
      staged = λ m s i no' far near. let low : slot < 120 = omega (arith, b.0, (rows (frames_of part) i.table.sized).pages) in record {
        intact = intact_changed m part _ s i no' long next (subst Framed (sym f) c.change.new.self.sound)
            (subst (λ (x : List ℕ). Clean (cache_of x) m.shown) (sym f) (c.change.ensures.clean m.shown (subst (λ (x : List ℕ). Clean (cache_of x) m.shown) (sym held) i.clean)))
            (subst (λ (ps : List ℕ). (j : ℕ) → j < 120 → 0 < get_or ps j 0 → (393 ≤ get_or ps j 0) × (get_or ps j 0 < m.pages)) (sym (ap (λ (d : Cache). d.pages) ca ∙ y.0)) i.plain)
            (ap pinned ca ∙ ap sum y.1 ∙ i.pins);
        head = next;
        view = ap (λ (x : List ℕ). shown_by (cache_of x) m.shown) f
            ∙ c.change.ensures.shown m.shown c.args.p (ap (λ (x : List ℕ). slot_of (cache_of x) c.args.p) held ∙ c.requires.there.0)
            ∙ ap (λ (x : List ℕ). at c.args.p words (shown_by (cache_of x) m.shown)) held;
        changes = ap changed ca ∙ entered_changed (cache part) i.table.table (rows (frames_of part) i.table.sized) slot c.args.p low c.requires.there.0;
        count = subst (λ (d : Cache). d.count ≤ (cache part).count + cond (changed (cache part) c.args.p) 0 1) (sym ca) (entered_count (cache part) slot c.args.p c.requires.there.0);
      };
    }
