use Rattle.std.proofs.Common.{◌≡◌, ℕ, List, length, sym, ap, ◌∙◌, subst, rules}
use Rattle.frames.specs.Layout.{Cache, cache_of}
use Rattle.frames.specs.Frames.{Sound as Framed, Clean, changed, shown_by, fill}
use Rattle.frames.proofs.Slots.{rows}
use Rattle.frames.proofs.Changed.{filled_changed}
use Rattle.store.specs.Store.{frames_of, cache}
use Rattle.store.proofs.Places.{frames_parts, held_next, held_long}
use Rattle.store.proofs.Views.{intact_filled}
use Rattle.store.proofs.shown.keep_in.Goals as goal

pub returns : goal.returns
returns c =
    let part = c.args.part.now in
    let slot = c.args.slot in
    let words = c.args.words.now in
    let r = c.split_at_mut-held.result.1.now in
    let a : c.held-1.given.0 ≡ c.fill.new.self.part.now = search rules in
    let k : length c.held-1.given.0 ≡ 61952 = ap length a ∙ c.fill.new.self.sound.sized in
    let back = c.split_at_mut-held.ensures.back in
    let f = frames_parts c.held-1.given.0 r k ∙ a in
    let held = c.new-frames.ensures.same ∙ c.split_at_mut-held.ensures.front in
    let ca = ap cache_of f ∙ c.fill.ensures.cache ∙ ap (λ (x : List ℕ). fill (cache_of x) slot c.args.p words) held in
    let long = held_long part c.held-1.given.0 r c.told-part k back in
    let next = held_next part c.held-1.given.0 r c.told-part k back in
    record {
      kept = λ m s i far near got.
          let y = c.fill.ensures.same m.shown (subst (λ (x : List ℕ). Clean (cache_of x) m.shown) (sym held) i.clean) got in
          record {
            intact = intact_filled m part _ s slot c.args.p words i long next (subst Framed (sym f) c.fill.new.self.sound) ca
                (subst (λ (x : List ℕ). Clean (cache_of x) m.shown) (sym f) y.1) c.requires.idle c.fill.ensures.stands.low c.requires.fits.1 far near;
            head = next;
            view = ap (λ (x : List ℕ). shown_by (cache_of x) m.shown) f ∙ y.0 ∙ ap (λ (x : List ℕ). shown_by (cache_of x) m.shown) held;
            changes = ap changed ca ∙ filled_changed (cache part) i.table.table (rows (frames_of part) i.table.sized) slot c.args.p c.fill.ensures.stands.low words c.requires.fits.0 c.requires.idle c.requires.new;
            count = ap (λ (d : Cache). d.count) ca;
          };
    }
