use Rattle.std.proofs.Common.{◌≡◌, ◌+◌, ◌%◌, set, refl, sym, ap, ◌∙◌, subst}
use Rattle.frames.specs.Layout.{Cache, cache_of, with_pages, with_hand}
use Rattle.frames.specs.Frames.{Clean, page_in, shown_by, slot_of, fill}
use Rattle.frames.proofs.Slots.{rows}
use Rattle.frames.proofs.Shown.{page_filled, slot_filled, filled_shown, filled_same, filled_clean}
use Rattle.frames.proofs.Tables.{sound_as, filled_table}
use Rattle.frames.proofs.change.FramesMut.fill.Goals as goal

pub invariant_of-self : goal.invariant_of-self
invariant_of-self c =
    let part = c.args.self.now.part.now in
    let s = c.args.self.now.sound in
    let e = c.put_hand.ensures ∙ ap (with_hand (cache_of c.put.new.part)) c.after.ensures
    ∙ ap (λ d. with_hand d ((c.args.slot + 1) % 120)) (c.put.ensures.cache ∙ ap (λ (d : Cache). with_pages d (set d.pages c.args.slot c.args.p)) c.put_frame.ensures.cache) in
    record {
      sound = sound_as _ _ (c.put_hand.auto.part ∙ c.put.auto.part ∙ c.put_frame.auto.part ∙ s.sized) e
          (filled_table (cache_of part) s.table (rows part s.sized) c.args.slot c.put_frame.ensures.low c.args.p c.args.words.now c.requires.fits.0 c.requires.idle c.requires.new);
    }

pub returns : goal.returns
returns c =
    let part = c.args.self.now.part.now in
    let s = c.args.self.now.sound in
    let b = cache_of part in
    let p = c.args.p in
    let i = c.args.slot in
    let w = c.args.words.now in
    let e : cache_of c.put_hand.new.part ≡ fill (cache_of c.args.self.now.part.now) c.args.slot c.args.p c.args.words.now =
    c.put_hand.ensures ∙ ap (with_hand (cache_of c.put.new.part)) c.after.ensures
    ∙ ap (λ d. with_hand d ((i + 1) % 120)) (c.put.ensures.cache ∙ ap (λ (d : Cache). with_pages d (set d.pages i p)) c.put_frame.ensures.cache) in
    let t = s.table in
    let r = rows part s.sized in
    let low = c.put_frame.ensures.low in
    let fits = c.requires.fits in
    record {
      cache = e;
      stands = record {
        low = low;
        page = ap (λ (d : Cache). page_in d i) e ∙ page_filled b t r i p w low fits.0 c.requires.new;
        used = fits.0;
      };
      slot = ap (λ (d : Cache). slot_of d p) e ∙ slot_filled b t r i p w low fits.0 c.requires.new;
      shown = λ s k. ap (λ (d : Cache). shown_by d s) e ∙ filled_shown b t r s k i p w low fits.1 fits.0 c.requires.idle c.requires.new;
      same = λ s k q. (
        ap (λ (d : Cache). shown_by d s) e ∙ filled_same b t r s k i p w low fits.1 fits.0 c.requires.idle c.requires.new q,
        subst (λ (d : Cache). Clean d s) (sym e) (filled_clean b t r s k i p w low fits.1 fits.0 c.requires.idle c.requires.new q),
      );
      named = refl;
    }
