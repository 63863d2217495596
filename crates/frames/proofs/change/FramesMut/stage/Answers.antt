use Rattle.std.proofs.Common.{sym, ap, ◌∙◌, subst}
use Rattle.frames.specs.Layout.{Cache, cache_of}
use Rattle.frames.specs.Frames.{Clean, enter}
use Rattle.frames.proofs.Slots.{rows}
use Rattle.frames.proofs.Shown.{staged_clean}
use Rattle.frames.proofs.change.FramesMut.stage.Goals as goal

pub returns-clause-shown : goal.returns-clause-shown
returns-clause-shown c = λ v k. c.join.ensures.shown v ∙ c.fill.ensures.shown v k

pub returns-clause-clean : goal.returns-clause-clean
returns-clause-clean c = λ v k.
    let part = c.args.self.now.part.now in
    let s = c.args.self.now.sound in
    let e = c.join.ensures.cache ∙ ap (λ (d : Cache). enter d c.args.slot) c.fill.ensures.cache in
    subst (λ (d : Cache). Clean d v) (sym e)
    (staged_clean (cache_of part) s.table (rows part s.sized) v k c.args.slot c.args.p c.args.words.now c.fill.ensures.stands.low c.requires.fits.1 c.requires.fits.0 c.requires.idle c.requires.new)
