use Rattle.std.proofs.Common.{sym, ap, ◌∙◌, subst}
use Rattle.frames.specs.Layout.{Cache, cache_of}
use Rattle.frames.specs.Frames.{Clean, shown_by}
use Rattle.frames.proofs.Slots.{rows}
use Rattle.frames.proofs.Shown.{written_shown, written_clean}
use Rattle.frames.proofs.change.FramesMut.rewrite.Goals as goal

pub returns-clause-shown : goal.returns-clause-shown
returns-clause-shown c = λ s p h.
    let part = c.args.self.now.part.now in
    let k = c.args.self.now.sound in
    ap (λ (d : Cache). shown_by d s) c.put_frame.ensures.cache
    ∙ written_shown (cache_of part) k.table (rows part k.sized) s c.args.slot p c.args.words.now c.put_frame.ensures.low c.requires.fits h

pub returns-clause-clean : goal.returns-clause-clean
returns-clause-clean c = λ s clean.
    let part = c.args.self.now.part.now in
    let k = c.args.self.now.sound in
    subst (λ (d : Cache). Clean d s) (sym c.put_frame.ensures.cache)
    (written_clean (cache_of part) k.table (rows part k.sized) s clean c.args.slot 0 c.args.words.now c.put_frame.ensures.low c.requires.fits c.requires.marked)
