use Rattle.std.proofs.Common.{ℕ, List, Some, sym, ap, ◌∙◌, rules}
use Rattle.frames.specs.Frames.{at}
use Rattle.frames.proofs.change.FramesMut.change.Goals as goal

pub returns-clause-shown : goal.returns-clause-shown
returns-clause-shown c = λ s p h.
    let e = c.enter-frame.ensures in
    let there = e.slots p ∙ h ∙ ap (λ (i : ℕ). Some i) (sym e.slot) in
    let w = c.write.ensures.shown s p there ∙ ap (λ (f : ℕ → List ℕ). at p c.args.words.now f) (e.shown s) in
    search rules
