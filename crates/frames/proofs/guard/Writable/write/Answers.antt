use Rattle.std.proofs.Common.{ℕ, List, ap, ◌∙◌, rules}
use Rattle.frames.specs.Layout.{cache_of}
use Rattle.frames.specs.Frames.{at, slot_of, shown_by}
use Rattle.frames.proofs.guard.Writable.write.Goals as goal

pub returns-clause-shown : goal.returns-clause-shown
returns-clause-shown c = λ s p h.
    let same = c.new-frames.ensures.same in
    let w = c.rewrite.ensures.shown s p (ap (λ (x : List ℕ). slot_of (cache_of x) p) same ∙ h)
    ∙ ap (λ (x : List ℕ). at p c.args.from.now (shown_by (cache_of x) s)) same in
    search rules
