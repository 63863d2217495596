use Rattle.std.proofs.Common.{◌≡◌, ap, ◌∙◌}
use Rattle.frames.specs.Layout.{Cache, cache_of, with_count}
use Rattle.frames.specs.Frames.{shown_by, settle}
use Rattle.frames.proofs.Slots.{rows}
use Rattle.frames.proofs.Shown.{settled_shown}
use Rattle.frames.proofs.Tables.{sound_as, settled_table}
use Rattle.frames.proofs.change.FramesMut.settle.Goals as goal

pub invariant_of-self : goal.invariant_of-self
invariant_of-self c =
    let s = c.args.self.now.sound in
    record { sound = sound_as _ _ (c.put_count.auto.part ∙ c.clear_marks.auto.part ∙ s.sized) (c.put_count.ensures ∙ ap (λ d. with_count d 0) c.clear_marks.ensures) (settled_table _ s.table) }

pub returns-clause-shown : goal.returns-clause-shown
returns-clause-shown c = λ s d q.
    let part = c.args.self.now.part.now in
    let e : cache_of c.put_count.new.part ≡ settle (cache_of c.args.self.now.part.now) = c.put_count.ensures ∙ ap (λ d. with_count d 0) c.clear_marks.ensures in
    ap (λ (x : Cache). shown_by x d) e ∙ settled_shown (cache_of part) c.args.self.now.sound.table (rows part c.args.self.now.sound.sized) s d q
