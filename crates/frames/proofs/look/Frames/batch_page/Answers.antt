use Rattle.std.proofs.Common.{subst, sym, ap, ◌∙◌}
use Rattle.frames.specs.Layout.{Cache}
use Rattle.frames.specs.Frames.{Table, page_in}
use Rattle.frames.proofs.Slots.{Rows, rows}
use Rattle.frames.proofs.Batch.{batch_page_lem}
use Rattle.frames.proofs.look.Frames.batch_page.Goals as goal

pub returns-clause-listed : goal.returns-clause-listed
returns-clause-listed c =
    let b = c.args.self.now in
    let t = subst Table c.self.view_is c.self.invariant.table in
    let r = subst Rows c.self.view_is (rows c.self.inside.part.now c.self.invariant.sized) in
    c.word.ensures ∙ ap (λ (d : Cache). page_in d c.batch_slot.result) c.self.view_is ∙ ap (page_in b) c.batch_slot.ensures ∙ sym (batch_page_lem b t r c.args.place c.requires)
