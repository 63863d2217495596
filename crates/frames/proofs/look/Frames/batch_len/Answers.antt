use Rattle.std.proofs.Common.{subst, sym, ap, ◌∙◌}
use Rattle.std.proofs.lemmas.List.{length-map}
use Rattle.frames.specs.Layout.{Cache}
use Rattle.frames.specs.Frames.{Table, page_in, batch}
use Rattle.frames.proofs.Slots.{Rows, rows}
use Rattle.frames.proofs.Batch.{batch_long}
use Rattle.frames.proofs.look.Frames.batch_len.Goals as goal

pub returns-clause-pages : goal.returns-clause-pages
returns-clause-pages c =
    let b = c.args.self.now in
    let t = subst Table c.self.view_is c.self.invariant.table in
    let r = subst Rows c.self.view_is (rows c.self.inside.part.now c.self.invariant.sized) in
    c.count.ensures ∙ ap (λ (d : Cache). d.count) c.self.view_is ∙ sym (length-map (batch b) (page_in b) ∙ batch_long b t r)
