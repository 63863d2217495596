use Rattle.std.proofs.Common.{◌≡◌, ap, ◌∙◌, rules}
use Rattle.frames.specs.Layout.{Cache}
use Rattle.frames.specs.Frames.{batch_page}
use Rattle.store.specs.Store.{cache}
use Rattle.store.proofs.batch.install.Goals as goal

pub returns-clause-row : goal.returns-clause-row
returns-clause-row g c = c.write_batch.ensures.row (batch_page (cache c.args.part.now)) (λ k p l q.
    let e : p ≡ batch_page c.look-frames.result k = search rules in
    e ∙ ap (λ (d : Cache). batch_page d k) c.look-frames.ensures)
