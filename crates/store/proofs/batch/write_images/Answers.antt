use Rattle.std.proofs.Common.{◌≡◌, ◌-◌, ap, ◌∙◌, rules}
use Rattle.store.specs.Head.{Head, slot_in}
use Rattle.store.specs.Store.{next}
use Rattle.store.proofs.batch.write_images.Goals as goal

pub returns-clause-row : goal.returns-clause-row
returns-clause-row g c = c.write_batch.ensures.row (slot_in (1 - (next c.args.part.now).region)) (λ k p l q.
    let e : p ≡ slot_in (1 - c.region.result) k = search rules in
    e ∙ ap (λ n. slot_in (1 - n) k) (c.region.ensures ∙ ap (λ (h : Head). h.region) c.next_head.ensures))
