use Rattle.std.proofs.Common.{◌≤◌, length, sym, subst, ap, ◌∙◌}
use Rattle.store.specs.Head.{Head}
use Rattle.store.proofs.Words.{target_count}
use Rattle.store.proofs.head.HeadPage.batch_len.Goals as goal

pub returns : goal.returns
returns c =
    let few = subst (λ (h : Head). length h.targets ≤ 64) (sym c.self.view_is) c.requires in
    sym (target_count c.self.inside.words.now c.self.invariant few) ∙ ap (λ (h : Head). length h.targets) c.self.view_is
