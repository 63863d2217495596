use Rattle.std.proofs.Common.{◌<◌, ◌≤◌, length, sym, subst, ap, ◌∙◌}
use Rattle.store.specs.Head.{Head, target}
use Rattle.store.proofs.Words.{target_word}
use Rattle.store.proofs.head.HeadPage.target.Goals as goal

pub returns : goal.returns
returns c =
    let e = sym c.self.view_is in
    let few = subst (λ (h : Head). length h.targets ≤ 64) e c.requires.few in
    let named = subst (λ (h : Head). c.args.k < length h.targets) e c.requires.named in
    target_word c.self.inside.words.now c.args.k c.self.invariant few named ∙ ap (λ (h : Head). target h c.args.k) c.self.view_is
