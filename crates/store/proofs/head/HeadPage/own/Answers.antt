use Rattle.std.proofs.Common.{length, sym, ap, ◌∙◌}
use Rattle.store.specs.Head.{Head}
use Rattle.store.proofs.Words.{own_count}
use Rattle.store.proofs.head.HeadPage.own.Goals as goal

pub returns : goal.returns
returns c = sym (own_count c.self.inside.words.now) ∙ ap (λ (h : Head). length h.own) c.self.view_is
