use Rattle.std.proofs.Common.{ap}
use Rattle.store.specs.Head.{Head, head_of}
use Rattle.store.proofs.head.HeadPage.done.Goals as goal

pub returns : goal.returns
unfolding head_of
returns c = ap (λ (h : Head). h.done) c.self.view_is
