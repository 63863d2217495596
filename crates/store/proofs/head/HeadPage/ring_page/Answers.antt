use Rattle.std.proofs.Common.{◌<◌, subst, sym, ap, arith}
use Rattle.store.specs.Head.{Head, head_of, ring_page}
use Rattle.store.proofs.head.HeadPage.ring_page.Goals as goal

pub overflow_add-result : goal.overflow_add-result
unfolding head_of
overflow_add-result c = omega (arith, subst (λ (h : Head). h.first < 264) (sym c.self.view_is) c.requires.0, c.requires.1)

pub returns : goal.returns
unfolding head_of
returns c = ap (λ (h : Head). ring_page h c.args.i) c.self.view_is
