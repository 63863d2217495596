use Rattle.std.proofs.Common.{ℕ, List, sym, subst, arith}
use Rattle.view_tests.specs.Play.{Sane}
use Rattle.view_tests.proofs.Sanely.{whole}
use Rattle.view_tests.proofs.play.Play.put.Goals as goal

pub invariant_of-self : goal.invariant_of-self
invariant_of-self c =
    let p = c.self.inside in
    let t = p.index.items.items in
    let old = subst (λ (w : List ℕ). Sane t w p.counts p.queue) (sym c.as_mut_slice.ensures.value) c.self.invariant in
    subst (λ (w : List ℕ). Sane t w c.say.new.counts p.queue) (sym (whole p.room.len c.say.new.room p.room.items (omega arith) (omega arith))) (c.say.ensures.sane t p.queue old tt)
