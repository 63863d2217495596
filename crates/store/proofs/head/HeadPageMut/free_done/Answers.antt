use Rattle.std.proofs.Common.{arith, length, length-set, subst, sym, ◌≤◌}
use Rattle.store.specs.Head.{Head, head_of}
use Rattle.store.proofs.Words.{free_head}
use Rattle.store.proofs.head.HeadPageMut.free_done.Goals as goal

pub overflow_add-done : goal.overflow_add-done
unfolding head_of
overflow_add-done c = omega (arith, c.requires.ring.1.1)

pub overflow_add-head : goal.overflow_add-head
unfolding head_of
overflow_add-head c = omega (arith, c.requires.ring.0, c.requires.ring.1.0, c.min-whole.ensures)

pub overflow_mul-head : goal.overflow_mul-head
unfolding head_of
overflow_mul-head c = omega (arith, c.requires.ring.1.0, c.min-whole.ensures)

pub invariant_of-self : goal.invariant_of-self
unfolding head_of
invariant_of-self c =
    let e = free_head c.args.self.now.words.now c.args.self.now.long c.args.self.now.few c.args.worked c.min-whole.result c.min-whole.ensures in
    record { long = simp length-set c.args.self.now.long; few = subst (λ (h : Head). length h.targets ≤ 64) (sym e) c.args.self.now.few }

pub returns-clause-head : goal.returns-clause-head
unfolding head_of
returns-clause-head c = free_head c.args.self.now.words.now c.args.self.now.long c.args.self.now.few c.args.worked c.min-whole.result c.min-whole.ensures
