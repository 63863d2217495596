use Rattle.std.proofs.Common.{arith, length, length-set, subst, sym, ◌≤◌}
use Rattle.store.specs.Head.{Head}
use Rattle.store.proofs.Words.{begin_head, region_word}
use Rattle.store.proofs.head.HeadPageMut.begin_batch.Goals as goal

pub overflow_sub-head : goal.overflow_sub-head
overflow_sub-head c = omega (arith, region_word c.args.self.now.words.now, c.requires.side)

pub invariant_of-self : goal.invariant_of-self
invariant_of-self c =
    let e = begin_head c.args.self.now.words.now c.args.self.now.long c.args.self.now.few in
    record { long = simp length-set c.args.self.now.long; few = subst (λ (h : Head). length h.targets ≤ 64) (sym e) (omega arith) }

pub returns-clause-head : goal.returns-clause-head
returns-clause-head c = begin_head c.args.self.now.words.now c.args.self.now.long c.args.self.now.few
