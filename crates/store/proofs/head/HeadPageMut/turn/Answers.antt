use Rattle.std.proofs.Common.{arith, length, length-set, subst, sym, ◌≤◌}
use Rattle.store.specs.Head.{Head}
use Rattle.store.proofs.Words.{turn_head, full_word}
use Rattle.store.proofs.head.HeadPageMut.turn.Goals as goal

pub overflow_add-head : goal.overflow_add-head
overflow_add-head c = omega (arith, full_word c.args.self.now.words.now, c.requires.room)

pub invariant_of-self : goal.invariant_of-self
invariant_of-self c =
    let e = turn_head c.args.self.now.words.now c.args.self.now.long c.args.self.now.few in
    record { long = simp length-set c.args.self.now.long; few = subst (λ (h : Head). length h.targets ≤ 64) (sym e) c.args.self.now.few }

pub returns-clause-head : goal.returns-clause-head
returns-clause-head c = turn_head c.args.self.now.words.now c.args.self.now.long c.args.self.now.few
