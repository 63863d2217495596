use Rattle.std.proofs.Common.{arith, get_or, length, length-append, length-set, refl, subst, sym, ◌≤◌}
use Rattle.store.specs.Head.{Head}
use Rattle.store.proofs.Words.{aim_head, target_count}
use Rattle.store.proofs.head.HeadPageMut.push_target.Goals as goal

pub overflow_add-head : goal.overflow_add-head
overflow_add-head c = omega (arith, target_count c.args.self.now.words.now c.args.self.now.long c.args.self.now.few, c.requires.room)

pub offset_bounds-head-n : goal.offset_bounds-head-n
offset_bounds-head-n c = omega (arith, target_count c.args.self.now.words.now c.args.self.now.long c.args.self.now.few, c.requires.room)

pub bounds-head-n : goal.bounds-head-n
bounds-head-n c = omega (arith, target_count c.args.self.now.words.now c.args.self.now.long c.args.self.now.few, c.requires.room, c.args.self.now.long)

pub overflow_add-head-2 : goal.overflow_add-head-2
overflow_add-head-2 c = omega (arith, target_count c.args.self.now.words.now c.args.self.now.long c.args.self.now.few, c.requires.room)

pub invariant_of-self : goal.invariant_of-self
invariant_of-self c =
    let e = aim_head c.args.self.now.words.now c.args.self.now.long c.args.self.now.few c.args.page (get_or c.args.self.now.words.now 2 0) refl
    (omega (arith, target_count c.args.self.now.words.now c.args.self.now.long c.args.self.now.few, c.requires.room)) in
    record { long = simp length-set c.args.self.now.long; few = subst (λ (h : Head). length h.targets ≤ 64) (sym e) (simp length-append (omega arith)) }

pub returns-clause-head : goal.returns-clause-head
returns-clause-head c = aim_head c.args.self.now.words.now c.args.self.now.long c.args.self.now.few c.args.page (get_or c.args.self.now.words.now 2 0) refl
    (omega (arith, target_count c.args.self.now.words.now c.args.self.now.long c.args.self.now.few, c.requires.room))
