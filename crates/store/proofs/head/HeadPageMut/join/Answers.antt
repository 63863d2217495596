use Rattle.std.proofs.Common.{◌+◌, ◌≤◌, length, length-set, get_or, set, sym, subst, ap, ◌∙◌, arith}
use Rattle.store.specs.Head.{Head, head_of}
use Rattle.store.proofs.Words.{join_head, own_count}
use Rattle.store.proofs.head.HeadPageMut.join.Goals as goal

pub put_record-requires : goal.put_record-requires
put_record-requires c = (c.args.self.now.long, omega (arith, own_count c.args.self.now.words.now, c.requires.room))

pub overflow_add-head : goal.overflow_add-head
overflow_add-head c = omega (arith, own_count c.args.self.now.words.now, c.requires.room)

pub invariant_of-self : goal.invariant_of-self
invariant_of-self c =
    let e = ap (λ p. head_of (set p 75 (get_or c.args.self.now.words.now 75 0 + 1))) c.put_record.ensures
    ∙ join_head c.args.self.now.words.now c.args.self.now.long c.args.self.now.few (get_or c.args.self.now.words.now 75 0) c.args.item (sym (own_count c.args.self.now.words.now)) (omega (arith, own_count c.args.self.now.words.now, c.requires.room)) in
    record {
      long = length-set c.put_record.new.page 75 (get_or c.args.self.now.words.now 75 0 + 1) ∙ c.put_record.auto.page ∙ c.args.self.now.long;
      few = subst (λ (h : Head). length h.targets ≤ 64) (sym e) c.args.self.now.few;
    }

pub returns-clause-head : goal.returns-clause-head
returns-clause-head c =
    ap (λ p. head_of (set p 75 (get_or c.args.self.now.words.now 75 0 + 1))) c.put_record.ensures
    ∙ join_head c.args.self.now.words.now c.args.self.now.long c.args.self.now.few (get_or c.args.self.now.words.now 75 0) c.args.item (sym (own_count c.args.self.now.words.now)) (omega (arith, own_count c.args.self.now.words.now, c.requires.room))
