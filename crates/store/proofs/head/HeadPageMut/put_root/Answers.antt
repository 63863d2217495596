use Rattle.std.proofs.Common.{length, length-set, subst, sym, ◌≤◌}
use Rattle.store.specs.Head.{Head}
use Rattle.store.proofs.Words.{root_head}
use Rattle.store.proofs.head.HeadPageMut.put_root.Goals as goal

pub invariant_of-self : goal.invariant_of-self
invariant_of-self c =
    let e = root_head c.args.self.now.words.now c.args.self.now.long c.args.self.now.few c.args.root in
    record { long = simp length-set c.args.self.now.long; few = subst (λ (h : Head). length h.targets ≤ 64) (sym e) c.args.self.now.few }

pub returns-clause-head : goal.returns-clause-head
returns-clause-head c = root_head c.args.self.now.words.now c.args.self.now.long c.args.self.now.few c.args.root
