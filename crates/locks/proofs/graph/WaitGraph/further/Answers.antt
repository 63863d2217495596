use Rattle.std.proofs.Common.{sym, ap, ◌∙◌}
use Rattle.locks.specs.Sets.{is_in}
use Rattle.locks.specs.Graphs.{waits_in}
use Rattle.locks.specs.declared.set.ClerkSet.{ClerkSet}
use Rattle.locks.proofs.Bits.{spread_none, spread_in, spread_out}
use Rattle.locks.proofs.graph.WaitGraph.further.Goals as goal
use Rattle.locks.proofs.graph.WaitGraph.further.Goals.{then-contains, else-contains}

pub loop-d-init : goal.loop-d-init
loop-d-init c = spread_none (waits_in c.args.self.now) (is_in c.args.set)

pub loop-d-preserved : goal.loop-d-preserved
unfolding waits_in
loop-d-preserved c e =
    let w = waits_in c.args.self.now in
    let s = is_in c.args.set in
    let d = c.loop-d.d in
    elim c.if-contains.branch [
      | then-contains v ↦ ap (λ (x : ClerkSet). is_in x e) v.all-is ∙ v.joined-all.ensures e ∙ spread_in w s d e (is_in c.loop-d.all e) (c.loop-d.invariant e) (ap s (sym c.new.ensures) ∙ sym v.if-contains.ensures)
      | else-contains v ↦ ap (λ (x : ClerkSet). is_in x e) v.all-is ∙ spread_out w s d e (is_in c.loop-d.all e) (c.loop-d.invariant e) (ap s (sym c.new.ensures) ∙ sym v.if-contains.ensures)
    ]
