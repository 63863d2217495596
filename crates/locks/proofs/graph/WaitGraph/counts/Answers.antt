use Rattle.std.proofs.Common.{◌||◌, ap, ◌∙◌}
use Rattle.locks.specs.Graphs.{waits_in, ring_by, counts_by}
use Rattle.locks.proofs.graph.WaitGraph.counts.Goals as goal

pub returns-then-is_free : goal.returns-then-is_free
unfolding counts_by
returns-then-is_free c = c.if-is_free.true ∙ ap (λ x. x || ring_by (waits_in c.args.self.now) c.args.clerk) c.if-is_free.ensures

pub returns-else-is_free : goal.returns-else-is_free
unfolding counts_by
returns-else-is_free c = c.on_ring.ensures ∙ ap (λ x. x || ring_by (waits_in c.args.self.now) c.args.clerk) c.if-is_free.ensures
