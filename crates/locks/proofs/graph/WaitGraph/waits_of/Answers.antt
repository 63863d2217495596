use Rattle.std.proofs.Common.{ap}
use Rattle.locks.specs.Graphs.{waits_in}
use Rattle.locks.proofs.graph.WaitGraph.waits_of.Goals as goal

pub returns : goal.returns
unfolding waits_in
returns c e = ap (λ d. waits_in c.args.self.now d e) c.index.ensures.is
