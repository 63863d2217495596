use Rattle.locks.specs.Graphs.{waits_in}
use Rattle.locks.proofs.Bits.{nobody_waits}
use Rattle.locks.proofs.graph.WaitGraph.none.Goals as goal

pub returns : goal.returns
unfolding waits_in
returns c d e = nobody_waits c.none.result d e c.none.ensures
