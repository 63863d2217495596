use Rattle.std.proofs.Common.{◌≡◌}
use Rattle.locks.specs.Sets.{is_in}
use Rattle.locks.specs.Graphs.{waits_in, reached}
use Rattle.locks.proofs.graph.WaitGraph.reach.Given as goal

abbrev pub invariant-loop : goal.invariant-loop
invariant-loop l = is_in l.all ≡ reached l.counter (waits_in l.self) (is_in l.initial.all)
