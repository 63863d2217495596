use Rattle.std.proofs.Common.{◌≡◌, ℕ}
use Rattle.locks.specs.Sets.{is_in}
use Rattle.locks.specs.Graphs.{waits_in, spread_by}
use Rattle.locks.proofs.graph.WaitGraph.further.Given as goal

abbrev pub invariant-loop-d : goal.invariant-loop-d
invariant-loop-d l = (e : ℕ) → is_in l.all e ≡ spread_by l.d (waits_in l.self) (is_in l.set) e
