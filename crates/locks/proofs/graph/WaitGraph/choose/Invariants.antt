use Rattle.std.proofs.Common.{◌≡◌, ℕ, ◌<◌, false, get_or}
use Rattle.locks.specs.Graphs.{waits_in, counts_by}
use Rattle.locks.proofs.graph.WaitGraph.choose.Given as goal

abbrev pub invariant-loop-place : goal.invariant-loop-place
invariant-loop-place l = (k : ℕ) → k < l.place → counts_by (waits_in l.self) (get_or l.order k 0) ≡ false
