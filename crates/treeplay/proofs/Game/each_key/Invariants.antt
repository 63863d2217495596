use Rattle.treeplay.specs.Played.{Ready}
use Rattle.treeplay.proofs.Game.each_key.Given as goal

abbrev pub invariant-loop-i : goal.invariant-loop-i
invariant-loop-i l = Ready l.self
