use Rattle.treeplay.specs.Played.{Ready}
use Rattle.treeplay.proofs.Game.at_random.Given as goal

abbrev pub invariant-loop : goal.invariant-loop
invariant-loop l = Ready l.self
