use Rattle.treeplay.specs.Played.{Ready}
use Rattle.treeplay.proofs.main.Given as goal

abbrev pub invariant-loop-what : goal.invariant-loop-what
invariant-loop-what l = Ready l.game
