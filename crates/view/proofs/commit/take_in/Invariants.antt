use Rattle.view.proofs.Filed.{Filing}
use Rattle.view.proofs.commit.take_in.Given as goal

abbrev pub invariant-loop-i : goal.invariant-loop-i
invariant-loop-i l = Filing l.initial.room l.view l.i l.room l.queue
