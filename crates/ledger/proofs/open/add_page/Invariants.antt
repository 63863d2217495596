use Rattle.ledger.proofs.Filing.{Filed}
use Rattle.ledger.proofs.open.add_page.Given as goal

abbrev pub invariant-loop-j : goal.invariant-loop-j
invariant-loop-j l = Filed l.initial.room l.initial.queue l.fn.places.start l.j l.room l.queue
