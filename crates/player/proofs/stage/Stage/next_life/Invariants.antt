use Rattle.player.specs.Loans.{SameLoans}
use Rattle.player.proofs.PlayingLemmas.{Dark}
use Rattle.player.proofs.stage.Stage.next_life.Given as goal

abbrev pub invariant-loop-before : goal.invariant-loop-before
invariant-loop-before g l = SameLoans l.initial.self l.self × Dark g.O.Engine g.S.Sink l.past l.before l.initial.self.out.now l.self.out.now
