use Rattle.std.proofs.Common.{◌≡◌, ◌+◌}
use Rattle.player.specs.Loans.{SameLoans}
use Rattle.player.specs.Turning.{Same, turns_of, desk_of}
use Rattle.player.proofs.PlayingLemmas.{Passed}
use Rattle.player.proofs.plays.Player.wait_for.Given as goal

abbrev pub invariant-loop-turn : goal.invariant-loop-turn
invariant-loop-turn g l = record {
  lent : SameLoans l.initial.stage l.stage;
  life : Same l.initial.self l.self;
  turns : turns_of l.self.life ≡ turns_of l.initial.self.life + l._turn;
  passed : Passed g.O.Engine g.S.Sink l.who l._turn (desk_of l.initial.self) (desk_of l.self) l.initial.stage.out.now l.stage.out.now;
}
