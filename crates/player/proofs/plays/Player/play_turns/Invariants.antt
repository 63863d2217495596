use Rattle.std.proofs.Common.{◌+◌, ◌≤◌, IsSomeAnd}
use Rattle.player.specs.Loans.{SameLoans}
use Rattle.player.specs.Turning.{desk_of}
use Rattle.player.proofs.PlayingLemmas.{TurnsHad}
use Rattle.player.proofs.plays.Player.play_turns.Given as goal

abbrev pub invariant-loop-turn : goal.invariant-loop-turn
invariant-loop-turn g l = record {
  lent : SameLoans l.initial.stage l.stage;
  few : IsSomeAnd l.self.life (λ life. life.turns + l.n ≤ 16777215 + l._turn);
  had : TurnsHad g.O.Engine g.S.Sink l._turn (desk_of l.initial.self) (desk_of l.self) l.initial.stage.out.now l.stage.out.now;
}
