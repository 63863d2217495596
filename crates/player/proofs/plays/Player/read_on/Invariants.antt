use Rattle.std.proofs.Common.{◌-◌, ◌<◌}
use Rattle.player.specs.Loans.{SameLoans}
use Rattle.player.specs.Playing.{Happens, Reads}
use Rattle.player.specs.Turning.{desk_of, turns_of}
use Rattle.player.proofs.plays.Player.read_on.Given as goal

abbrev pub invariant-loop-k : goal.invariant-loop-k
invariant-loop-k g l = record {
  lent : SameLoans l.initial.stage l.stage;
  few : l.readings < 1000;
  read : Happens g.O.Engine g.S.Sink (Reads l.reader 0 l.key) (desk_of l.initial.self) (desk_of l.self) l.initial.stage.out.now l.stage.out.now;
}

abbrev pub decreases-loop-k : goal.decreases-loop-k
decreases-loop-k g l = 16777215 - turns_of l.self.life
