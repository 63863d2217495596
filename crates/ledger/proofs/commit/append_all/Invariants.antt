use Rattle.std.proofs.Common.{◌≡◌}
use Rattle.lines.specs.Tables.{deal_lines}
use Rattle.ledger.proofs.Appending.{Adding}
use Rattle.ledger.proofs.commit.append_all.Given as goal

abbrev pub invariant-loop-i : goal.invariant-loop-i
invariant-loop-i g l = record {
  adding : Adding (g.D.Device.medium l.initial.d) l.initial.room l.initial.store (deal_lines l.initial.room l.deal l.count) l.i (g.D.Device.medium l.d) l.room l.store;
  tied : g.D.Device.tie l.d ≡ g.D.Device.tie l.initial.d;
}
