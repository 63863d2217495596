use Rattle.std.proofs.Common.{◌≡◌}
use Rattle.ledger.proofs.Telling.{Telling}
use Rattle.ledger.proofs.open.tell_queue.Given as goal

abbrev pub invariant-loop-i : goal.invariant-loop-i
invariant-loop-i g l = record {
  telling : Telling (g.D.Device.medium l.initial.d) l.initial.room l.initial.store l.fn.queue l.i (g.D.Device.medium l.d) l.room l.store;
  tied : g.D.Device.tie l.d ≡ g.D.Device.tie l.initial.d;
}
