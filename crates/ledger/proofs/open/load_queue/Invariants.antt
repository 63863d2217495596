use Rattle.std.proofs.Common.{◌≡◌}
use Rattle.ledger.proofs.Filing.{Took}
use Rattle.ledger.proofs.open.load_queue.Given as goal

abbrev pub invariant-loop-i : goal.invariant-loop-i
invariant-loop-i g l = record {
  took : Took (g.D.Device.medium l.initial.d) l.initial.room l.fn.store l.i (g.D.Device.medium l.d) l.room l.queue;
  tied : g.D.Device.tie l.d ≡ g.D.Device.tie l.initial.d;
}
