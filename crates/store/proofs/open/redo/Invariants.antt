use Rattle.std.proofs.Common.{◌≡◌, ◌*◌, true}
use Rattle.store.specs.Medium.{WroteAll}
use Rattle.store.specs.Head.{target, slot}
use Rattle.store.specs.Store.{next, next_of}
use Rattle.store.proofs.open.redo.Given as goal

abbrev pub invariant-loop-k : goal.invariant-loop-k
invariant-loop-k g l = record {
  row : WroteAll (2 * l.k) l.k (target (next l.initial.part)) (λ j. (g.D.Device.medium l.initial.d).shown (slot (next l.initial.part) j)) (g.D.Device.medium l.initial.d) true (g.D.Device.medium l.d);
  head : next_of l.part ≡ next_of l.initial.part;
  tied : g.D.Device.tie l.d ≡ g.D.Device.tie l.initial.d;
}
