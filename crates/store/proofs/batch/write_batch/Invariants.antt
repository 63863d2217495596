use Rattle.std.proofs.Common.{◌≡◌, ℕ, ◌+◌, ◌<◌, ◌≤◌, true}
use Rattle.frames.specs.Frames.{batch_words}
use Rattle.store.specs.Medium.{WroteAll}
use Rattle.store.specs.Store.{cache}
use Rattle.store.proofs.batch.write_batch.Given as goal

abbrev pub invariant-loop-k : goal.invariant-loop-k
invariant-loop-k g l = record {
  row : (t : ℕ → ℕ) → ((k p : ℕ) → k < (cache l.part).count → goal.F-post g l.to k p → p ≡ t k) →
      WroteAll l.k l.k t (batch_words (cache l.part)) (g.D.Device.medium l.initial.d) true (g.D.Device.medium l.d);
  pages : (g.D.Device.medium l.d).pages ≡ (g.D.Device.medium l.initial.d).pages;
  left : (g.D.Device.medium l.initial.d).left ≤ (g.D.Device.medium l.d).left + l.k;
  tied : g.D.Device.tie l.d ≡ g.D.Device.tie l.initial.d;
}
