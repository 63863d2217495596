use Rattle.std.proofs.Common.{◌≡◌, take}
use Rattle.frames.specs.Frames.{batch_pages}
use Rattle.store.specs.Head.{batched}
use Rattle.store.specs.HeadPages.{head_in, SameHeadLoan}
use Rattle.store.proofs.batch.name_batch.Given as goal

abbrev pub invariant-loop-k : goal.invariant-loop-k
invariant-loop-k l = record {
  head : head_in l.head ≡ batched (take l.k (batch_pages l.frames)) (head_in l.fn.head);
  named : SameHeadLoan l.fn.head l.head;
}
