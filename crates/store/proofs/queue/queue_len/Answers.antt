use Rattle.store.specs.Store.{next}
use Rattle.store.proofs.Grows.{length_queue}
use Rattle.store.proofs.queue.queue_len.Goals as goal

pub returns : goal.returns
returns c = λ s. rw (c.full.ensures, c.own.ensures, c.done.ensures, c.next_head-next.ensures) (length_queue (next c.args.part.now) s)
