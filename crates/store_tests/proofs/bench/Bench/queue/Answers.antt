use Rattle.std.proofs.Common.{arith}
use Rattle.store_tests.proofs.bench.Bench.queue.Goals as goal

pub record_at-requires : goal.record_at-requires
record_at-requires c = (c.scratch.ensures.long, omega (arith, c.in_ok-places.ensures))
