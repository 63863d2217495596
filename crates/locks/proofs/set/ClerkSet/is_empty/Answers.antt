use Rattle.std.proofs.Common.{arith}
use Rattle.locks.proofs.Bits.{empty_is}
use Rattle.locks.proofs.set.ClerkSet.is_empty.Goals as goal

pub returns : goal.returns
returns c = empty_is c.args.self.bits (omega arith)
