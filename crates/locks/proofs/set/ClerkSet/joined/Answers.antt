use Rattle.locks.proofs.Bits.{has_or}
use Rattle.locks.proofs.set.ClerkSet.joined.Goals as goal

pub returns : goal.returns
returns c = has_or c.args.self.bits c.args.other.bits
