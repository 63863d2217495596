use Rattle.std.proofs.Common.{arith}
use Rattle.frames.proofs.Words.{column_set}
use Rattle.frames.proofs.layout.put.Goals as goal

pub returns-clause-cache : goal.returns-clause-cache
returns-clause-cache c = rw (c.start.ensures, c.number.ensures.is) (column_set c.args.part.now c.args.slot (omega arith) c.args.column c.args.word)
