use Rattle.std.proofs.Common.{arith}
use Rattle.frames.proofs.Words.{column_read}
use Rattle.frames.proofs.layout.word.Goals as goal

pub returns : goal.returns
returns c = rw (c.start.ensures, c.number.ensures.is) (column_read c.args.part.now c.args.slot (omega arith) c.args.column)
