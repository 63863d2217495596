use Rattle.std.proofs.Common.{arith}
use Rattle.lines.proofs.Words.{other}
use Rattle.lines.proofs.line.write_line.Goals as goal

pub returns-clause-others : goal.returns-clause-others
returns-clause-others c = other c.args.words.now c.copy_from_slice.new.self c.args.p _ (omega arith) (omega arith) c.requires
