use Rattle.lines.specs.Tables.{queue_lines}
use Rattle.lines.proofs.queue.records_of.Goals as goal

pub returns : goal.returns
unfolding queue_lines
returns c = c.lines.ensures
