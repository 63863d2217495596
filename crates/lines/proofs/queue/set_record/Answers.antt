use Rattle.std.proofs.Common.{sym, ◌∙◌}
use Rattle.lines.specs.Tables.{queue_lines}
use Rattle.lines.proofs.Parts.{queue_written, only_queue}
use Rattle.lines.proofs.queue.set_record.Goals as goal

pub returns-clause-lines : goal.returns-clause-lines
unfolding queue_lines
returns-clause-lines c = sym (queue_written c.args.room.now c.set.new.words c.requires.0.room c.set.auto.words c.args.queue) ∙ c.set.ensures

pub returns-clause-only : goal.returns-clause-only
returns-clause-only c = only_queue c.args.room.now c.set.new.words c.requires.0.room c.set.auto.words
