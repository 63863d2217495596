use Rattle.std.proofs.Common.{◌∙◌}
use Rattle.lines.specs.Tables.{queue_lines}
use Rattle.lines.proofs.queue.front_of.Goals as goal

pub returns : goal.returns
unfolding queue_lines
returns c =
    let e = c.pop_front.ensures in
    record {
      lines = e.lines;
      queue = (record { room = c.requires.0.room; cap = e.shrunk.0 ∙ c.requires.0.cap; start = e.holds.start; count = e.holds.count }, e.shrunk.1);
    }
