use Rattle.std.proofs.Common.{sym, ◌∙◌}
use Rattle.lines.specs.Tables.{queue_lines}
use Rattle.lines.proofs.Parts.{queue_written, queue_size, only_queue}
use Rattle.lines.proofs.queue.add_record.Goals as goal

pub returns : goal.returns
unfolding queue_lines
returns c =
    let w = c.args.room.now in
    let v = c.push.new.words in
    let e = c.push.ensures in
    let here = c.requires.0 in
    record {
      lines = sym (queue_written w v here.room c.push.auto.words c.push.result) ∙ e.lines;
      queue = (
        record { room = queue_size w v here.room c.push.auto.words; cap = e.grown.0 ∙ here.cap; start = e.holds.start; count = e.holds.count },
        (e.grown.1.0, e.grown.1.1),
      );
      only = only_queue w v here.room c.push.auto.words;
    }
