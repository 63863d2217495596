use Rattle.lines.specs.Tables.{queue_lines}
use Rattle.lines.proofs.Parts.{queue_written, only_queue}
use Rattle.lines.proofs.queue.change_records.Goals as goal

pub returns : goal.returns
unfolding queue_lines
returns g c =
    let w = c.args.room.now in
    let v = c.change_all.new.words in
    let after = queue_written w v c.requires.room.room c.change_all.auto.words c.args.queue in
    record {
      lines = rw (← after) c.change_all.ensures;
      only = only_queue w v c.requires.room.room c.change_all.auto.words;
    }
