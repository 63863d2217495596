use Rattle.std.proofs.Common.{List, length, filter, ap, ◌∙◌}
use Rattle.lines.specs.declared.line.Line.{Line}
use Rattle.view.specs.Adds.{is_write}
use Rattle.deals.specs.Tables.{lines_in}
use Rattle.deals.specs.Sits.{is_put_line, puts_in}
use Rattle.deals.proofs.Effects.{table_writes}
use Rattle.deals.proofs.Answering.{writes_counted, puts_counted}
use Rattle.deals.proofs.tables.Tables.tally.Goals as goal

pub returns : goal.returns
returns c =
    let r = c.args.self.now.room.now in
    record {
      writes = λ ss i. c.writes_among.ensures ∙ ap (λ (ls : List Line). length (filter is_write ls)) c.lines.ensures ∙ writes_counted (lines_in r c.args.c) ∙ ap length (table_writes r c.args.c ss i);
      puts = λ ss i. c.puts_among.ensures ∙ ap (λ (ls : List Line). length (filter is_put_line ls)) c.lines-2.ensures ∙ puts_counted (lines_in r c.args.c) ∙ ap puts_in (table_writes r c.args.c ss i);
    }
