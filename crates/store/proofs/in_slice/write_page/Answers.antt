use Rattle.std.proofs.Common.{sym}
use Rattle.store.proofs.in_slice.write_page.Goals as goal

pub returns : goal.returns
returns c = record { staged = rw (sym c.part_of.ensures.same) c.write_page.ensures.staged }
