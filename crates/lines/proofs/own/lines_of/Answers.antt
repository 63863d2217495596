use Rattle.std.proofs.Common.{◌∙◌, arith}
use Rattle.lines.proofs.Parts.{deal_read}
use Rattle.lines.proofs.own.lines_of.Goals as goal

pub returns : goal.returns
returns c = c.lines.ensures ∙ deal_read c.args.room.now c.args.deal _ (omega arith) c.args.count c.deal_ring.result c.deal_ring.ensures
