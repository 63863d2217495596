use Rattle.std.proofs.Common.{◌∙◌}
use Rattle.deals.specs.Deals.{told}
use Rattle.deals.specs.Tables.{op_at}
use Rattle.deals.proofs.Waiting.{finds_any}
use Rattle.deals.proofs.tables.Tables.scan_from.Goals as goal

pub returns-in_default : goal.returns-in_default
returns-in_default c s f d h =
    let o = op_at c.args.self.now.room.now c.args.c in
    finds_any o (told o (s.clerk c.args.c).deal s.book) f (λ k e. c.in_default.not-Next k (c.read_op-o.ensures ∙ e))
