use Rattle.std.proofs.Common.{true, false, ℕ, not, ◌&&◌, eqb, ltb, sym, ap, ◌∙◌, arith}
use Rattle.locks.specs.declared.way.Want.{Want}
use Rattle.locks.specs.Bars.{some_bars}
use Rattle.locks.specs.Sets.{has}
use Rattle.locks.proofs.Bits.{has_zero}
use Rattle.deals.specs.declared.Op.{Op}
use Rattle.deals.specs.Promise.{can}
use Rattle.deals.specs.Rows.{want_of}
use Rattle.deals.specs.Tables.{lines_in}
use Rattle.deals.proofs.Waiting.{waits_some, waits_none, comes_at}
use Rattle.deals.proofs.tables.Tables.waits_for.Goals as goal

pub returns-then-comes_to : goal.returns-then-comes_to
returns-then-comes_to c s d asks u f k =
    let r = c.args.self.now.room.now in
    c.in_ways.ensures k ∙ ap (λ (w : Want). ltb k 32 && (not (eqb c.args.c k) && some_bars w (lines_in r k))) (c.wants.ensures ∙ ap (λ (o : Op). want_of o c.args.found) c.read_op-o.ensures)
    ∙ waits_some can r s c.args.c d (omega arith) asks u c.args.found f (comes_at can r c.args.c c.read_op-o.result c.count.result true c.read_op-o.ensures c.count.ensures.is c.if-comes_to.ensures) k

pub returns-else-comes_to : goal.returns-else-comes_to
returns-else-comes_to c s d asks u f k =
    let r = c.args.self.now.room.now in
    ap (λ (m : ℕ). has m k) c.none.ensures ∙ has_zero k
    ∙ sym (waits_none can r s c.args.c d (omega arith) asks u (comes_at can r c.args.c c.read_op-o.result c.count.result false c.read_op-o.ensures c.count.ensures.is c.if-comes_to.ensures) k)
