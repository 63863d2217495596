use Rattle.std.proofs.Common.{true, false, sym, ap, ◌∙◌, inl, inr, arith}
use Rattle.std.proofs.lemmas.Bool.{cases_Bool}
use Rattle.lines.specs.Marks.{marks_in}
use Rattle.deals.specs.Promise.{can}
use Rattle.deals.specs.Tables.{lines_in, op_at}
use Rattle.deals.proofs.Effects.{table_marks}
use Rattle.deals.proofs.Refusing.{refuses_unbuilt, refuses_long, refuses_mark, refuses_back, refuses_none}
use Rattle.deals.proofs.Waiting.{comes_by}
use Rattle.deals.proofs.tables.Tables.refused.Goals as goal

pub returns-then-not-is_built : goal.returns-then-not-is_built
returns-then-not-is_built c s d =
    refuses_unbuilt can (op_at c.args.self.now.room.now c.args.c) (s.clerk c.args.c).deal (sym (ap can c.read_op-o.ensures) ∙ sym c.if-not-is_built.ensures)

pub returns-then-not-comes_to : goal.returns-then-not-comes_to
returns-then-not-comes_to c s d =
    let r = c.args.self.now.room.now in
    let who = c.args.c in
    refuses_long can (op_at r who) (s.clerk who).deal (sym (ap can c.read_op-o.ensures) ∙ sym c.if-not-is_built.ensures)
    (comes_by can r s who c.read_op-o.result c.count.result false (d who (omega arith)) c.read_op-o.ensures c.count.ensures.is c.if-not-comes_to.ensures)

pub returns-in-Back : goal.returns-in-Back
returns-in-Back c s d =
    let r = c.args.self.now.room.now in
    let who = c.args.c in
    let keeps = d who (omega arith) in
    let comes = comes_by can r s who c.read_op-o.result c.count.result true keeps c.read_op-o.ensures c.count.ensures.is c.if-not-comes_to.ensures in
    elim (cases_Bool c.has_mark.result) [
      | inl t ↦ rw (c.then_some.ensures, t)
          (refuses_back can (op_at r who) (s.clerk who).deal c.in-Back.j (marks_in (lines_in r who)) comes (sym c.in-Back.ensures) (λ b. table_marks r who (s.clerk who).deal b keeps) (sym c.has_mark.ensures ∙ t))
      | inr f ↦ rw (c.then_some.ensures, f)
          (refuses_mark can (op_at r who) (s.clerk who).deal c.in-Back.j (marks_in (lines_in r who)) comes (sym c.in-Back.ensures) (λ b. table_marks r who (s.clerk who).deal b keeps) (sym c.has_mark.ensures ∙ f))
    ]

pub returns-in_default : goal.returns-in_default
returns-in_default c s d =
    let r = c.args.self.now.room.now in
    let who = c.args.c in
    refuses_none can (op_at r who) (s.clerk who).deal
    (comes_by can r s who c.read_op-o.result c.count.result true (d who (omega arith)) c.read_op-o.ensures c.count.ensures.is c.if-not-comes_to.ensures)
    (λ j e. c.in_default.not-Back j (c.read_op-o.ensures ∙ e))
