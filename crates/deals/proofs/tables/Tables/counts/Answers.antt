use Rattle.std.proofs.Common.{◌∙◌, inl, inr, arith}
use Rattle.std.proofs.lemmas.List.{get_or-set_same, get_or-set_other, length-set}
use Rattle.std.proofs.lemmas.Bool.{cases_eq}
use Rattle.deals.proofs.tables.Tables.counts.Goals as goal

pub loop-c-preserved : goal.loop-c-preserved
loop-c-preserved c =
    let k = c.loop-c.c in
    record {
      long = length-set c.loop-c.counts k _ ∙ c.loop-c.invariant.long;
      counts = λ e l.
          elim (cases_eq e k) [
            | inl q ↦ rw q (get_or-set_same c.loop-c.counts k _ 0 (omega (arith, c.loop-c.invariant.long, c.loop-c-test.true)))
            | inr d ↦ get_or-set_other c.loop-c.counts k e _ 0 d ∙ c.loop-c.invariant.counts e (omega (arith, d))
          ];
    }
