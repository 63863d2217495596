use Rattle.std.proofs.Common.{◌<◌, map, ap, ◌∙◌, inl, inr, arith}
use Rattle.std.proofs.lemmas.Bool.{cases_eq}
use Rattle.view.specs.Upkeep.{kept_by}
use Rattle.view.proofs.kept.keep_deals.Goals as goal

pub loop-deal-preserved : goal.loop-deal-preserved
loop-deal-preserved c =
    let i = c.loop-deal.deal in
    let v = c.loop-deal.invariant in
    let e = c.keep_deal.ensures in
    let low : i < 32 = omega arith in
    record {
      done = λ d h. elim (cases_eq d i) [
        | inl z ↦ rw z (e.lines ∙ ap (map (kept_by c.args.change)) (v.others i low (omega arith)))
        | inr z ↦ e.only.deals d _ (omega arith) z ∙ v.done d (omega arith)
      ];
      others = λ d h g. e.only.deals d _ h (λ z. omega arith) ∙ v.others d h (omega arith);
      queue = λ r. e.only.queue r ∙ v.queue r;
      behind = e.only.behind ∙ v.behind;
    }
