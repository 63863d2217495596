use Rattle.std.proofs.Common.{eqb, sym, ap, ◌∙◌}
use Rattle.std.specs.List.{position}
use Rattle.view_tests.proofs.Spots.{dropped, dropped_none}
use Rattle.view_tests.proofs.pairs.PairListIndex.remove.Goals as goal

pub returns-in-Some-clause-done : goal.returns-in-Some-clause-done
returns-in-Some-clause-done c =
    let t = c.args.self.now.items.items in
    let k = c.args.k in
    c.remove.ensures.items ∙ dropped k t c.in-Some.i (ap (λ s. position (λ e. eqb e.0 k) s) (sym c.deref.ensures.value) ∙ (sym c.place_of.ensures ∙ c.in-Some.is))

pub returns-in_default-clause-done : goal.returns-in_default-clause-done
returns-in_default-clause-done c =
    let t = c.args.self.now.items.items in
    let k = c.args.k in
    dropped_none k t (ap (λ s. position (λ e. eqb e.0 k) s) (sym c.deref.ensures.value) ∙ (sym c.place_of.ensures ∙ c.in_default.is))
