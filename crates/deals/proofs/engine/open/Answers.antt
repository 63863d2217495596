use Rattle.std.proofs.Common.{true, sym, refl, subst}
use Rattle.std.proofs.lemmas.Bool.{both_ways}
use Rattle.std.proofs.lemmas.Result.{err_from_is_err_and}
use Rattle.deals.specs.Holds.{at_rest}
use Rattle.deals.specs.Sits.{Sits}
use Rattle.deals.proofs.Sitting.{lasting_cut, sits_raised}
use Rattle.deals.proofs.engine.open.Goals as goal

pub raise-requires : goal.raise-requires
raise-requires g c = let w = c.requires.lasts in record { soon = c.requires.soon; lent = c.requires.lent; rests = (w.0, w.2.pairs, w.2.rests) }

pub returns-in_err-ledger : goal.returns-in_err-ledger
returns-in_err-ledger g c = record {
  only = λ _. c.in_err-ledger.ensures.only refl;
  opens = λ p b i. rw (err_from_is_err_and c.from_residual.result c.from_residual.ensures.1).1 (λ e k. lasting_cut p i.pairs b _ e i.book (c.in_err-ledger.ensures.raises p i.pairs i.rests) k);
}

pub returns : goal.returns
returns g c = record {
  only = λ x. absurd (both_ways true x refl);
  opens = λ p b i.
      let then = c.clear.result.room.now in
      let l = c.in_ok-ledger.ledger in
      let s = sits_raised p l c.raise.new.room then (g.D.Pages.disk c.raise.new.d) i.pairs b i.book (c.in_ok-ledger.ensures.raises p i.pairs i.rests) c.clear.ensures.holds c.clear.ensures.rest in
      subst (λ r. Sits p (record { ledger = l; tally = record { writes = 0; puts = 0 } }) r (g.D.Pages.disk c.raise.new.d) (at_rest b)) (sym (c.room-2-1.given.1.1 (sym c.clear.ensures.lent))) s;
}
