use Rattle.std.proofs.Common.{ℕ, List, get_or, set, sym, subst, arith}
use Rattle.view.specs.declared.seen.View.{View}
use Rattle.view_tests.specs.Play.{Sane}
use Rattle.view_tests.proofs.Sanely.{own_fits, sane_made, whole}
use Rattle.view_tests.proofs.play.Play.commit.Goals as goal

pub take_in-self-inside-requires-clause-fits : goal.take_in-self-inside-requires-clause-fits
take_in-self-inside-requires-clause-fits c =
    let p = c.self.inside in
    let v : View = record { deal = c.index-deal.result; count = get_or p.counts c.index-deal.result 0; queue = p.queue } in
    omega (arith, own_fits c.as_mut_slice.result.now v)

pub invariant_of-self : goal.invariant_of-self
invariant_of-self c =
    let p = c.self.inside in
    let t = p.index.items.items in
    let e = c.take_in-self-inside.ensures in
    let v = c.take_in-self-inside.new.room in
    let r = c.take_in-self-inside.result in
    let old = subst (λ (w : List ℕ). Sane t w p.counts p.queue) (sym c.as_mut_slice.ensures.value) c.self.invariant in
    let made = sane_made t c.as_mut_slice.result.now v p.counts p.queue r c.index-deal.result c.index-deal.ensures.low e.queue.0 e.only (e.succs t) old in
    subst (λ (w : List ℕ). Sane t w (set p.counts c.index-deal.result 0) r) (sym (whole p.room.len v p.room.items (omega arith) (omega arith))) made
