use Rattle.std.proofs.Common.{◌≡◌, leb, length, sym, ap, ◌∙◌, arith}
use Rattle.std.specs.List.{position, insert}
use Rattle.view_tests.proofs.Spots.{put_replaced, put_inserted, put_last}
use Rattle.view_tests.proofs.pairs.PairListIndex.put.Goals as goal

pub returns-in-Some-clause-done : goal.returns-in-Some-clause-done
returns-in-Some-clause-done c =
    let k = c.args.k in
    let e = ap (λ s. position (λ e. leb k e.0) s) (sym c.deref.ensures.value) ∙ (sym c.place_from.ensures ∙ c.in-Some.is) in
    put_replaced k c.args.self.now.items.items c.in-Some.i e c.args.x c.index.result.now c.index.ensures c.if-index-k.true

pub returns-in_ok-insert-in-Some-2-clause-done : goal.returns-in_ok-insert-in-Some-2-clause-done
returns-in_ok-insert-in-Some-2-clause-done c =
    let k = c.args.k in
    let e = ap (λ s. position (λ e. leb k e.0) s) (sym c.deref.ensures.value) ∙ (sym c.place_from.ensures ∙ c.in-Some.is) in
    c.in_ok-insert-in-Some-2.ensures ∙ put_inserted k c.args.self.now.items.items c.in-Some.i e c.args.x c.index.result.now c.index.ensures c.if-index-k.false

pub returns-in_ok-insert-in-None-clause-done : goal.returns-in_ok-insert-in-None-clause-done
returns-in_ok-insert-in-None-clause-done c =
    let t = c.args.self.now.items.items in
    let k = c.args.k in
    let e = ap (λ s. position (λ e. leb k e.0) s) (sym c.deref.ensures.value) ∙ (sym c.place_from.ensures ∙ c.in-None.is) in
    let end : c.len-end.result ≡ length t = omega arith in
    c.in_ok-insert-in-None.ensures ∙ (ap (λ n. insert t n (k, c.args.x)) end ∙ put_last k t c.args.x e)
