use Rattle.std.proofs.Common.{◌≡◌, true, not, leb, None, map, sym, ap, ◌∙◌, rules}
use borrow.Author.Tests.{tests}
use Rattle.std.proofs.RetainMut.{retains_is_retain_mut}
use Rattle.std.proofs.lemmas.Iterator.{YieldsList-from_slice, YieldsList-from_map, items_from_drains}
use Rattle.std.proofs.lemmas.Iterator.Consumers.{YieldsList-at, YieldsList-from_filter}
use Rattle.std.proofs.lemmas.List.{map-id}
use Rattle.std.specs.List.{filter, last_or}
use Rattle.memdisk.specs.Dues.{coming_or}
use Rattle.memdisk.proofs.Counting.{nearer, later_retains, later_keeps, coming_is_last, none_is}
use Rattle.memdisk.proofs.cuts.Lent+Due.count_down.Goals as goal

pub returns-then-is_none-clause-left : goal.returns-then-is_none-clause-left
returns-then-is_none-clause-left c =
    let ran = c.last-came.ensures.ran in
    let ds = c.args.self.now.items in
    let all : map (λ x. x) ran.0 ≡ map (λ d. d.choice) (filter (λ d. leb d.asks 1) ds) =
    items_from_drains ran.0 (ran.1.1.0, ran.1.1.1, λ _. (ran.1.0, ran.1.1.2)) (YieldsList-from_map _ (λ d. d.choice)
    (YieldsList-at c.map.ensures.source (YieldsList-from_filter _ (λ d. leb d.asks 1) (YieldsList-at c.filter.ensures.source (YieldsList-from_slice ds cc)) c.filter.ensures.closure (λ x r q k. search (rules, tests))))
    c.map.ensures.closure (λ x r q k. search rules)) in
    let came : c.last-came.result ≡ coming_or None ds = ran.2 ∙ ap (last_or None) (sym (map-id ran.0) ∙ all) ∙ coming_is_last None ds in
    let none : coming_or None ds ≡ None = sym came ∙ none_is c.last-came.result (search rules) in
    retains_is_retain_mut _ (λ d. true) nearer (λ s x b t y h. search (rules, tests)) _ _ _ c.retain_mut.ensures.kept ∙ later_keeps ds none

pub returns-then-is_none-clause-came : goal.returns-then-is_none-clause-came
returns-then-is_none-clause-came c =
    let ran = c.last-came.ensures.ran in
    let ds = c.args.self.now.items in
    let all : map (λ x. x) ran.0 ≡ map (λ d. d.choice) (filter (λ d. leb d.asks 1) ds) =
    items_from_drains ran.0 (ran.1.1.0, ran.1.1.1, λ _. (ran.1.0, ran.1.1.2)) (YieldsList-from_map _ (λ d. d.choice)
    (YieldsList-at c.map.ensures.source (YieldsList-from_filter _ (λ d. leb d.asks 1) (YieldsList-at c.filter.ensures.source (YieldsList-from_slice ds cc)) c.filter.ensures.closure (λ x r q k. search (rules, tests))))
    c.map.ensures.closure (λ x r q k. search rules)) in
    let came : c.last-came.result ≡ coming_or None ds = ran.2 ∙ ap (last_or None) (sym (map-id ran.0) ∙ all) ∙ coming_is_last None ds in
    sym (none_is c.last-came.result (search rules)) ∙ came

pub returns-clause-left : goal.returns-clause-left
returns-clause-left c =
    retains_is_retain_mut _ (λ d. not (leb d.asks 1)) nearer (λ s x b t y h. search (rules, tests)) _ _ _ c.retain_mut-2.ensures.kept ∙ later_retains c.args.self.now.items

pub returns-clause-came : goal.returns-clause-came
returns-clause-came c =
    let ran = c.last-came.ensures.ran in
    let ds = c.args.self.now.items in
    let all : map (λ x. x) ran.0 ≡ map (λ d. d.choice) (filter (λ d. leb d.asks 1) ds) =
    items_from_drains ran.0 (ran.1.1.0, ran.1.1.1, λ _. (ran.1.0, ran.1.1.2)) (YieldsList-from_map _ (λ d. d.choice)
    (YieldsList-at c.map.ensures.source (YieldsList-from_filter _ (λ d. leb d.asks 1) (YieldsList-at c.filter.ensures.source (YieldsList-from_slice ds cc)) c.filter.ensures.closure (λ x r q k. search (rules, tests))))
    c.map.ensures.closure (λ x r q k. search rules)) in
    ran.2 ∙ ap (last_or None) (sym (map-id ran.0) ∙ all) ∙ coming_is_last None ds
