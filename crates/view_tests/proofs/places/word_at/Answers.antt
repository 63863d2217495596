use Rattle.std.proofs.Common.{◌≡◌, ℕ, eqb, ap, ◌∙◌, rules, tests}
use denote.Ref.{Bor}
use Rattle.std.proofs.lemmas.Iterator.{YieldsList-from_slice}
use Rattle.std.proofs.lemmas.Iterator.Search.{find_from_yields_List}
use Rattle.std.specs.Option.{option_map}
use Rattle.view_tests.proofs.Spots.{find_first, word_first}
use Rattle.view_tests.proofs.places.word_at.Goals as goal

pub returns : goal.returns
returns c =
    let m : c.map.result ≡ option_map (λ (p : Bor (ℕ × ℕ)). p.now.1) c.find.result = search rules in
    m ∙ (word_first c.find.result
    ∙ (ap (option_map (λ e. e.1)) (find_from_yields_List (λ e. eqb e.0 c.args.k) _ _ c.find.result c.find.ensures.ran (YieldsList-from_slice c.args.items.now (cc)) (λ x b q k. search (rules, tests)))
    ∙ find_first c.args.k c.args.items.now))
