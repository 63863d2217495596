use Rattle.std.proofs.Common.{ap, refl, ◌∙◌, rules, tests}
use Rattle.std.specs.Prelude.{is_some}
use Rattle.std.proofs.lemmas.Iterator.Consumers.{YieldsList-from_first}
use Rattle.std.proofs.lemmas.Iterator.Search.{any_from_yields_List}
use Rattle.ledger.specs.Commits.{record_by, writes_any}
use Rattle.ledger.proofs.commit.writes_any.Goals as goal

pub returns : goal.returns
returns c =
    any_from_yields_List (λ l. is_some (record_by l)) _ _ _ c.any.ensures.ran (YieldsList-from_first (λ x. x) (λ rest. rest) c.lines_of.result refl) (λ x b q k. search (rules, tests))
    ∙ ap writes_any c.lines_of.ensures
