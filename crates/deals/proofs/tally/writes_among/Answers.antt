use Rattle.std.proofs.Common.{rules, tests}
use Rattle.std.proofs.lemmas.Iterator.Consumers.{YieldsList-from_first, YieldsList-from_filter, count_from_yields_List}
use Rattle.view.specs.Adds.{is_write}
use Rattle.deals.proofs.tally.writes_among.Goals as goal

pub returns : goal.returns
returns c =
    count_from_yields_List c.filter.result _ c.count.ensures.ran
    (YieldsList-from_filter _ is_write (YieldsList-from_first (λ x. x) (λ rest. rest) c.args.lines c.filter.ensures.source) c.filter.ensures.closure (λ x b q k. search (rules, tests)))
