use Rattle.std.proofs.Common.{◌∙◌, rules, tests}
use Rattle.std.proofs.lemmas.Iterator.Consumers.{YieldsList-from_first, YieldsList-from_filter, count_from_yields_List}
use Rattle.lines.proofs.Going.{is_mark, marks_counted}
use Rattle.lines.proofs.marks.marks_in.Goals as goal

pub returns-clause-is : goal.returns-clause-is
returns-clause-is c =
    count_from_yields_List c.filter.result _ c.count.ensures.ran
    (YieldsList-from_filter _ is_mark (YieldsList-from_first (λ x. x) (λ rest. rest) c.args.lines c.filter.ensures.source) c.filter.ensures.closure (λ x b q k. search (rules, tests)))
    ∙ marks_counted c.args.lines
