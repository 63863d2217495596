use Rattle.std.proofs.Common.{refl, ◌∙◌, rules, tests}
use Rattle.std.proofs.lemmas.Iterator.Consumers.{YieldsList-from_first}
use Rattle.std.proofs.lemmas.Iterator.Search.{any_from_yields_List}
use Rattle.locks.specs.Bars.{bars}
use Rattle.locks.proofs.Ways.{any_bars}
use Rattle.locks.proofs.way.in_way.Goals as goal

pub returns : goal.returns
returns c =
    any_from_yields_List (bars c.args.want) _ _ _ c.any.ensures.ran (YieldsList-from_first (λ x. x) (λ rest. rest) c.args.lines refl) (λ x b q k. search (rules, tests))
    ∙ any_bars c.args.want c.args.lines
