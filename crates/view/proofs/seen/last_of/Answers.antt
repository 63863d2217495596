use Rattle.std.proofs.Common.{None, ap, ◌∙◌, rules}
use Rattle.std.specs.Iterator.Adapters.{rev_source}
use Rattle.view.specs.Sight.{seen_in}
use Rattle.view.proofs.Lasts.{last_found}
use Rattle.view.proofs.seen.last_of.Goals as goal

pub returns : goal.returns
returns c =
    last_found _ _ rev_source c.args.key (λ x r q s. search rules) c.rev.result _ c.find_map.result _ c.find_map.ensures.ran c.find_map.ensures.runs
    ∙ ap (λ x. seen_in c.args.key x None) c.rev.ensures.source
