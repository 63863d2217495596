use Rattle.std.proofs.Common.{rules}
use Rattle.view.specs.Upkeep.{kept_by}
use Rattle.lines.proofs.Changes.{map_from_changes}
use Rattle.view.proofs.kept.keep_queue.Goals as goal

pub returns-clause-lines : goal.returns-clause-lines
returns-clause-lines c = map_from_changes _ (kept_by c.args.change) _ _ _ c.change_records.ensures.lines (λ x y g s. search rules)
