use Rattle.deals.proofs.Holding.{holds_none, holds_turns, holds_tells, holds_young}
use Rattle.deals.proofs.serving.ages_stay_low.Goals as goal

pub returns : goal.returns
returns c = record { idle = holds_none; turn = holds_turns; told = holds_tells; young = holds_young }
