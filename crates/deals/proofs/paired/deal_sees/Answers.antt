use Rattle.deals.proofs.Telling.{get_told, drop_told, next_told, leaves_told, get_queued, drop_queued, next_queued, leaves_queued}
use Rattle.deals.proofs.paired.deal_sees.Goals as goal

pub returns : goal.returns
returns c =
    record {
      get = get_told;
      drop = drop_told;
      next = next_told;
      leaves = leaves_told;
      get_queued = get_queued;
      drop_queued = drop_queued;
      next_queued = next_queued;
      leaves_queued = leaves_queued;
    }
