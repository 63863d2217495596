use Rattle.std.proofs.Common.{None}
use Rattle.player.proofs.PlayingLemmas.{not_looked}
use Rattle.player.proofs.plays.Player.end_reading.Goals as goal

pub returns-else-is_dealing-clause-played : goal.returns-else-is_dealing-clause-played
returns-else-is_dealing-clause-played g c = (None, not_looked _ _ _ _)
