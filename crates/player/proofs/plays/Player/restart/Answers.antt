use Rattle.player.proofs.PlayingLemmas.{restarts}
use Rattle.player.proofs.plays.Player.restart.Goals as goal

pub returns-clause-played : goal.returns-clause-played
returns-clause-played g c = restarts c.come_back.ensures.told c.next_life.ensures.played c.all_free-self.ensures
