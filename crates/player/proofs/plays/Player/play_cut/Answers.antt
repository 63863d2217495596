use Rattle.std.proofs.Common.{arith}
use Rattle.player.proofs.PlayingLemmas.{cut_at_once, cut_to_come}
use Rattle.player.proofs.plays.Player.play_cut.Goals as goal

pub returns-then-after-eq0-clause-plays : goal.returns-then-after-eq0-clause-plays
returns-then-after-eq0-clause-plays g c = cut_at_once c.if-after-eq0.true c.restart.ensures.played

pub returns-else-after-eq0-clause-plays : goal.returns-else-after-eq0-clause-plays
returns-else-after-eq0-clause-plays g c = cut_to_come (omega arith)
