use Rattle.player.proofs.PlayingLemmas.{not_looked, looked}
use Rattle.player.proofs.plays.Player.look.Goals as goal

pub returns-then-is_busy-clause-played : goal.returns-then-is_busy-clause-played
returns-then-is_busy-clause-played g c = not_looked _ _ _ _

pub returns-in_err-ok-clause-played : goal.returns-in_err-ok-clause-played
returns-in_err-ok-clause-played g c = rw c.from_residual.ensures (not_looked _ _ _ _)

pub returns-clause-played : goal.returns-clause-played
returns-clause-played g c = looked c.answer_to.ensures.played
