use Rattle.std.proofs.Common.{refl}
use Rattle.player.proofs.plays.Player.play_text.Goals as goal

pub returns-clause-bad : goal.returns-clause-bad
returns-clause-bad g c = let is = c.in_ok-command.ensures.prints _ refl in λ never. absurd (never _ is.0 is.1)
