use Rattle.std.proofs.Common.{rules}
use Rattle.player.proofs.PlayingLemmas.{all_printed, asks_and_waits, busy_said}
use Rattle.player.proofs.plays.Player.play_ask.Goals as goal

pub returns-in-Ok-Some-clause-plays : goal.returns-in-Ok-Some-clause-plays
returns-in-Ok-Some-clause-plays g c = let waited = rw c.in-Ok-Some.field-0-is at c.in-Ok-Some.ensures.played in asks_and_waits (search rules) c.ask.ensures.asked waited.shape (all_printed waited.shape waited.played (search rules))

pub returns-in-Ok-None-clause-plays : goal.returns-in-Ok-None-clause-plays
returns-in-Ok-None-clause-plays g c = let waited = rw c.in-Ok-None.field-0-is at c.in-Ok-None.ensures.played in asks_and_waits (search rules) c.ask.ensures.asked waited.shape waited.played

pub returns-in-Err-clause-plays : goal.returns-in-Err-clause-plays
returns-in-Err-clause-plays g c = let waited = c.in-Err.ensures.played in asks_and_waits (search rules) c.ask.ensures.asked waited.shape waited.played

pub returns-then-is_busy-clause-plays : goal.returns-then-is_busy-clause-plays
returns-then-is_busy-clause-plays g c = busy_said (search rules) (search rules)
