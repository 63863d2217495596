use Rattle.std.proofs.Common.{rules}
use Rattle.std.proofs.lemmas.Result.{err_from_is_err_and}
use Rattle.player.proofs.PlayingLemmas.{a_turn, turn_tells, turn_tells_other, turn_tells_nobody}
use Rattle.player.proofs.plays.Player.turn_for.Goals as goal

pub returns-in_err-told-clause-played : goal.returns-in_err-told-clause-played
returns-in_err-told-clause-played g c = let p = err_from_is_err_and c.from_residual.result c.from_residual.ensures.1 in rw p.1 (a_turn c.in_err-told.ensures.turned c.in_err-told.ensures.out)

pub returns-in-Some-clause-played : goal.returns-in-Some-clause-played
returns-in-Some-clause-played g c = turn_tells (rw c.in-Some.is at c.in_ok-told.ensures.turned) c.in_ok-told.ensures.out (search rules)

pub returns-in-Some-2-clause-played : goal.returns-in-Some-2-clause-played
returns-in-Some-2-clause-played g c = turn_tells_other _ _ (rw c.in-Some.is at c.in_ok-told.ensures.turned) c.in_ok-told.ensures.out (search rules) (search rules)

pub returns-in-None-clause-played : goal.returns-in-None-clause-played
returns-in-None-clause-played g c = turn_tells_nobody (rw c.in-None.is at c.in_ok-told.ensures.turned) c.in_ok-told.ensures.out
