use Rattle.std.proofs.Common.{rules, arith}
use Rattle.player.proofs.PlayingLemmas.{passed_begins, passed_more, waited_told, waited_long, waited_lost}
use Rattle.player.proofs.plays.Player.wait_for.Goals as goal

pub loop-turn-init : goal.loop-turn-init
loop-turn-init g c = search (rules, passed_begins)

pub returns-in-Err-clause-played : goal.returns-in-Err-clause-played
returns-in-Err-clause-played g c = waited_lost c.loop-turn.invariant.passed c.loop-turn-test.true c.in-Err.ensures.played c.restart.ensures.played

pub returns-in-Ok-Some-clause-played : goal.returns-in-Ok-Some-clause-played
returns-in-Ok-Some-clause-played g c = waited_told c.loop-turn.invariant.passed c.loop-turn-test.true (rw c.in-Ok-Some.field-0-is at c.in-Ok-Some.ensures.played)

pub loop-turn-preserved : goal.loop-turn-preserved
loop-turn-preserved g c = record {
  lent = search rules;
  life = search rules;
  turns = search rules;
  passed = passed_more c.loop-turn.invariant.passed (rw c.in-Ok-None.field-0-is at c.in-Ok-None.ensures.played);
}

pub returns-clause-played : goal.returns-clause-played
returns-clause-played g c = waited_long c.loop-turn.invariant.passed (omega arith)
