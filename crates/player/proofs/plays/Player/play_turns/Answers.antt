use Rattle.std.proofs.Common.{rules, arith}
use Rattle.player.proofs.PlayingLemmas.{turns_begin, turns_more, turns_lost, turns_had}
use Rattle.player.proofs.plays.Player.play_turns.Goals.{in-Ok, in-Err+else-is_none}
use Rattle.player.proofs.plays.Player.play_turns.Goals as goal

pub loop-turn-init : goal.loop-turn-init
loop-turn-init g c = record { lent = search rules; few = search rules; had = turns_begin _ _ }

pub returns-then-is_none-clause-plays : goal.returns-then-is_none-clause-plays
returns-then-is_none-clause-plays g c = turns_had (turns_lost c.loop-turn.invariant.had c.in-Err.ensures.turned c.in-Err.ensures.out c.restart.ensures.played) (omega arith) (search rules)

pub loop-turn-preserved : goal.loop-turn-preserved
loop-turn-preserved g c = record {
  lent = search rules;
  few = elim c.match-turn.branch [ in-Ok w ↦ search rules | in-Err+else-is_none w ↦ search rules ];
  had = elim c.match-turn.branch [
    | in-Ok w ↦ rw (w.self-is, w.stage-is) (turns_more _ c.loop-turn.invariant.had w.in-Ok.ensures.turned w.in-Ok.ensures.out w.print.ensures.told)
    | in-Err+else-is_none w ↦ rw (w.self-is, w.stage-is) (turns_lost c.loop-turn.invariant.had w.in-Err.ensures.turned w.in-Err.ensures.out w.restart.ensures.played)
  ];
}

pub returns-clause-plays : goal.returns-clause-plays
returns-clause-plays g c = turns_had c.loop-turn.invariant.had c.loop-turn.auto._turn-end (λ _. omega arith)
