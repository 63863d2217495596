use Rattle.std.proofs.Common.{rules, arith, ◌≡◌, ◌∙◌, sym, None}
use Rattle.player.proofs.PlayingLemmas.{reads_begin, reads_pair, reads_undone', reads_end, reads_stop'}
use Rattle.player.proofs.plays.Player.read_on.Goals as goal

pub loop-k-init : goal.loop-k-init
loop-k-init g c = record { lent = search rules; few = search rules; read = reads_begin _ _ _ _ }

pub returns-then-is_none-clause-played : goal.returns-then-is_none-clause-played
returns-then-is_none-clause-played g c =
    let read = reads_pair c.loop-k.invariant.read c.look.ensures.played (sym c.pair_in.ensures ∙ c.in-Some.is) c.put.ensures in
    reads_stop' _ read c.look-then-readings-eq-READINGS.ensures.played (search rules)

pub loop-k-preserved-then-readings-eq-READINGS : goal.loop-k-preserved-then-readings-eq-READINGS
loop-k-preserved-then-readings-eq-READINGS g c = record {
  lent = search rules;
  few = search rules;
  read =
      let read = reads_pair c.loop-k.invariant.read c.look.ensures.played (sym c.pair_in.ensures ∙ c.in-Some.is) c.put.ensures in
      reads_undone' _ read c.look-then-readings-eq-READINGS.ensures.played (search rules);
}

pub loop-k-preserved : goal.loop-k-preserved
loop-k-preserved g c = record {
  lent = search rules;
  few = omega arith;
  read = reads_pair c.loop-k.invariant.read c.look.ensures.played (sym c.pair_in.ensures ∙ c.in-Some.is) c.put.ensures;
}

pub returns-clause-played : goal.returns-clause-played
returns-clause-played g c =
    let over : c.pair_in.result ≡ None = search rules in
    reads_end c.loop-k.invariant.read c.look.ensures.played (sym c.pair_in.ensures ∙ over)
