use Rattle.std.proofs.Common.{◌<◌, not, get_or, sym, ap, ◌∙◌, arith}
use Rattle.std.proofs.Math.Bool.{not-not}
use Rattle.locks.specs.Sets.{some_of}
use Rattle.locks.specs.Graphs.{waits_in}
use Rattle.locks.specs.Chosen.{Chosen}
use Rattle.locks.proofs.graph.WaitGraph.choose.Goals as goal

pub returns-then-counts : goal.returns-then-counts
unfolding Chosen
returns-then-counts c =
    let few : get_or c.args.order.now c.loop-place.place 0 < 32 = c.requires c.loop-place.place c.loop-place-test.true in
    record {
      among = c.loop-place-test.true;
      there = sym c.new-who.ensures;
      few = omega arith;
      clash = ap not c.is_free.ensures ∙ not-not (some_of 32 (waits_in c.args.self.now c.new-who.result));
      counts = sym c.if-counts.ensures;
      before = c.loop-place.invariant;
    }

pub returns : goal.returns
unfolding Chosen
returns c k h = c.loop-place.invariant k (omega arith)
