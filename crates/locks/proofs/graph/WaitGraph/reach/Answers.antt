use Rattle.std.proofs.Common.{sym, refl, ap, ◌∙◌}
use mathlib.Core.Path.{fun_ext}
use Rattle.locks.specs.Sets.{is_in}
use Rattle.locks.specs.Graphs.{waits_in, reached, spread}
use Rattle.locks.proofs.Bits.{reached_more}
use Rattle.locks.proofs.graph.WaitGraph.reach.Goals as goal

pub loop-init : goal.loop-init
unfolding reached
loop-init c = refl

pub loop-preserved : goal.loop-preserved
loop-preserved c =
    let w = waits_in c.args.self.now in
    fun_ext c.further-all.ensures ∙ ap (spread w) c.loop.invariant ∙ sym (reached_more c.loop.counter w (is_in c.args.set))
