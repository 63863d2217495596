use Rattle.std.proofs.Common.{ℕ, Bool, ap, ◌∙◌}
use mathlib.Core.Path.{fun_ext}
use Rattle.locks.specs.Graphs.{waits_in, reached}
use Rattle.locks.proofs.graph.WaitGraph.on_ring.Goals as goal

pub returns : goal.returns
returns c =
    let who = c.args.clerk in
    c.contains.ensures ∙ ap (λ (f : ℕ → Bool). f who) (c.reach.ensures ∙ ap (reached 32 (waits_in c.args.self.now)) (fun_ext c.waits_of.ensures))
