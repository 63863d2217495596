use Rattle.std.proofs.Common.{get_or, set, sym, ap, ◌∙◌, arith}
use Rattle.locks.specs.declared.set.ClerkSet.{ClerkSet}
use Rattle.std.proofs.lemmas.List.{get_or-set_same, get_or-set_other}
use Rattle.locks.specs.Sets.{is_in}
use Rattle.locks.specs.Graphs.{waits_in}
use Rattle.locks.proofs.graph.WaitGraph.put.Goals as goal

pub returns : goal.returns
unfolding waits_in
returns c =
    let xs = c.args.self.now.sets in
    let i = c.index.result in
    let none : ClerkSet = record { bits = 0 } in
    record {
      put = λ e. ap (λ d. is_in (get_or (set xs i c.args.set) d none) e) (sym c.index.ensures.is) ∙ ap (λ s. is_in s e) (get_or-set_same xs i c.args.set none (omega arith));
      others = λ d e h. ap (λ s. is_in s e) (get_or-set_other xs i d c.args.set none (λ q. h (q ∙ c.index.ensures.is)));
    }
