use Rattle.std.proofs.Common.{◌/◌, ◌^◌, ◌&&◌, eqb, sym, ap, ◌∙◌}
use Rattle.std.proofs.lemmas.Nat.{and_mask}
use Rattle.std.proofs.lemmas.Bool.{lt-ltb}
use Rattle.locks.specs.Sets.{has, bit}
use Rattle.locks.proofs.set.ClerkSet.contains.Goals as goal

pub returns : goal.returns
unfolding has
returns c =
    let m = c.args.self.bits in
    let e = c.number.result in
    ap (λ x. eqb x 1) (and_mask (m / 2 ^ e) 1) ∙ sym (ap (λ x. x && bit m e) (lt-ltb e 32 c.number.ensures.low)) ∙ ap (has m) c.number.ensures.is
