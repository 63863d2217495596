use Rattle.std.proofs.Common.{◌^◌, ◌||◌, eqb, ap, ◌∙◌}
use lib.Bits.{bit_or}
use Rattle.std.proofs.lemmas.Nat.{one_shl}
use Rattle.locks.specs.Sets.{has}
use Rattle.locks.proofs.Bits.{has_or, has_one}
use Rattle.locks.proofs.set.ClerkSet.with.Goals as goal

pub returns : goal.returns
returns c k =
    let s = c.args.self.bits in
    let e = c.number.result in
    ap (λ x. has (bit_or s x) k) (one_shl e 32 c.number.ensures.low) ∙ has_or s (2 ^ e) k ∙ ap (λ x. has s k || x) (has_one e k c.number.ensures.low) ∙ ap (λ x. has s k || eqb k x) c.number.ensures.is
