use Rattle.std.proofs.Common.{◌&&◌, ◌||◌, eqb, sym, ap, ◌∙◌, subst, arith}
use Rattle.std.proofs.Math.Bool.{or-false}
use Rattle.locks.specs.declared.set.ClerkSet.{ClerkSet}
use Rattle.locks.specs.Sets.{is_in, has}
use Rattle.locks.proofs.Bits.{taken, has_zero}
use Rattle.locks.proofs.set.ClerkSet.those.Goals as goal
use Rattle.locks.proofs.set.ClerkSet.those.Goals.{then-choose, else-choose}

pub loop-number-init : goal.loop-number-init
loop-number-init g c = record { each = λ k h. absurd (omega arith); past = λ k h. ap (λ m. has m k) c.none-set.ensures ∙ has_zero k }

pub loop-number-preserved : goal.loop-number-preserved
loop-number-preserved g c =
    let n = c.loop-number.number in
    let set = is_in c.loop-number.set in
    let invariant = c.loop-number.invariant in
    let told = subst (λ k. goal.F-post g c.args.choose k c.choose.result) c.new-clerk.ensures c.choose.ensures in
    let both = taken (goal.F-post g c.args.choose) set (is_in c.if-choose.set) n c.choose.result invariant.each invariant.past told (λ k. elim c.if-choose.branch [
      | then-choose w ↦ ap (λ (s : ClerkSet). is_in s k) w.set-is ∙ w.with-set.ensures k ∙ ap (λ m. set k || eqb k m) c.new-clerk.ensures ∙ ap (λ b. set k || (b && eqb k n)) (sym w.if-choose.true)
      | else-choose w ↦ ap (λ (s : ClerkSet). is_in s k) w.set-is ∙ sym (or-false (set k)) ∙ ap (λ b. set k || (b && eqb k n)) (sym w.if-choose.false)
    ]) in
    record { each = both.0; past = both.1 }

pub returns : goal.returns
returns g c = record { each = λ k h. c.loop-number.invariant.each k (omega arith); past = λ k h. c.loop-number.invariant.past k (omega arith) }
