use Rattle.std.proofs.Common.{◌≡◌, ℕ, List, length, replicate, sym, refl, subst, arith}
use Rattle.lines.specs.declared.ring.Ring.{Ring}
use Rattle.view_tests.specs.Play.{Sane}
use Rattle.view_tests.proofs.Sanely.{sane_first, nothing_seen}
use Rattle.view_tests.proofs.play.Play.new.Goals as goal

pub invariant_of-result : goal.invariant_of-result
invariant_of-result c =
    let w = c.in_ok-vec.field-0.items in
    let q : Ring = record { cap = 32768; start = 0; count = 0 } in
    let long : length w ≡ 262144 = omega (arith, c.in_ok-vec.ensures.len) in
    subst (λ (t : List (ℕ × ℕ)). Sane t w (replicate 32 0) q) (sym c.new.ensures.items) (sane_first w (replicate 32 0) q long refl refl refl refl)

pub returns : goal.returns
returns c = nothing_seen c.new.result.items c.in_ok-vec.field-0.items (record { cap = 32768; start = 0; count = 0 }) c.new.ensures.items refl
