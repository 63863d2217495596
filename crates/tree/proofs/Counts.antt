-- How many pairs there are after a put or a drop.
use Rattle.std.proofs.Common.{◌≡◌, ℕ, suc, ◌+◌, Bool, cond, not, List, [], ◌∷◌, length, refl, inl, inr, arith}
use Rattle.std.specs.Prelude.{is_some}
use Rattle.std.proofs.lemmas.Bool.{lt-ltb, le-ltb, eq-eqb, ne_eqb, cases_order}
use Rattle.node.specs.Pairs.{Up, find, put_in, drop_in}
use Rattle.node.proofs.Pairs.{find_low}
use Rattle.tree.specs.Tree.{UpTree, keys_end}
use Rattle.tree.specs.Grow.{New}
use Rattle.tree.specs.Shrink.{Was}

puts : (lo hi k x : ℕ) (es : List (ℕ × ℕ)) → Up lo hi es → length (put_in k x es) ≡ length es + cond (not (is_some (find k es))) 1 0
puts lo hi k x [] u = refl
puts lo hi k x (e ∷ es) u = elim (cases_order e.0 k) [
  | inl z ↦ rw (le-ltb e.0 k (omega arith), eq-eqb e.0 k z) (omega arith)
  | inr (inl l) ↦ rw (lt-ltb e.0 k l, ne_eqb e.0 k (λ z. omega (arith, z))) (omega (arith, puts (suc e.0) hi k x es u.1))
  | inr (inr g) ↦ rw (le-ltb e.0 k (omega arith), ne_eqb e.0 k (λ z. omega (arith, z)), find_low (suc e.0) hi k es u.1 (omega arith)) (omega arith)
]

pub put_count : (k x : ℕ) (es : List (ℕ × ℕ)) (new : Bool) → UpTree es → New k es new → length (put_in k x es) ≡ length es + cond new 1 0
put_count k x es new u n = rw n (puts 0 keys_end k x es u)

drops : (k : ℕ) (es : List (ℕ × ℕ)) → length es ≡ length (drop_in k es) + cond (is_some (find k es)) 1 0
drops k [] = refl
drops k (e ∷ es) = elim (cases_order e.0 k) [
  | inl z ↦ rw (eq-eqb e.0 k z) (omega arith)
  | inr (inl l) ↦ rw (ne_eqb e.0 k (λ z. omega (arith, z))) (omega (arith, drops k es))
  | inr (inr g) ↦ rw (ne_eqb e.0 k (λ z. omega (arith, z))) (omega (arith, drops k es))
]

pub drop_count : (k : ℕ) (es : List (ℕ × ℕ)) (was : Bool) → Was k es was → length es ≡ length (drop_in k es) + cond was 1 0
drop_count k es was w = rw w (drops k es)
