-- The free list as a chain of pages, by whatever bound it is read.
use Rattle.std.proofs.Common.{◌≡◌, ℕ, zero, suc, ◌+◌, ◌<◌, ◌≤◌, cond, eqb, ◌≢◌, List, [], ◌∷◌, length, get_or, sym, refl, ap, ◌∙◌, subst, inl, inr, arith}
use Rattle.std.proofs.lemmas.Bool.{cases_lt, ne_eqb}
use Rattle.std.proofs.lemmas.Bool.Decides.{nat_tests}
use Rattle.tree.specs.Tree.{occ}
use Rattle.tree.proofs.Down.{occ_here}
use Rattle.tree.proofs.Below.{few_from}
use Rattle.pager.specs.Ground.{chain, Ends, in_use}

-- ps are the pages from p on, through first words, until a nought
abbrev pub Links : (ℕ → List ℕ) → ℕ → List ℕ → Type 0
Links v p [] = p ≡ 0
Links v p (q ∷ ps) = (q ≡ p) × (p ≢ 0) × Links v (get_or (v p) 0 0) ps

chain_step : (n p : ℕ) (v : ℕ → List ℕ) → p ≢ 0 → chain (suc n) p v ≡ p ∷ chain n (get_or (v p) 0 0) v
unfolding chain
chain_step n p v h = rw (ne_eqb p 0 h)

pub links_of : (n p : ℕ) (v : ℕ → List ℕ) → Ends n p v → Links v p (chain n p v)
unfolding chain Ends
links_of zero p v e = e
links_of (suc n) zero v e = refl
links_of (suc n) (suc p) v (inl z) = absurd (omega arith)
links_of (suc n) (suc p) v (inr e) = subst (λ ps. Links v (suc p) ps) (sym (chain_step n (suc p) v (λ z. omega arith))) (refl, (λ z. omega arith), links_of n (get_or (v (suc p)) 0 0) v e)

pub chain_is : (n p : ℕ) (v : ℕ → List ℕ) (ps : List ℕ) → Links v p ps → length ps ≤ n → chain n p v ≡ ps
unfolding chain
chain_is zero p v [] k h = refl
chain_is zero p v (q ∷ ps) k h = absurd (omega arith)
chain_is (suc n) p v [] k h = subst (λ x. chain (suc n) x v ≡ []) (sym k) refl
chain_is (suc n) p v (q ∷ ps) k h = chain_step n p v k.1 ∙ ap (λ qs. p ∷ qs) (chain_is n (get_or (v p) 0 0) v ps k.2 (omega arith)) ∙ ap (λ x. x ∷ ps) (sym k.0)

pub ends_is : (n p : ℕ) (v : ℕ → List ℕ) (ps : List ℕ) → Links v p ps → length ps ≤ n → Ends n p v
unfolding Ends
ends_is zero p v [] k h = k
ends_is zero p v (q ∷ ps) k h = absurd (omega arith)
ends_is (suc n) p v [] k h = inl k
ends_is (suc n) p v (q ∷ ps) k h = inr (ends_is n (get_or (v p) 0 0) v ps k.2 (omega arith))

pub links_nil : (v : ℕ → List ℕ) (p : ℕ) (ps : List ℕ) → Links v p ps → p ≡ 0 → ps ≡ []
links_nil v p [] k z = refl
links_nil v p (q ∷ ps) k z = absurd (k.1 z)

pub links_cons : (v : ℕ → List ℕ) (p : ℕ) (ps : List ℕ) → Links v p ps → p ≢ 0 → (qs : List ℕ) × (ps ≡ p ∷ qs) × Links v (get_or (v p) 0 0) qs
links_cons v p [] k h = absurd (h k)
links_cons v p (q ∷ ps) k h = (ps, ap (λ x. x ∷ ps) k.0, k.2)

-- a view with the same pages has the same chain
pub links_same : (v w : ℕ → List ℕ) (p : ℕ) (ps : List ℕ) → ((q : ℕ) → 1 ≤ occ q ps → w q ≡ v q) → Links v p ps → Links w p ps
links_same v w p [] h k = k
links_same v w p (q ∷ ps) h k =
    let e : w p ≡ v p = subst (λ x. w x ≡ v x) k.0 (h q (occ_here q ps)) in
    (k.0, k.1, subst (λ b. Links w (get_or b 0 0) ps) (sym e) (links_same v w (get_or (v p) 0 0) ps (λ x y. h x (omega arith)) k.2))

pub in_use_low : (u q : ℕ) → q < 393 → in_use u q ≡ 0
in_use_low u q h = grind (arith, nat_tests)

pub in_use_here : (u q : ℕ) → 393 ≤ q → q < 393 + u → in_use u q ≡ 1
in_use_here u q h l = grind (arith, nat_tests)

pub in_use_past : (u q : ℕ) → 393 + u ≤ q → in_use u q ≡ 0
in_use_past u q h = grind (arith, nat_tests)

pub in_use_none : (q : ℕ) → in_use 0 q ≡ 0
in_use_none q = grind (arith, nat_tests)

pub in_use_more : (u q : ℕ) → in_use (u + 1) q ≡ in_use u q + cond (eqb q (393 + u)) 1 0
in_use_more u q = grind (arith, nat_tests)

pub in_use_once : (u q : ℕ) → in_use u q ≤ 1
in_use_once u q = grind (arith, nat_tests)

pub in_use_range : (u q : ℕ) → 1 ≤ in_use u q → (393 ≤ q) × (q < 393 + u)
in_use_range u q h = elim (cases_lt q 393) [
  | inl z ↦ absurd (omega (arith, in_use_low u q z))
  | inr z ↦ elim (cases_lt q (393 + u)) [ inl y ↦ (z, y) | inr y ↦ absurd (omega (arith, in_use_past u q y)) ]
]

-- different pages that were ever used are no more than these
pub few_used : (u : ℕ) (ps : List ℕ) → ((q : ℕ) → occ q ps ≤ in_use u q) → length ps ≤ u
few_used u ps h = omega (arith, few_from 393 (393 + u) ps (λ q l. omega (arith, h q, in_use_low u q l)) (λ q. omega (arith, h q, in_use_once u q)) (λ q l. omega (arith, h q, in_use_past u q l)))
