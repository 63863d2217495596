-- How many numbers a list has, where each stands in it at most once.
use Rattle.std.proofs.Common.{◌≡◌, ℕ, zero, suc, ◌+◌, ◌-◌, ◌<◌, ◌≤◌, Bool, true, false, cond, eqb, ltb, List, [], ◌∷◌, length, sym, refl, ap, inl, inr, arith}
use Rattle.std.proofs.lemmas.Bool.{lt-ltb, le-ltb, ne_eqb, cases_order, cases_lt}
use Rattle.tree.specs.Tree.{occ}
use Rattle.tree.proofs.Parts.{one_here}

-- how many of ps are below n, by counting each number
below : ℕ → List ℕ → ℕ
below zero ps = 0
below (suc n) ps = below n ps + occ n ps

below_none : (n : ℕ) → below n [] ≡ 0
unfolding below
below_none zero = refl
below_none (suc n) = omega (arith, below_none n)

bit : (b c : Bool) → b ≡ c → ◌≡◌ {A = ℕ} (cond b 1 0) (cond c 1 0)
bit b c e = ap (λ b. cond b 1 0) e

below_more : (n p : ℕ) (ps : List ℕ) → below n (p ∷ ps) ≡ below n ps + cond (ltb p n) 1 0
unfolding below
below_more zero p ps = rw (le-ltb p 0 (omega arith)) (omega arith)
below_more (suc n) p ps = elim (cases_order p n) [
  | inl z ↦ omega (arith, below_more n p ps, one_here n p (sym z), bit (ltb p n) false (le-ltb p n (omega arith)), bit (ltb p (suc n)) true (lt-ltb p (suc n) (omega arith)))
  | inr (inl z) ↦ omega (arith, below_more n p ps, bit (eqb n p) false (ne_eqb n p (λ y. omega (arith, y))), bit (ltb p n) true (lt-ltb p n z), bit (ltb p (suc n)) true (lt-ltb p (suc n) (omega arith)))
  | inr (inr z) ↦ omega (arith, below_more n p ps, bit (eqb n p) false (ne_eqb n p (λ y. omega (arith, y))), bit (ltb p n) false (le-ltb p n (omega arith)), bit (ltb p (suc n)) false (le-ltb p (suc n) (omega arith)))
]

below_few : (a n : ℕ) (ps : List ℕ) → ((q : ℕ) → q < a → occ q ps ≡ 0) → ((q : ℕ) → occ q ps ≤ 1) → below n ps ≤ n - a
unfolding below
below_few a zero ps l h = omega arith
below_few a (suc n) ps l h = elim (cases_lt n a) [ inl z ↦ omega (arith, below_few a n ps l h, l n z) | inr z ↦ omega (arith, below_few a n ps l h, h n) ]

below_each : (a n : ℕ) (ps : List ℕ) → ((q : ℕ) → q < a → occ q ps ≡ 0) → ((q : ℕ) → a ≤ q → q < n → occ q ps ≡ 1) → below n ps ≡ n - a
unfolding below
below_each a zero ps l h = omega arith
below_each a (suc n) ps l h = let b = below_each a n ps l (λ q x y. h q x (omega arith)) in elim (cases_lt n a) [ inl z ↦ omega (arith, b, l n z) | inr z ↦ omega (arith, b, h n z (omega arith)) ]

below_all : (n : ℕ) (ps : List ℕ) → ((q : ℕ) → n ≤ q → occ q ps ≡ 0) → below n ps ≡ length ps
below_all n [] h = below_none n
below_all n (p ∷ ps) h = elim (cases_lt p n) [
  | inl z ↦ omega (arith, below_more n p ps, bit (ltb p n) true (lt-ltb p n z), below_all n ps (λ q y. omega (arith, h q y)))
  | inr z ↦ absurd (omega (arith, h p z, one_here p p refl))
]

-- different numbers from a on, below n
pub few_from : (a n : ℕ) (ps : List ℕ) → ((q : ℕ) → q < a → occ q ps ≡ 0) → ((q : ℕ) → occ q ps ≤ 1) → ((q : ℕ) → n ≤ q → occ q ps ≡ 0) → length ps ≤ n - a
few_from a n ps l h u = omega (arith, below_few a n ps l h, below_all n ps u)

-- all of them
pub all_from : (a n : ℕ) (ps : List ℕ) → ((q : ℕ) → q < a → occ q ps ≡ 0) → ((q : ℕ) → a ≤ q → q < n → occ q ps ≡ 1) → ((q : ℕ) → n ≤ q → occ q ps ≡ 0) → length ps ≡ n - a
all_from a n ps l h u = omega (arith, below_each a n ps l h, below_all n ps u)
