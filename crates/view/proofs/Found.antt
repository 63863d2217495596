-- Pairs with rising keys: what is found after a put and a drop, and the first pair above a key.
use Rattle.std.proofs.Common.{◌≡◌, ℕ, suc, ◌+◌, ◌<◌, ◌≤◌, cond, eqb, List, [], ◌∷◌, Some, None, Option, sym, refl, ap, ◌∙◌, inl, inr, arith}
use Rattle.std.proofs.lemmas.Bool.{lt-ltb, le-ltb, eq-eqb, ne_eqb, cases_order, cases_eq, cases_lt}
use Rattle.node.specs.Pairs.{Up, find, above, put_in, drop_in}
use Rattle.view.specs.Writes.{Rising}

abbrev pub Pairs : Type 0
Pairs = List (ℕ × ℕ)

up_low : (a lo hi : ℕ) (t : Pairs) → a ≤ lo → Up lo hi t → Up a hi t
up_low a lo hi [] h u = omega (arith, u)
up_low a lo hi (e ∷ t) h u = (omega (arith, u.0), u.1)

up_high : (lo hi b : ℕ) (t : Pairs) → hi ≤ b → Up lo hi t → Up lo b t
up_high lo hi b [] h u = omega (arith, u)
up_high lo hi b (e ∷ t) h u = (u.0, up_high (suc e.0) hi b t h u.1)

up_put : (lo hi k x : ℕ) (t : Pairs) → Up lo hi t → lo ≤ k → k < hi → Up lo hi (put_in k x t)
up_put lo hi k x [] u a b = (a, b)
up_put lo hi k x (e ∷ t) u a b =
    elim (cases_order e.0 k) [
      | inl z ↦ rw (le-ltb e.0 k (omega arith), eq-eqb e.0 k z) (a, up_low (suc k) (suc e.0) hi t (omega arith) u.1)
      | inr (inl l) ↦ rw (lt-ltb e.0 k l) (u.0, up_put (suc e.0) hi k x t u.1 l b)
      | inr (inr g) ↦ rw (le-ltb e.0 k (omega arith), ne_eqb e.0 k (λ z. omega (arith, z))) (a, (g, u.1))
    ]

up_drop : (lo hi k : ℕ) (t : Pairs) → Up lo hi t → Up lo hi (drop_in k t)
up_drop lo hi k [] u = u
up_drop lo hi k (e ∷ t) u =
    elim (cases_eq e.0 k) [
      | inl z ↦ rw (eq-eqb e.0 k z) (up_low lo (suc e.0) hi t (omega (arith, u.0)) u.1)
      | inr z ↦ rw (ne_eqb e.0 k z) (u.0, up_drop (suc e.0) hi k t u.1)
    ]

pub rising_put : (k x : ℕ) (t : Pairs) → Rising t → Rising (put_in k x t)
rising_put k x t u = (u.0 + suc k, up_put 0 (u.0 + suc k) k x t (up_high 0 u.0 (u.0 + suc k) t (omega arith) u.1) (omega arith) (omega arith))

pub rising_drop : (k : ℕ) (t : Pairs) → Rising t → Rising (drop_in k t)
rising_drop k t u = (u.0, up_drop 0 u.0 k t u.1)

-- WHAT IS FOUND
-- where another key stands in front
past : (j : ℕ) (e : ℕ × ℕ) (t : Pairs) → (e.0 ≡ j → ⊥) → find j (e ∷ t) ≡ find j t
past j e t d = rw (ne_eqb e.0 j d)

here : (j : ℕ) (e : ℕ × ℕ) (t : Pairs) → e.0 ≡ j → find j (e ∷ t) ≡ Some e.1
here j e t z = rw (eq-eqb e.0 j z)

low : (lo hi j : ℕ) (t : Pairs) → Up lo hi t → j < lo → find j t ≡ None
low lo hi j [] u h = refl
low lo hi j (e ∷ t) u h = past j e t (λ z. omega (arith, z, u.0)) ∙ low (suc e.0) hi j t u.1 (omega (arith, u.0))

cons : (j : ℕ) (e : ℕ × ℕ) (t s : Pairs) → find j t ≡ find j s → find j (e ∷ t) ≡ find j (e ∷ s)
cons j e t s h = ap (λ r. cond (eqb e.0 j) (Some e.1) r) h

pub find_put_same : (k x : ℕ) (t : Pairs) → find k (put_in k x t) ≡ Some x
find_put_same k x [] = here k (k, x) [] refl
find_put_same k x (e ∷ t) =
    elim (cases_order e.0 k) [
      | inl z ↦ rw (le-ltb e.0 k (omega arith), eq-eqb e.0 k z) (here k (k, x) t refl)
      | inr (inl l) ↦ rw (lt-ltb e.0 k l) (past k e (put_in k x t) (λ z. omega (arith, z)) ∙ find_put_same k x t)
      | inr (inr g) ↦ rw (le-ltb e.0 k (omega arith), ne_eqb e.0 k (λ z. omega (arith, z))) (here k (k, x) (e ∷ t) refl)
    ]

pub find_put_other : (j k x : ℕ) (t : Pairs) → (j ≡ k → ⊥) → find j (put_in k x t) ≡ find j t
find_put_other j k x [] d = past j (k, x) [] (λ z. d (sym z))
find_put_other j k x (e ∷ t) d =
    elim (cases_order e.0 k) [
      | inl z ↦ rw (le-ltb e.0 k (omega arith), eq-eqb e.0 k z) (past j (k, x) t (λ y. d (sym y)) ∙ sym (past j e t (λ y. d (sym y ∙ z))))
      | inr (inl l) ↦ rw (lt-ltb e.0 k l) (cons j e (put_in k x t) t (find_put_other j k x t d))
      | inr (inr g) ↦ rw (le-ltb e.0 k (omega arith), ne_eqb e.0 k (λ z. omega (arith, z))) (past j (k, x) (e ∷ t) (λ y. d (sym y)))
    ]

drop_same : (lo hi k : ℕ) (t : Pairs) → Up lo hi t → find k (drop_in k t) ≡ None
drop_same lo hi k [] u = refl
drop_same lo hi k (e ∷ t) u =
    elim (cases_eq e.0 k) [
      | inl z ↦ rw (eq-eqb e.0 k z) (low (suc e.0) hi k t u.1 (omega arith))
      | inr z ↦ rw (ne_eqb e.0 k z) (past k e (drop_in k t) z ∙ drop_same (suc e.0) hi k t u.1)
    ]

pub find_drop_same : (k : ℕ) (t : Pairs) → Rising t → find k (drop_in k t) ≡ None
find_drop_same k t u = drop_same 0 u.0 k t u.1

pub find_drop_other : (j k : ℕ) (t : Pairs) → (j ≡ k → ⊥) → find j (drop_in k t) ≡ find j t
find_drop_other j k [] d = refl
find_drop_other j k (e ∷ t) d =
    elim (cases_eq e.0 k) [
      | inl z ↦ rw (eq-eqb e.0 k z) (sym (past j e t (λ y. d (sym y ∙ z))))
      | inr z ↦ rw (ne_eqb e.0 k z) (cons j e (drop_in k t) t (find_drop_other j k t d))
    ]

-- THE FIRST PAIR ABOVE A KEY, by what is found at each
pub data IsNext (f : ℕ → Option ℕ) (k : ℕ) : Option (ℕ × ℕ) → Type 0 where
  none : ((j : ℕ) → k < j → f j ≡ None) → IsNext f k None
  some : (e : ℕ × ℕ) → k < e.0 → f e.0 ≡ Some e.1 → ((j : ℕ) → k < j → j < e.0 → f j ≡ None) → IsNext f k (Some e)

pub next_only : (f : ℕ → Option ℕ) (k : ℕ) (a c : Option (ℕ × ℕ)) → IsNext f k a → IsNext f k c → a ≡ c
next_only f k a c (none h) (none h') = refl
next_only f k a c (none h) (some e g i v) = cc (h e.0 g, i)
next_only f k a c (some e g i v) (none h) = cc (h e.0 g, i)
next_only f k a c (some e g i v) (some d g' i' v') =
    elim (cases_order e.0 d.0) [
      | inl z ↦ let y : e.1 ≡ d.1 = cc in ap Some (same_pair e d z y)
      | inr (inl z) ↦ cc (i, v' e.0 g z)
      | inr (inr z) ↦ cc (i', v d.0 g' z)
    ]
  where
    same_pair : (e d : ℕ × ℕ) → e.0 ≡ d.0 → e.1 ≡ d.1 → e ≡ d
    same_pair e d z y = ap (λ n. (n, e.1)) z ∙ ap (λ n. (d.0, n)) y

-- by the same things found
pub next_by : (f g : ℕ → Option ℕ) (k : ℕ) (a : Option (ℕ × ℕ)) → ((j : ℕ) → k < j → f j ≡ g j) → IsNext f k a → IsNext g k a
next_by f g k a e (none h) = none (λ j l. sym (e j l) ∙ h j l)
next_by f g k a e (some p i h v) = some p i (sym (e p.0 i) ∙ h) (λ j u w. sym (e j u) ∙ v j u w)

above_up : (lo hi k : ℕ) (t : Pairs) → Up lo hi t → IsNext (λ j. find j t) k (above k t)
above_up lo hi k [] u = none (λ j h. refl)
above_up lo hi k (e ∷ t) u =
    elim (cases_lt k e.0) [
      | inl l ↦ rw (lt-ltb k e.0 l) (some e l (here e.0 e t refl) (λ j g h. past j e t (λ z. omega (arith, z)) ∙ low (suc e.0) hi j t u.1 (omega arith)))
      | inr l ↦ rw (le-ltb k e.0 l) (next_by (λ j. find j t) (λ j. find j (e ∷ t)) k (above k t) (λ j h. sym (past j e t (λ z. omega (arith, z)))) (above_up (suc e.0) hi k t u.1))
    ]

pub above_is : (k : ℕ) (t : Pairs) → Rising t → IsNext (λ j. find j t) k (above k t)
above_is k t u = above_up 0 u.0 k t u.1
