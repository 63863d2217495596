-- Pairs with rising keys, put together and cut.
use Rattle.std.proofs.Common.{◌≡◌, ℕ, zero, suc, ◌<◌, ◌≤◌, cond, eqb, List, [], ◌∷◌, ◌++◌, length, get_or, take, drop, Some, None, Option, refl, ap, ◌∙◌, inl, inr, arith}
use Rattle.std.proofs.lemmas.Bool.{lt-ltb, le-ltb, eq-eqb, ne_eqb, cases_order, cases_eq, cases_lt}
use Rattle.node.specs.Pairs.{Up, find, first, above, put_in, drop_in}

pub up_le : (lo hi : ℕ) (es : List (ℕ × ℕ)) → Up lo hi es → lo ≤ hi
up_le lo hi [] u = u
up_le lo hi (e ∷ es) u = omega (arith, u.0, up_le (suc e.0) hi es u.1)

pub up_low : (a lo hi : ℕ) (es : List (ℕ × ℕ)) → a ≤ lo → Up lo hi es → Up a hi es
up_low a lo hi [] h u = omega (arith, u)
up_low a lo hi (e ∷ es) h u = (omega (arith, u.0), u.1)

pub up_high : (lo hi b : ℕ) (es : List (ℕ × ℕ)) → hi ≤ b → Up lo hi es → Up lo b es
up_high lo hi b [] h u = omega (arith, u)
up_high lo hi b (e ∷ es) h u = (u.0, up_high (suc e.0) hi b es h u.1)

pub up-++ : (lo mid hi : ℕ) (xs ys : List (ℕ × ℕ)) → Up lo mid xs → Up mid hi ys → Up lo hi (xs ++ ys)
up-++ lo mid hi [] ys u w = up_low lo mid hi ys u w
up-++ lo mid hi (e ∷ xs) ys u w = (u.0, up-++ (suc e.0) mid hi xs ys u.1 w)

pub find_low : (lo hi k : ℕ) (es : List (ℕ × ℕ)) → Up lo hi es → k < lo → find k es ≡ None
find_low lo hi k [] u h = refl
find_low lo hi k (e ∷ es) u h = rw (ne_eqb e.0 k (λ z. omega (arith, z, u.0))) (find_low (suc e.0) hi k es u.1 (omega (arith, u.0)))

pub find_left : (lo hi k : ℕ) (xs ys : List (ℕ × ℕ)) → Up lo hi xs → hi ≤ k → find k (xs ++ ys) ≡ find k ys
find_left lo hi k [] ys u h = refl
find_left lo hi k (e ∷ xs) ys u h = rw (ne_eqb e.0 k (λ z. omega (arith, z, up_le (suc e.0) hi xs u.1))) (find_left (suc e.0) hi k xs ys u.1 h)

pub find_right : (lo hi k : ℕ) (xs ys : List (ℕ × ℕ)) → Up lo hi ys → k < lo → find k (xs ++ ys) ≡ find k xs
find_right lo hi k [] ys u h = find_low lo hi k ys u h
find_right lo hi k (e ∷ xs) ys u h = ap (λ r. cond (eqb e.0 k) (Some e.1) r) (find_right lo hi k xs ys u h)

pub above_left : (lo hi k : ℕ) (xs ys : List (ℕ × ℕ)) → Up lo hi xs → hi ≤ suc k → above k (xs ++ ys) ≡ above k ys
above_left lo hi k [] ys u h = refl
above_left lo hi k (e ∷ xs) ys u h = rw (le-ltb k e.0 (omega (arith, up_le (suc e.0) hi xs u.1))) (above_left (suc e.0) hi k xs ys u.1 h)

pub above_some : (k : ℕ) (xs ys : List (ℕ × ℕ)) (e : ℕ × ℕ) → above k xs ≡ Some e → above k (xs ++ ys) ≡ Some e
above_some k [] ys e h = let z : ◌≡◌ {A = ℕ} 0 1 = cc in absurd (omega arith)
above_some k (a ∷ xs) ys e h =
    elim (cases_lt k a.0) [
      | inl l ↦ rw (lt-ltb k a.0 l) (rw (lt-ltb k a.0 l) at h)
      | inr l ↦ rw (le-ltb k a.0 l) (above_some k xs ys e (rw (le-ltb k a.0 l) at h))
    ]

pub above_none : (k : ℕ) (xs ys : List (ℕ × ℕ)) → above k xs ≡ None → above k (xs ++ ys) ≡ above k ys
above_none k [] ys h = refl
above_none k (a ∷ xs) ys h =
    elim (cases_lt k a.0) [
      | inl l ↦ let y : ◌≡◌ {A = Option (ℕ × ℕ)} (Some a) None = rw (lt-ltb k a.0 l) at h in let z : ◌≡◌ {A = ℕ} 0 1 = cc in absurd (omega arith)
      | inr l ↦ rw (le-ltb k a.0 l) (above_none k xs ys (rw (le-ltb k a.0 l) at h))
    ]

pub above_first : (lo hi k : ℕ) (es : List (ℕ × ℕ)) → Up lo hi es → k < lo → above k es ≡ first es
above_first lo hi k [] u h = refl
above_first lo hi k (e ∷ es) u h = rw (lt-ltb k e.0 (omega (arith, u.0)))

-- an index that parts the keys below k from the others
pub cut : (i : ℕ) (es : List (ℕ × ℕ)) (lo hi k : ℕ) → i ≤ length es → Up lo hi es → lo ≤ k → k ≤ hi →
    ((j : ℕ) → j < i → (get_or es j (0, 0)).0 < k) → ((j : ℕ) → i ≤ j → j < length es → k ≤ (get_or es j (0, 0)).0) → Up lo k (take i es) × Up k hi (drop i es)
cut zero [] lo hi k h u a b l g = (a, b)
cut zero (e ∷ es) lo hi k h u a b l g = (a, (g 0 (omega arith) (omega arith), u.1))
cut (suc i) [] lo hi k h u a b l g = absurd (omega arith)
cut (suc i) (e ∷ es) lo hi k h u a b l g =
    let r = cut i es (suc e.0) hi k (omega arith) u.1 (l 0 (omega arith)) b (λ j z. l (suc j) (omega arith)) (λ j z y. g (suc j) (omega arith) (omega arith)) in
    ((u.0, r.0), r.1)

-- each key is between the bounds, and keys rise by places
pub up_at : (lo hi : ℕ) (es : List (ℕ × ℕ)) → Up lo hi es → (j : ℕ) → j < length es → (lo ≤ (get_or es j (0, 0)).0) × ((get_or es j (0, 0)).0 < hi)
up_at lo hi [] u j h = absurd (omega arith)
up_at lo hi (e ∷ es) u zero h = (u.0, up_le (suc e.0) hi es u.1)
up_at lo hi (e ∷ es) u (suc j) h = let r = up_at (suc e.0) hi es u.1 j (omega arith) in (omega (arith, r.0, u.0), r.1)

pub up_rises : (lo hi : ℕ) (es : List (ℕ × ℕ)) → Up lo hi es → (i j : ℕ) → i < j → j < length es → (get_or es i (0, 0)).0 < (get_or es j (0, 0)).0
up_rises lo hi [] u i j h l = absurd (omega arith)
up_rises lo hi (e ∷ es) u i zero h l = absurd (omega arith)
up_rises lo hi (e ∷ es) u zero (suc j) h l = (up_at (suc e.0) hi es u.1 j (omega arith)).0
up_rises lo hi (e ∷ es) u (suc i) (suc j) h l = up_rises (suc e.0) hi es u.1 i j (omega arith) (omega arith)

-- put
pub put_low : (lo hi k x : ℕ) (es : List (ℕ × ℕ)) → Up lo hi es → k < lo → put_in k x es ≡ (k, x) ∷ es
put_low lo hi k x [] u h = refl
put_low lo hi k x (e ∷ es) u h = rw (le-ltb e.0 k (omega (arith, u.0)), ne_eqb e.0 k (λ z. omega (arith, z, u.0)))

pub put_left : (lo hi k x : ℕ) (xs ys : List (ℕ × ℕ)) → Up lo hi xs → hi ≤ k → put_in k x (xs ++ ys) ≡ xs ++ put_in k x ys
put_left lo hi k x [] ys u h = refl
put_left lo hi k x (e ∷ xs) ys u h = rw (lt-ltb e.0 k (omega (arith, up_le (suc e.0) hi xs u.1))) (ap (λ r. e ∷ r) (put_left (suc e.0) hi k x xs ys u.1 h))

pub put_right : (lo hi k x : ℕ) (xs ys : List (ℕ × ℕ)) → Up lo hi ys → k < lo → put_in k x (xs ++ ys) ≡ put_in k x xs ++ ys
put_right lo hi k x [] ys u h = put_low lo hi k x ys u h
put_right lo hi k x (e ∷ xs) ys u h =
    elim (cases_order e.0 k) [
      | inl z ↦ rw (le-ltb e.0 k (omega arith), eq-eqb e.0 k z)
      | inr (inl l) ↦ rw (lt-ltb e.0 k l) (ap (λ r. e ∷ r) (put_right lo hi k x xs ys u h))
      | inr (inr g) ↦ rw (le-ltb e.0 k (omega arith), ne_eqb e.0 k (λ z. omega (arith, z)))
    ]

pub up_put : (lo hi k x : ℕ) (es : List (ℕ × ℕ)) → Up lo hi es → lo ≤ k → k < hi → Up lo hi (put_in k x es)
up_put lo hi k x [] u a b = (a, b)
up_put lo hi k x (e ∷ es) u a b =
    elim (cases_order e.0 k) [
      | inl z ↦ rw (le-ltb e.0 k (omega arith), eq-eqb e.0 k z) (a, up_low (suc k) (suc e.0) hi es (omega arith) u.1)
      | inr (inl l) ↦ rw (lt-ltb e.0 k l) (u.0, up_put (suc e.0) hi k x es u.1 l b)
      | inr (inr g) ↦ rw (le-ltb e.0 k (omega arith), ne_eqb e.0 k (λ z. omega (arith, z))) (a, (g, u.1))
    ]

-- drop
pub drop_low : (lo hi k : ℕ) (es : List (ℕ × ℕ)) → Up lo hi es → k < lo → drop_in k es ≡ es
drop_low lo hi k [] u h = refl
drop_low lo hi k (e ∷ es) u h = rw (ne_eqb e.0 k (λ z. omega (arith, z, u.0))) (ap (λ r. e ∷ r) (drop_low (suc e.0) hi k es u.1 (omega (arith, u.0))))

pub drop_left : (lo hi k : ℕ) (xs ys : List (ℕ × ℕ)) → Up lo hi xs → hi ≤ k → drop_in k (xs ++ ys) ≡ xs ++ drop_in k ys
drop_left lo hi k [] ys u h = refl
drop_left lo hi k (e ∷ xs) ys u h = rw (ne_eqb e.0 k (λ z. omega (arith, z, up_le (suc e.0) hi xs u.1))) (ap (λ r. e ∷ r) (drop_left (suc e.0) hi k xs ys u.1 h))

pub drop_right : (lo hi k : ℕ) (xs ys : List (ℕ × ℕ)) → Up lo hi ys → k < lo → drop_in k (xs ++ ys) ≡ drop_in k xs ++ ys
drop_right lo hi k [] ys u h = drop_low lo hi k ys u h
drop_right lo hi k (e ∷ xs) ys u h =
    elim (cases_eq e.0 k) [
      | inl z ↦ rw (eq-eqb e.0 k z)
      | inr z ↦ rw (ne_eqb e.0 k z) (ap (λ r. e ∷ r) (drop_right lo hi k xs ys u h))
    ]

pub up_drop : (lo hi k : ℕ) (es : List (ℕ × ℕ)) → Up lo hi es → Up lo hi (drop_in k es)
up_drop lo hi k [] u = u
up_drop lo hi k (e ∷ es) u =
    elim (cases_eq e.0 k) [
      | inl z ↦ rw (eq-eqb e.0 k z) (up_low lo (suc e.0) hi es (omega (arith, u.0)) u.1)
      | inr z ↦ rw (ne_eqb e.0 k z) (u.0, up_drop (suc e.0) hi k es u.1)
    ]

-- k between
module _ (lo a b hi k : ℕ) (xs cs ys : List (ℕ × ℕ)) (ua : Up lo a xs) (ub : Up b hi ys) (from : a ≤ k) (to : k < b) where
  pub find_in : find k (xs ++ (cs ++ ys)) ≡ find k cs
  find_in = find_left lo a k xs (cs ++ ys) ua from ∙ find_right b hi k cs ys ub to

  pub put_in_lem : (x : ℕ) → put_in k x (xs ++ (cs ++ ys)) ≡ xs ++ (put_in k x cs ++ ys)
  put_in_lem x = put_left lo a k x xs (cs ++ ys) ua from ∙ ap (λ r. xs ++ r) (put_right b hi k x cs ys ub to)

  pub drop_in_lem : drop_in k (xs ++ (cs ++ ys)) ≡ xs ++ (drop_in k cs ++ ys)
  drop_in_lem = drop_left lo a k xs (cs ++ ys) ua from ∙ ap (λ r. xs ++ r) (drop_right b hi k cs ys ub to)
