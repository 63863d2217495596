-- Lists in two parts: where the second begins.
use Rattle.std.proofs.Common.{◌≡◌, ℕ, zero, suc, ◌+◌, ◌<◌, ◌≤◌, cond, eqb, ◌⊎◌, List, [], ◌∷◌, ◌++◌, length, get_or, take, drop, sym, refl, ap, ◌∙◌, subst, inl, inr, append_assoc, arith}
use Rattle.std.proofs.lemmas.List.{length-append}
use Rattle.std.proofs.lemmas.Bool.{lt-ltb, le-ltb, eq-eqb, ne_eqb, cases_order}
use Rattle.std.specs.List.{insert}
use Rattle.node.specs.Pairs.{Up, put_in}
use Rattle.tree.specs.Tree.{joined, occ, Kids, root_min}
use Rattle.node.proofs.Pairs.{up_le}
use Rattle.tree.proofs.Kids.{kids_le, occ-++}

pub put_length : (k x : ℕ) (es : List (ℕ × ℕ)) → length es ≤ length (put_in k x es)
put_length k x [] = omega arith
put_length k x (e ∷ es) = elim (cases_order e.0 k) [
  | inl z ↦ rw (le-ltb e.0 k (omega arith), eq-eqb e.0 k z) (omega arith)
  | inr (inl l) ↦ rw (lt-ltb e.0 k l) (omega (arith, put_length k x es))
  | inr (inr g) ↦ rw (le-ltb e.0 k (omega arith), ne_eqb e.0 k (λ z. omega (arith, z))) (omega arith)
]

pub record UpCut (lo hi : ℕ) (xs ys : List (ℕ × ℕ)) (k : ℕ) : Type 0 where
  pub low : lo < k
  pub high : k < hi
  pub left : Up lo k xs
  pub right : Up k hi ys

up_first : (lo hi : ℕ) (xs : List (ℕ × ℕ)) (y : ℕ × ℕ) (ys : List (ℕ × ℕ)) → Up lo hi (xs ++ (y ∷ ys)) → Up lo y.0 xs × Up y.0 hi (y ∷ ys)
up_first lo hi [] y ys u = (u.0, (omega arith, u.1))
up_first lo hi (x ∷ xs) y ys u = let r = up_first (suc x.0) hi xs y ys u.1 in ((u.0, r.0), r.1)

up_above : (lo hi : ℕ) (xs : List (ℕ × ℕ)) → Up lo hi xs → 0 < length xs → lo < hi
up_above lo hi [] u h = absurd (omega arith)
up_above lo hi (x ∷ xs) u h = omega (arith, u.0, up_le (suc x.0) hi xs u.1)

pub up_parts : (lo hi : ℕ) (xs ys : List (ℕ × ℕ)) → 0 < length xs → 0 < length ys → Up lo hi (xs ++ ys) → UpCut lo hi xs ys (get_or ys 0 (0, 0)).0
up_parts lo hi xs [] h l u = absurd (omega arith)
up_parts lo hi xs (y ∷ ys) h l u = let r = up_first lo hi xs y ys u in
    record { low = up_above lo y.0 xs r.0 h; high = up_above y.0 hi (y ∷ ys) r.1 (omega arith); left = r.0; right = r.1 }

pub record KidsCut (W : ℕ → ℕ → ℕ → Type 0) (lo hi : ℕ) (xs ys : List (ℕ × ℕ)) (k : ℕ) : Type 0 where
  pub low : lo < k
  pub high : k < hi
  pub left : Kids W lo k xs
  pub right : Kids W k hi ys

module _ (W : ℕ → ℕ → ℕ → Type 0) where
  kids_split : (lo hi : ℕ) (xs ys : List (ℕ × ℕ)) → Kids W lo hi (xs ++ ys) → (mid : ℕ) × Kids W lo mid xs × Kids W mid hi ys
  kids_split lo hi [] ys k = (lo, refl, k)
  kids_split lo hi (x ∷ xs) ys (z, (m, l, w, r)) = let t = kids_split m hi xs ys r in (t.0, (z, (m, l, w, t.1)), t.2)

  kids_above : (lo hi : ℕ) (xs : List (ℕ × ℕ)) → Kids W lo hi xs → 0 < length xs → lo < hi
  kids_above lo hi [] k h = absurd (omega arith)
  kids_above lo hi (x ∷ xs) (z, (m, l, w, r)) h = omega (arith, l, kids_le W m hi xs r)

  kids_key : (lo hi : ℕ) (xs : List (ℕ × ℕ)) → Kids W lo hi xs → 0 < length xs → lo ≡ (get_or xs 0 (0, 0)).0
  kids_key lo hi [] k h = absurd (omega arith)
  kids_key lo hi (x ∷ xs) k h = sym k.0

  pub kids_parts : (lo hi : ℕ) (xs ys : List (ℕ × ℕ)) → 0 < length xs → 0 < length ys → Kids W lo hi (xs ++ ys) → KidsCut W lo hi xs ys (get_or ys 0 (0, 0)).0
  kids_parts lo hi xs ys h l k =
      let t = kids_split lo hi xs ys k in
      let e = kids_key t.0 hi ys t.2 l in
      subst (λ n. KidsCut W lo hi xs ys n) e (record { low = kids_above lo t.0 xs t.1 h; high = kids_above t.0 hi ys t.2 l; left = t.1; right = t.2 })

pub joined-++ : {A : Type 0} (f : ℕ → List A) (xs ys : List (ℕ × ℕ)) → joined f (xs ++ ys) ≡ joined f xs ++ joined f ys
joined-++ f [] ys = refl
joined-++ f (x ∷ xs) ys = ap (λ r. f x.1 ++ r) (joined-++ f xs ys) ∙ sym (append_assoc (f x.1) (joined f xs) (joined f ys))

pub occ_joined : (q : ℕ) (f : ℕ → List ℕ) (xs ys : List (ℕ × ℕ)) → occ q (joined f (xs ++ ys)) ≡ occ q (joined f xs) + occ q (joined f ys)
occ_joined q f xs ys = ap (λ ps. occ q ps) (joined-++ f xs ys) ∙ occ-++ q (joined f xs) (joined f ys)

pub occ_one : (q p : ℕ) → occ q (p ∷ []) ≡ 0 → q ≡ p → ⊥
occ_one q p h z = omega (arith, h, eqn)
  where
    eqn : ◌≡◌ {A = ℕ} (cond (eqb q p) 1 0) 1
    eqn = rw (eq-eqb q p z)

pub one_or : (q p : ℕ) → (◌≡◌ {A = ℕ} (cond (eqb q p) 1 0) 0) ⊎ (q ≡ p)
one_or q p = elim (cases_order q p) [
  | inl z ↦ inr z
  | inr (inl l) ↦ inl (rw (ne_eqb q p (λ z. omega (arith, z))))
  | inr (inr l) ↦ inl (rw (ne_eqb q p (λ z. omega (arith, z))))
]

pub one_here : (q p : ℕ) → q ≡ p → ◌≡◌ {A = ℕ} (cond (eqb q p) 1 0) 1
one_here q p z = rw (eq-eqb q p z)

pub occ_first : (q p : ℕ) (ps : List ℕ) → occ q (p ∷ ps) ≡ 0 → q ≡ p → ⊥
occ_first q p ps h z = omega (arith, h, one_here q p z)

pub grown_length : (i : ℕ) (es rs : List (ℕ × ℕ)) → i < length es → 0 < length rs → length es ≤ length (take i es ++ (rs ++ drop (suc i) es))
grown_length i [] rs h l = absurd (omega arith)
grown_length zero (e ∷ es) rs h l = omega (arith, length-append rs es)
grown_length (suc i) (e ∷ es) rs h l = omega (arith, grown_length i es rs (omega arith) l)

pub same_list : (i : ℕ) (es : List (ℕ × ℕ)) → i < length es → es ≡ take i es ++ (get_or es i (0, 0) ∷ drop (suc i) es)
same_list i [] h = absurd (omega arith)
same_list zero (e ∷ es) h = refl
same_list (suc i) (e ∷ es) h = ap (λ r. e ∷ r) (same_list i es (omega arith))

pub more_list : (i : ℕ) (es : List (ℕ × ℕ)) (a : ℕ × ℕ) → i < length es → insert es (suc i) a ≡ take i es ++ (get_or es i (0, 0) ∷ (a ∷ drop (suc i) es))
more_list i [] a h = absurd (omega arith)
more_list zero (e ∷ es) a h = refl
more_list (suc i) (e ∷ es) a h = ap (λ r. e ∷ r) (more_list i es a (omega arith))

pub root_few : (l : ℕ) → root_min l ≤ 85
root_few zero = omega arith
root_few (suc l) = omega arith
