-- The place of a key in a list of pairs, and what is found, put and dropped there.
use Rattle.std.proofs.Common.{◌≡◌, ℕ, zero, suc, ◌+◌, ◌<◌, ◌≤◌, Bool, false, eqb, leb, ltb, List, [], ◌∷◌, ◌++◌, length, get_or, take, drop, set, Some, None, Option, sym, refl, ap, ◌∙◌, inl, inr, arith}
use Rattle.std.proofs.lemmas.Bool.{cases_Bool, cases_lt, lt-ltb, le-ltb, eq-eqb, ne_eqb, eqb-true, eqb-false, leb-true, leb-false}
use denote.Ref.{Bor}
use Rattle.std.proofs.lemmas.List.{get_or_default}
use Rattle.std.proofs.lemmas.List.Quantifiers.{position-Some}
use Rattle.std.specs.List.{insert, remove, position, position_or_len, find as first_that}
use Rattle.std.specs.Option.{option_map}
use Rattle.node.specs.Pairs.{find, above, put_in, drop_in}

abbrev Pairs : Type 0
Pairs = List (ℕ × ℕ)

abbrev key : Pairs → ℕ → ℕ
key t j = (get_or t j (0, 0)).0

-- the first pair that passes is the first with the key, or above it
pub find_first : (k : ℕ) (t : Pairs) → option_map (λ e. e.1) (first_that (λ e. eqb e.0 k) t) ≡ find k t
find_first k [] = refl
find_first k (e ∷ t) = elim (cases_Bool (eqb e.0 k)) [ inl h ↦ rw h | inr h ↦ rw h (find_first k t) ]

pub above_first : (k : ℕ) (t : Pairs) → first_that (λ e. ltb k e.0) t ≡ above k t
above_first k [] = refl
above_first k (e ∷ t) = elim (cases_Bool (ltb k e.0)) [ inl h ↦ rw h | inr h ↦ rw h (above_first k t) ]

pub word_first : (o : Option (Bor (ℕ × ℕ))) → option_map (λ p. p.now.1) o ≡ option_map (λ e. e.1) (option_map (λ y. y.now) o)
word_first None = refl
word_first (Some p) = refl

-- where no pair passes
passed_over : (p : ℕ × ℕ → Bool) (t : Pairs) (j : ℕ) → j < position_or_len p t → p (get_or t j (0, 0)) ≡ false
passed_over p [] j l = absurd (omega arith)
passed_over p (e ∷ t) zero l = elim (cases_Bool (p e)) [ inl h ↦ let z : 0 < 0 = rw h at l in absurd (omega arith) | inr h ↦ h ]
passed_over p (e ∷ t) (suc j) l =
    elim (cases_Bool (p e)) [
      | inl h ↦ let z : suc j < 0 = rw h at l in absurd (omega arith)
      | inr h ↦ let z : suc j < 1 + position_or_len p t = rw h at l in passed_over p t j (omega arith)
    ]

pub none_pass : (p : ℕ × ℕ → Bool) (t : Pairs) → position p t ≡ None → (j : ℕ) → j < length t → p (get_or t j (0, 0)) ≡ false
none_pass p t e j l =
    elim (cases_lt (position_or_len p t) (length t)) [
      | inl h ↦ let z : ◌≡◌ {A = Option ℕ} (Some (position_or_len p t)) None = rw (lt-ltb (position_or_len p t) (length t) h) at e in cc
      | inr h ↦ passed_over p t j (omega arith)
    ]

pub put_over : (k x i : ℕ) (t : Pairs) → ((j : ℕ) → j < i → key t j < k) → i < length t → key t i ≡ k → put_in k x t ≡ set t i (k, x)
put_over k x i [] b l h = absurd (omega arith)
put_over k x zero (e ∷ t) b l h = rw (le-ltb e.0 k (omega (arith, h)), eq-eqb e.0 k h)
put_over k x (suc i) (e ∷ t) b l h = rw (lt-ltb e.0 k (b 0 (omega arith))) (ap (λ r. e ∷ r) (put_over k x i t (λ j g. b (suc j) (omega arith)) (omega arith) h))

pub put_new : (k x i : ℕ) (t : Pairs) → ((j : ℕ) → j < i → key t j < k) → i ≤ length t → (i < length t → k < key t i) → put_in k x t ≡ take i t ++ (k, x) ∷ drop i t
put_new k x zero [] b l h = refl
put_new k x (suc i) [] b l h = absurd (omega arith)
put_new k x zero (e ∷ t) b l h = let g : k < e.0 = h (omega arith) in rw (le-ltb e.0 k (omega arith), ne_eqb e.0 k (λ z. omega (arith, z)))
put_new k x (suc i) (e ∷ t) b l h = rw (lt-ltb e.0 k (b 0 (omega arith))) (ap (λ r. e ∷ r) (put_new k x i t (λ j g. b (suc j) (omega arith)) (omega arith) (λ g. h (omega arith))))

pub drop_at_lem : (k i : ℕ) (t : Pairs) → ((j : ℕ) → j < i → key t j ≡ k → ⊥) → i < length t → key t i ≡ k → drop_in k t ≡ take i t ++ drop (suc i) t
drop_at_lem k i [] b l h = absurd (omega arith)
drop_at_lem k zero (e ∷ t) b l h = rw (eq-eqb e.0 k h)
drop_at_lem k (suc i) (e ∷ t) b l h = rw (ne_eqb e.0 k (b 0 (omega arith))) (ap (λ r. e ∷ r) (drop_at_lem k i t (λ j g. b (suc j) (omega arith)) (omega arith) h))

pub drop_no : (k : ℕ) (t : Pairs) → ((j : ℕ) → j < length t → key t j ≡ k → ⊥) → drop_in k t ≡ t
drop_no k [] b = refl
drop_no k (e ∷ t) b = rw (ne_eqb e.0 k (b 0 (omega arith))) (ap (λ r. e ∷ r) (drop_no k t (λ j g. b (suc j) (omega arith))))

-- where `position` found the place, or found none
module _ (k : ℕ) (t : Pairs) where
  module _ (i : ℕ) (e : position (λ e. leb k e.0) t ≡ Some i) where
    found : (i < length t) × ((k ≤ key t i) × ((j : ℕ) → j < i → key t j < k))
    found = let f = position-Some (λ e. leb k e.0) t i (0, 0) e in (f.0, (leb-true k (key t i) f.1, λ j h. leb-false k (key t j) (f.2 j h)))

    -- y is the pair that stands there
    module _ (x : ℕ) (y : ℕ × ℕ) (here : y ≡ get_or t i y) where
      key_here : key t i ≡ y.0
      key_here = ap (λ z. z.0) (get_or_default t i (0, 0) y found.0 ∙ sym here)

      pub put_replaced : y.0 ≡ k → set t i (k, x) ≡ put_in k x t
      put_replaced h = sym (put_over k x i t found.1.1 found.0 (key_here ∙ h))

      pub put_inserted : (y.0 ≡ k → ⊥) → insert t i (k, x) ≡ put_in k x t
      put_inserted h = sym (put_new k x i t found.1.1 (omega (arith, found.0)) (λ g. above_k found.1.0 (λ z. h (sym key_here ∙ z))))
        where
          above_k : k ≤ key t i → (key t i ≡ k → ⊥) → k < key t i
          above_k a b = omega arith

  pub put_last : (x : ℕ) → position (λ e. leb k e.0) t ≡ None → insert t (length t) (k, x) ≡ put_in k x t
  put_last x e = sym (put_new k x (length t) t (λ j h. leb-false k (key t j) (none_pass (λ e. leb k e.0) t e j h)) (omega arith) (λ g. absurd (omega arith)))

  pub dropped : (i : ℕ) → position (λ e. eqb e.0 k) t ≡ Some i → remove t i ≡ drop_in k t
  dropped i e = let f = position-Some (λ e. eqb e.0 k) t i (0, 0) e in sym (drop_at_lem k i t (λ j h. eqb-false (key t j) k (f.2 j h)) f.0 (eqb-true (key t i) k f.1))

  pub dropped_none : position (λ e. eqb e.0 k) t ≡ None → t ≡ drop_in k t
  dropped_none e = sym (drop_no k t (λ j h. eqb-false (key t j) k (none_pass (λ e. eqb e.0 k) t e j h)))
