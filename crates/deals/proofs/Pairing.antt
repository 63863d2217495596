-- The book and its pairs go the same way.
use Rattle.std.proofs.Common.{◌≡◌, ℕ, suc, ◌<◌, eqb, ltb, List, [], ◌∷◌, None, sym, refl, ap, ◌∙◌, subst, inl, inr, arith}
use Rattle.std.proofs.lemmas.Bool.{cases_Bool, ltb-true, ltb-false, ne_eqb, lt-ltb, le-ltb}
use Rattle.node.specs.Pairs as P
use Rattle.deals.specs.Deals.{below, from, keyless, word_of, pair_of}
use Rattle.deals.specs.Books.{Up, find, two, drop_in}
use Rattle.deals.specs.Writes.{Write, Puts, Drops, apply, onto}
use Rattle.deals.proofs.Writes.{up_onto}
use Rattle.deals.specs.Paired.{book_of, as_word, written, PutIs, DropIs, FindIs, NextIs, OntoIs}

-- keys that rise as pairs rise in the book
pub rising_up : (lo hi : ℕ) (t : List (ℕ × ℕ)) → P.Up lo hi t → Up lo (book_of t)
unfolding book_of
rising_up lo hi [] u = tt
rising_up lo hi (e ∷ es) u = (u.0, rising_up (suc e.0) hi es u.1)

pub put_is : PutIs
unfolding book_of below from keyless
put_is k x [] = refl
put_is k x (e ∷ es) =
    elim (cases_Bool (ltb e.0 k)) [
      | inl h ↦ rw h (ap (λ b. two e.0 e.1 ∷ b) (put_is k x es))
      | inr h ↦ elim (cases_Bool (eqb e.0 k)) [ inl g ↦ rw (h, g) | inr g ↦ rw (h, g) ]
    ]

-- a key below all isn't there
drop_absent : (k n : ℕ) (t : List (ℕ × ℕ)) → Up n (book_of t) → k < n → P.drop_in k t ≡ t
unfolding book_of
drop_absent k n [] u h = refl
drop_absent k n (e ∷ es) u h = rw (ne_eqb e.0 k (λ q. omega (arith, u.0))) (ap (λ x. e ∷ x) (drop_absent k (suc e.0) es u.1 (omega (arith, u.0))))

find_absent : (k n : ℕ) (t : List (ℕ × ℕ)) → Up n (book_of t) → k < n → P.find k t ≡ None
unfolding book_of
find_absent k n [] u h = refl
find_absent k n (e ∷ es) u h = rw (ne_eqb e.0 k (λ q. omega (arith, u.0))) (find_absent k (suc e.0) es u.1 (omega (arith, u.0)))

drop_from : (n k : ℕ) (t : List (ℕ × ℕ)) → Up n (book_of t) → drop_in k (book_of t) ≡ book_of (P.drop_in k t)
unfolding book_of below from keyless
drop_from n k [] u = refl
drop_from n k (e ∷ es) u =
    elim (cases_Bool (ltb e.0 k)) [
      | inl h ↦ rw (h, ne_eqb e.0 k (λ q. omega (arith, ltb-true e.0 k h))) (ap (λ b. two e.0 e.1 ∷ b) (drop_from (suc e.0) k es u.1))
      | inr h ↦ elim (cases_Bool (eqb e.0 k)) [
        | inl g ↦ rw (h, g)
        | inr g ↦ rw (h, g) (ap (λ x. two e.0 e.1 ∷ book_of x) (sym (drop_absent k (suc e.0) es u.1 (omega (arith, ltb-false e.0 k h)))))
      ]
    ]

pub drop_is : DropIs
drop_is k t u = drop_from 0 k t u

find_from : (n k : ℕ) (t : List (ℕ × ℕ)) → Up n (book_of t) → find k (book_of t) ≡ as_word (P.find k t)
unfolding book_of from word_of
find_from n k [] u = refl
find_from n k (e ∷ es) u =
    elim (cases_Bool (ltb e.0 k)) [
      | inl h ↦ rw (h, ne_eqb e.0 k (λ q. omega (arith, ltb-true e.0 k h))) (find_from (suc e.0) k es u.1)
      | inr h ↦ elim (cases_Bool (eqb e.0 k)) [
        | inl g ↦ rw (h, g)
        | inr g ↦ rw (h, g) (ap as_word (sym (find_absent k (suc e.0) es u.1 (omega (arith, ltb-false e.0 k h)))))
      ]
    ]

pub find_is : FindIs
find_is k t u = find_from 0 k t u

pub next_is : NextIs
unfolding book_of from pair_of
next_is k [] = refl
next_is k (e ∷ es) =
    elim (cases_Bool (ltb k e.0)) [
      | inl h ↦ rw (h, le-ltb e.0 (suc k) (omega (arith, ltb-true k e.0 h)))
      | inr h ↦ rw (h, lt-ltb e.0 (suc k) (omega (arith, ltb-false k e.0 h))) (next_is k es)
    ]

apply_is : (w : Write) (t : List (ℕ × ℕ)) → Up 0 (book_of t) → apply w (book_of t) ≡ book_of (written w t)
apply_is (Puts k x) t u = put_is k x t
apply_is (Drops k) t u = drop_is k t u

pub onto_is : OntoIs
onto_is t [] u = refl
onto_is t (w ∷ ws) u =
    ap (λ b. onto b ws) (apply_is w t u) ∙ onto_is (written w t) ws (subst (Up 0) (apply_is w t u) (up_onto (book_of t) (w ∷ []) u))
