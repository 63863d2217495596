-- What a page held, by the entries; and on which of these the choice falls.
use Rattle.std.proofs.Common.{◌≡◌, ℕ, zero, suc, ◌+◌, ◌<◌, true, false, cond, eqb, ltb, ◌⊎◌, List, [], ◌∷◌, ◌++◌, length, get_or, take, count_by, sym, refl, ap, ◌∙◌, subst, inl, inr, arith}
use mathlib.Core.List.Memᴰ
use mathlib.Core.List.{Memᴰ}
use Rattle.std.proofs.lemmas.List.{length_push, get_or_append_left, get_or_push, get_or_past}
use Rattle.std.proofs.lemmas.List.Recursion.{is_count_by}
use Rattle.std.proofs.lemmas.Bool.{cases_eq, cases_order, eq-eqb, ne_eqb}
use Rattle.deals.specs.Disk.{at}
use Rattle.memdisk.specs.declared.keeping.Entry.{Entry}
use Rattle.memdisk.specs.Entries.{entries_of, kept}
use Rattle.memdisk.proofs.Places.{at_same, at_other}

pub push_same : (p : ℕ) (es : List Entry) (e : Entry) → e.page ≡ p → entries_of p (es ++ (e ∷ [])) ≡ entries_of p es ++ (e.words ∷ [])
unfolding entries_of
push_same p [] e z = rw (eq-eqb e.page p z)
push_same p (x ∷ es) e z =
    elim (eqb x.page p) as (λ b. cond b (x.words ∷ entries_of p (es ++ (e ∷ []))) (entries_of p (es ++ (e ∷ []))) ≡ cond b (x.words ∷ entries_of p es) (entries_of p es) ++ (e.words ∷ [])) [
      | true ↦ ap (λ r. x.words ∷ r) (push_same p es e z)
      | false ↦ push_same p es e z
    ]

pub push_other : (p : ℕ) (es : List Entry) (e : Entry) → (e.page ≡ p → ⊥) → entries_of p (es ++ (e ∷ [])) ≡ entries_of p es
unfolding entries_of
push_other p [] e ne = rw (ne_eqb e.page p ne)
push_other p (x ∷ es) e ne = ap (λ r. cond (eqb x.page p) (x.words ∷ r) r) (push_other p es e ne)

-- how many entries are of a page
pub count_is : (p : ℕ) (es : List Entry) → length (entries_of p es) ≡ count_by (λ e. eqb e.page p) es
unfolding entries_of
count_is p = is_count_by (λ es. length (entries_of p es)) (λ e. eqb e.page p) refl (λ e es. elim (eqb e.page p) as (λ b. length (cond b (e.words ∷ entries_of p es) (entries_of p es)) ≡ cond b (1 + length (entries_of p es)) (length (entries_of p es))) [
  | true ↦ omega arith
  | false ↦ refl
])

-- WHAT MAY BE LEFT of a page after one entry more: an older one, or this
mem_push : (q : ℕ) (es : List Entry) (e : Entry) (x : List ℕ) → Memᴰ x (entries_of q (es ++ (e ∷ []))) → Memᴰ x (entries_of q es) ⊎ ((e.page ≡ q) × (x ≡ e.words))
mem_push q es e x m = elim (cases_eq e.page q) [
  | inl z ↦ elim (Memᴰ.append_cases (entries_of q es) (subst (Memᴰ x) (push_same q es e z) m)) [
    | inl o ↦ inl o
    | inr l ↦ elim (Memᴰ.cases_cons l) [ inl w ↦ inr (z, w) | inr n ↦ absurd (Memᴰ.not-nil n) ]
  ]
  | inr ne ↦ inl (subst (Memᴰ x) (push_other q es e ne) m)
]

mem_first : (q r : ℕ) (e : Entry) (x : List ℕ) → Memᴰ x (entries_of q (take r (e ∷ []))) → (e.page ≡ q) × (x ≡ e.words)
unfolding entries_of
mem_first q zero e x m = absurd (Memᴰ.not-nil m)
mem_first q (suc zero) e x m = elim (mem_push q [] e x m) [ inl n ↦ absurd (Memᴰ.not-nil n) | inr w ↦ w ]
mem_first q (suc (suc r)) e x m = elim (mem_push q [] e x m) [ inl n ↦ absurd (Memᴰ.not-nil n) | inr w ↦ w ]

pub mem_kept : (q r : ℕ) (e : Entry) (es : List Entry) (x : List ℕ) → Memᴰ x (entries_of q (kept r e es)) → Memᴰ x (entries_of q es) ⊎ ((e.page ≡ q) × (x ≡ e.words))
unfolding kept
mem_kept q r e es x =
    elim (ltb (length es) r) as (λ b. Memᴰ x (entries_of q (cond b (es ++ (e ∷ [])) (take r (e ∷ [])))) → Memᴰ x (entries_of q es) ⊎ ((e.page ≡ q) × (x ≡ e.words))) [
      | true ↦ mem_push q es e x
      | false ↦ λ m. inr (mem_first q r e x m)
    ]

-- THE CHOICE. One of the list, or its head where it has no such place.
pub get_d_mem : (x : List ℕ) (xs : List (List ℕ)) (k : ℕ) → Memᴰ (get_or (x ∷ xs) k x) (x ∷ xs)
get_d_mem x xs zero = Memᴰ.head refl
get_d_mem x xs (suc k) = under x xs k
  where
    under : (x : List ℕ) (xs : List (List ℕ)) (k : ℕ) → Memᴰ (get_or xs k x) (x ∷ xs)
    under x [] k = Memᴰ.head refl
    under x (y ∷ ys) zero = Memᴰ.tail (Memᴰ.head refl)
    under x (y ∷ ys) (suc k) = elim (Memᴰ.cases_cons (under x ys k)) [ inl e ↦ Memᴰ.head e | inr m ↦ Memᴰ.tail (Memᴰ.tail m) ]

pub get_d_alone : (x : List ℕ) (k : ℕ) → get_or (x ∷ []) k x ≡ x
get_d_alone x zero = refl
get_d_alone x (suc k) = refl

get_d_last : (x w : List ℕ) (xs : List (List ℕ)) (k : ℕ) → k ≡ suc (length xs) → get_or (x ∷ (xs ++ (w ∷ []))) k x ≡ w
get_d_last x w xs k e = ap (λ k. get_or (x ∷ (xs ++ (w ∷ []))) k x) e ∙ get_or_push xs w x (length xs) refl

get_d_older : (x w : List ℕ) (xs : List (List ℕ)) (k : ℕ) → (suc (length xs) ≡ k → ⊥) → get_or (x ∷ (xs ++ (w ∷ []))) k x ≡ get_or (x ∷ xs) k x
get_d_older x w xs zero ne = refl
get_d_older x w xs (suc k) ne = elim (cases_order k (length xs)) [
  | inl z ↦ absurd (ne (omega arith))
  | inr o ↦ elim o [
    | inl b ↦ get_or_append_left xs (w ∷ []) x k b
    | inr a ↦ get_or_past (xs ++ (w ∷ [])) k x (omega (arith, length_push xs w)) ∙ sym (get_or_past xs k x (omega arith))
  ]
]

-- one more entry: f has the pages as the cut found them, g as the older entries leave them, h as this one does
module _ (f g h : ℕ → List ℕ) (pages : ℕ) (pick : ℕ → ℕ) (es : List Entry) (e : Entry) where
  abbrev left : List Entry → ℕ → List ℕ
  left es q = get_or (f q ∷ entries_of q es) (pick q) (f q)

  ours : (q : ℕ) → q ≡ e.page → left (es ++ (e ∷ [])) q ≡ get_or (f q ∷ (entries_of q es ++ (e.words ∷ []))) (pick q) (f q)
  ours q z = ap (λ xs. get_or (f q ∷ xs) (pick q) (f q)) (push_same q es e (sym z))

  others : (q : ℕ) → (q ≡ e.page → ⊥) → left (es ++ (e ∷ [])) q ≡ left es q
  others q ne = ap (λ xs. get_or (f q ∷ xs) (pick q) (f q)) (push_other q es e (λ z. ne (sym z)))

  pub choice_won : suc (length (entries_of e.page es)) ≡ pick e.page → h ≡ at e.page e.words g → ((q : ℕ) → q < pages → g q ≡ left es q) → (q : ℕ) → q < pages → h q ≡ left (es ++ (e ∷ [])) q
  choice_won w s inv q l = elim (cases_eq q e.page) [
    | inl z ↦ ap (λ f. f q) s ∙ at_same e.page q e.words g z ∙ sym (ours q z ∙ get_d_last (f q) e.words (entries_of q es) (pick q) (subst (λ q. pick q ≡ suc (length (entries_of q es))) (sym z) (sym w)))
    | inr ne ↦ ap (λ f. f q) s ∙ at_other e.page q e.words g ne ∙ inv q l ∙ sym (others q ne)
  ]

  pub choice_lost : (e.page < pages → suc (length (entries_of e.page es)) ≡ pick e.page → ⊥) → h ≡ g → ((q : ℕ) → q < pages → g q ≡ left es q) → (q : ℕ) → q < pages → h q ≡ left (es ++ (e ∷ [])) q
  choice_lost n s inv q l = ap (λ f. f q) s ∙ inv q l ∙ sym (elim (cases_eq q e.page) [
    | inl z ↦ ours q z ∙ get_d_older (f q) e.words (entries_of q es) (pick q) (λ w. n (subst (λ p. p < pages) z l) (subst (λ q. suc (length (entries_of q es)) ≡ pick q) z w))
    | inr ne ↦ others q ne
  ])
