-- How many entries are of a page, as they are counted one by one.
use Rattle.std.proofs.Common.{◌≡◌, ℕ, ◌+◌, ◌<◌, ◌≤◌, cond, eqb, ◌-◌, ◌%◌, List, [], ◌∷◌, ◌++◌, length, get_or, set, take, sym, subst, ap, ◌∙◌, inl, inr, arith}
use Rattle.std.proofs.lemmas.List.{length_push, take_more, length-take, get_or-set_same, get_or-set_other}
use Rattle.std.proofs.lemmas.List.Sums.{count_by-le-length}
use Rattle.std.proofs.lemmas.Bool.{cases_eq, eq-eqb, ne_eqb}
use Rattle.memdisk.specs.declared.keeping.Entry.{Entry}
use Rattle.memdisk.specs.declared.keeping.Counts.{Counts}
use Rattle.memdisk.specs.Entries.{entries_of, page_of}
use Rattle.memdisk.specs.Counts.{Counted}
use Rattle.memdisk.proofs.Entries.{push_same, push_other, count_is}

pub count_push : (p : ℕ) (es : List Entry) (e : Entry) → length (entries_of p (es ++ (e ∷ []))) ≡ length (entries_of p es) + cond (eqb e.page p) 1 0
count_push p es e = elim (cases_eq e.page p) [
  | inl z ↦ rw (eq-eqb e.page p z) (ap length (push_same p es e z) ∙ length_push (entries_of p es) e.words)
  | inr ne ↦ rw (ne_eqb e.page p ne) (ap length (push_other p es e ne) ∙ omega arith)
]

pub count_next : (p : ℕ) (es : List Entry) (i : ℕ) → i < length es → length (entries_of p (take (i + 1) es)) ≡ length (entries_of p (take i es)) + cond (eqb (page_of es i) p) 1 0
count_next p es i h = ap (λ es. length (entries_of p es)) (take_more es i (record { page = 0; words = [] }) h) ∙ count_push p (take i es) (get_or es i (record { page = 0; words = [] }))

-- never more than there are
pub count_within : (p : ℕ) (es : List Entry) → length (entries_of p es) ≤ length es
count_within p es = omega (arith, count_is p es, count_by-le-length (λ e. eqb e.page p) es)

pub count_below : (p : ℕ) (es : List Entry) (i : ℕ) → i < length es → length (entries_of p (take i es)) ≤ i
count_below p es i h = omega (arith, count_within p (take i es), length-take i es)

-- one place more is written
pub written_next : (f : ℕ → ℕ) (xs : List ℕ) (s n k x : ℕ) → k < length xs → x ≡ f (s + k) → ((j : ℕ) → j < k → s + j < n → get_or xs j 0 ≡ f (s + j)) → (j : ℕ) → j < k + 1 → s + j < n → get_or (set xs k x) j 0 ≡ f (s + j)
written_next f xs s n k x lt is h j b l = elim (cases_eq j k) [
  | inl z ↦ ap (λ j. get_or (set xs k x) j 0) z ∙ get_or-set_same xs k x 0 lt ∙ is ∙ ap (λ j. f (s + j)) (sym z)
  | inr ne ↦ get_or-set_other xs k j x 0 ne ∙ h j (omega arith) l
]

-- what is counted before place i is what its entry is told
pub older_next : (f : ℕ → ℕ → ℕ) (xs ys : List ℕ) (s i : ℕ) → s ≤ i → i - s < length xs → ((k : ℕ) → k < 128 → get_or ys k 0 ≡ f k i) → ((k : ℕ) → k < 128 → s + k < i → get_or xs k 0 ≡ f k (s + k))
    → (k : ℕ) → k < 128 → s + k < i + 1 → get_or (set xs (i - s) (get_or ys (i - s) 0)) k 0 ≡ f k (s + k)
older_next f xs ys s i le lt here before k h l = elim (cases_eq k (i - s)) [
  | inl z ↦
      let at : i ≡ s + k = omega arith in
      ap (λ k. get_or (set xs (i - s) (get_or ys (i - s) 0)) k 0) z ∙ get_or-set_same xs (i - s) (get_or ys (i - s) 0) 0 lt ∙ ap (λ k. get_or ys k 0) (sym z) ∙ here k h ∙ ap (f k) at
  | inr ne ↦ get_or-set_other xs (i - s) k (get_or ys (i - s) 0) 0 ne ∙ before k h (omega arith)
]

pub started : (es : List Entry) (i : ℕ) (c : Counts) → i % 128 ≡ 0 → Counted es i c → Counted es (i - i % 128) c
started es i c z counted =
    let at : i ≡ i - i % 128 = omega arith in
    subst (λ s. Counted es s c) at counted

-- by the counts for the entries from the last whole number of them on
module _ (es : List Entry) (i : ℕ) (c : Counts) (counted : Counted es (i - i % 128) c) where
  pub older_at : i < length es → get_or c.older (i % 128) 0 ≡ length (entries_of (page_of es i) (take i es))
  older_at h =
      let at : (i - i % 128) + i % 128 ≡ i = omega arith in
      subst (λ j. get_or c.older (i % 128) 0 ≡ length (entries_of (page_of es j) (take j es))) at (counted.older (i % 128) (omega arith) (omega arith))

  pub all_at : i < length es → get_or c.all (i % 128) 0 ≡ length (entries_of (page_of es i) es)
  all_at h =
      let at : (i - i % 128) + i % 128 ≡ i = omega arith in
      subst (λ j. get_or c.all (i % 128) 0 ≡ length (entries_of (page_of es j) es)) at (counted.all (i % 128) (omega arith) (omega arith))

  pub still_counted : ((i + 1) % 128 ≡ 0 → ⊥) → Counted es ((i + 1) - (i + 1) % 128) c
  still_counted n =
      let at : i - i % 128 ≡ (i + 1) - (i + 1) % 128 = omega arith in
      subst (λ s. Counted es s c) at counted
