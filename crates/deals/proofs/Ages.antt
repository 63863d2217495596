-- The order of those under way: where the earliest who counts is served each turn, nobody counts more than 32 turns.
use Rattle.std.proofs.Common.{◌≡◌, ℕ, zero, suc, ◌+◌, ◌-◌, ◌<◌, ◌≤◌, Bool, true, false, T, ◌⊎◌, List, [], ◌∷◌, ◌++◌, length, get_or, sym, refl, ap, ◌∙◌, ap₂, inl, inr, arith}
use Rattle.std.specs.List.{remove}
use Rattle.std.proofs.lemmas.List.{length_push, get_or_push, get_or_append_left}
use Rattle.std.proofs.lemmas.List.Edits.{length-remove, get_or-remove_below, get_or-remove_above}
use Rattle.std.proofs.lemmas.Bool.{cases_lt, cases_eq, eq-eqb, ne_eqb, both_ways}
use Rattle.deals.specs.declared.Op.{Op}
use Rattle.deals.specs.declared.Answer.{Answer}
use Rattle.deals.specs.Deals.{Book, Said, State, Now, Quiet, Under, Over, set_clerk, aged, older, counts}
use Rattle.deals.specs.Tables.{is_under}
use Rattle.deals.specs.LineUps.{age_of, one_if, count_to, LineUp}
use Rattle.deals.proofs.Waits.{counts_aged, counts_told, counts_asked}

one_most : (b : Bool) → one_if b ≤ 1
one_most b = grind arith

count_same : (n : ℕ) (f g : ℕ → Bool) → ((c : ℕ) → c < n → f c ≡ g c) → count_to n f ≡ count_to n g
unfolding count_to
count_same zero f g h = refl
count_same (suc n) f g h = ap₂ (λ x y. x + one_if y) (count_same n f g (λ c l. h c (omega arith))) (h n (omega arith))

count_set : (n : ℕ) (f g : ℕ → Bool) (c : ℕ) → c < n → f c ≡ false → g c ≡ true → ((e : ℕ) → (e ≡ c → ⊥) → f e ≡ g e) → count_to n g ≡ count_to n f + 1
unfolding count_to
count_set zero f g c l p q h = absurd (omega arith)
count_set (suc n) f g c l p q h = grind (arith, cases_eq c n, count_same n f g, count_set n f g c, h)

count_most : (n : ℕ) (f : ℕ → Bool) → count_to n f ≤ n
unfolding count_to
count_most zero f = omega arith
count_most (suc n) f = omega (arith, count_most n f, one_most (f n))

count_short : (n : ℕ) (f : ℕ → Bool) (c : ℕ) → c < n → f c ≡ false → count_to n f < n
unfolding count_to
count_short zero f c l p = absurd (omega arith)
count_short (suc n) f c l p = grind (arith, cases_eq c n, count_most n f, one_most, count_short n f c)

under_quiet : (n : Now) → n ≡ Quiet → is_under n ≡ false
unfolding is_under
under_quiet n e = ap is_under e

-- one is set anew
pub set_same : (s : State) (b : Book) (c e : ℕ) (d : List Said) (n : Now) → e ≡ c → ((set_clerk c d n (record { book = b; clerk = s.clerk })).clerk e).now' ≡ n
set_same s b c e d n i = rw (eq-eqb e c i)

pub set_other : (s : State) (b : Book) (c e : ℕ) (d : List Said) (n : Now) → (e ≡ c → ⊥) → ((set_clerk c d n (record { book = b; clerk = s.clerk })).clerk e).now' ≡ (s.clerk e).now'
set_other s b c e d n h = rw (ne_eqb e c h)

one_grows : (x y : Bool) → (T x → T y) → one_if x ≤ one_if y
one_grows x y h = grind arith

-- ONE ASKS
module _ (can : Op → Bool) (s : State) (q : List ℕ) (c : ℕ) (o : Op) (i : LineUp can true s q) (l : c < 32) (z : (s.clerk c).now' ≡ Quiet) where
  s' : State
  s' = set_clerk c (s.clerk c).deal (Under o 0) s

  was : is_under (s.clerk c).now' ≡ false
  was = under_quiet (s.clerk c).now' z

  -- there is room for one more
  pub line_room : length q < 32
  line_room = omega (arith, i.size, count_short 32 (λ (e : ℕ). is_under (s.clerk e).now') c l was)

  not_c : (k : ℕ) → k < length q → get_or q k 0 ≡ c → ⊥
  not_c k h e = both_ways (is_under (s.clerk c).now') was (sym (ap (λ x. is_under (s.clerk x).now') e) ∙ i.under k h)

  new : (s'.clerk c).now' ≡ Under o 0
  unfolding s'
  new = set_same s s.book c c (s.clerk c).deal (Under o 0) refl

  old : (e : ℕ) → (e ≡ c → ⊥) → (s'.clerk e).now' ≡ (s.clerk e).now'
  unfolding s'
  old e h = set_other s s.book c e (s.clerk c).deal (Under o 0) h

  low : (k : ℕ) → k < length q → get_or (q ++ c ∷ []) k 0 ≡ get_or q k 0
  low k h = get_or_append_left q (c ∷ []) 0 k h

  last : (k : ℕ) → k < length (q ++ c ∷ []) → length q ≤ k → get_or (q ++ c ∷ []) k 0 ≡ c
  last k h g = get_or_push q c 0 k (omega (arith, length_push q c))

  at_last : (k : ℕ) → k < length (q ++ c ∷ []) → length q ≤ k → k ≡ length q
  at_last k h g = omega (arith, length_push q c)

  few_asked : (k : ℕ) → k < length (q ++ c ∷ []) → get_or (q ++ c ∷ []) k 0 < 32
  few_asked k h = grind (arith, cases_lt k (length q), low, last, i.few)

  under_asked : (k : ℕ) → k < length (q ++ c ∷ []) → is_under (s'.clerk (get_or (q ++ c ∷ []) k 0)).now' ≡ true
  unfolding is_under
  under_asked k h = grind (arith, cases_lt k (length q), low, last, old, not_c, new, i.under)

  once_asked : (k j : ℕ) → k < length (q ++ c ∷ []) → j < length (q ++ c ∷ []) → get_or (q ++ c ∷ []) k 0 ≡ get_or (q ++ c ∷ []) j 0 → k ≡ j
  once_asked k j h g e = grind (arith, cases_lt k (length q), cases_lt j (length q), low k, low j, last k h, last j g, not_c k, not_c j, at_last k h, at_last j g, i.once k j)

  all_asked : (e : ℕ) → e < 32 → is_under (s'.clerk e).now' ≡ true → (k : ℕ) × (k < length (q ++ c ∷ [])) × (get_or (q ++ c ∷ []) k 0 ≡ e)
  all_asked e h u =
      elim (cases_eq e c) [
        | inl x ↦ (length q, omega (arith, length_push q c), get_or_push q c 0 (length q) refl ∙ sym x)
        | inr d ↦
            let r = i.all e h (sym (ap is_under (old e d)) ∙ u) in
            (r.0, omega (arith, length_push q c, r.1), low r.0 r.1 ∙ r.2)
      ]

  age_asked : (k : ℕ) → k < length (q ++ c ∷ []) → age_of (s'.clerk (get_or (q ++ c ∷ []) k 0)).now' + k ≤ 31 + one_if (counts can s' (get_or (q ++ c ∷ []) k 0))
  unfolding age_of s'
  age_asked k h =
      elim (cases_lt k (length q)) [
        | inl g ↦
            let e : age_of (s'.clerk (get_or (q ++ c ∷ []) k 0)).now' ≡ age_of (s.clerk (get_or q k 0)).now' = ap (λ x. age_of (s'.clerk x).now') (low k g) ∙ ap age_of (old (get_or q k 0) (not_c k g)) in
            let m : one_if (counts can s (get_or q k 0)) ≤ one_if (counts can s' (get_or q k 0)) = one_grows (counts can s (get_or q k 0)) (counts can s' (get_or q k 0)) (counts_asked can s c (Under o 0) (get_or q k 0) z (not_c k g)) in
            omega (arith, i.age k g, e, m, ap (λ x. one_if (counts can s' x)) (low k g))
        | inr g ↦
            let e : age_of (s'.clerk (get_or (q ++ c ∷ []) k 0)).now' ≡ 0 = ap (λ x. age_of (s'.clerk x).now') (last k h g) ∙ ap age_of new in
            omega (arith, e, at_last k h g, line_room)
      ]

  pub line_asks : LineUp can true (set_clerk c (s.clerk c).deal (Under o 0) s) (q ++ c ∷ [])
  unfolding s' is_under
  line_asks =
      record {
        size = length_push q c ∙ ap (λ x. x + 1) i.size ∙ sym (count_set 32 (λ (e : ℕ). is_under (s.clerk e).now') (λ (e : ℕ). is_under (s'.clerk e).now') c l was (ap is_under new) (λ e h. sym (ap is_under (old e h))));
        few = few_asked;
        under = under_asked;
        once = once_asked;
        all = all_asked;
        age = age_asked;
      }

-- where one stood before another was taken out
record From (q : List ℕ) (j k : ℕ) : Type 0 where
  at : ℕ
  here : at < length q
  same : get_or (remove q j) k 0 ≡ get_or q at 0
  less : ((at ≡ k) × (k < j)) ⊎ ((at ≡ k + 1) × (j ≤ k))

from_at : (q : List ℕ) (j k : ℕ) → j < length q → k < length (remove q j) → From q j k
from_at q j k l h =
    elim (cases_lt k j) [
      | inl g ↦ record { at = k; here = omega arith; same = get_or-remove_below q j 0 k g l; less = inl (refl, g) }
      | inr g ↦ record { at = k + 1; here = omega (arith, length-remove q j l); same = get_or-remove_above q j 0 k g l; less = inr (refl, g) }
    ]

to_at : (q : List ℕ) (j m : ℕ) → j < length q → m < length q → (m ≡ j → ⊥) → (k : ℕ) × (k < length (remove q j)) × (get_or (remove q j) k 0 ≡ get_or q m 0)
to_at q j m l h d =
    elim (cases_lt m j) [
      | inl g ↦ (m, omega (arith, length-remove q j l), get_or-remove_below q j 0 m g l)
      | inr g ↦
          let e : m - 1 + 1 ≡ m = omega (arith, d) in
          let f : j ≤ m - 1 = elim (cases_eq m j) [ inl x ↦ absurd (d x) | inr x ↦ omega arith ] in
          (m - 1, omega (arith, length-remove q j l), get_or-remove_above q j 0 (m - 1) f l ∙ ap (λ x. get_or q x 0) e)
    ]

from_not : (q : List ℕ) (j k : ℕ) (f : From q j k) → f.at ≡ j → ⊥
from_not q j k f e = grind (arith, f.less)

from_one : (q : List ℕ) (j k m : ℕ) (f : From q j k) (g : From q j m) → f.at ≡ g.at → k ≡ m
from_one q j k m f g e = grind (arith, f.less, g.less)

-- ONE IS SERVED, the first who counts; its deal may be any now, and the book
module _ (can : Op → Bool) (s : State) (q : List ℕ) (j : ℕ) (b : Book) (d : List Said) (o : Op) (a : Answer) (g : ℕ) (i : LineUp can true s q) (l : j < length q)
    (before : (k : ℕ) → k < j → counts can s (get_or q k 0) ≡ false) where
  r : State
  r = set_clerk (get_or q j 0) d (Over o a g) (record { book = b; clerk = s.clerk })

  gone : is_under (r.clerk (get_or q j 0)).now' ≡ false
  unfolding r is_under
  gone = ap is_under (set_same s b (get_or q j 0) (get_or q j 0) d (Over o a g) refl)

  rest : (e : ℕ) → (e ≡ get_or q j 0 → ⊥) → (r.clerk e).now' ≡ (s.clerk e).now'
  unfolding r
  rest e h = set_other s b (get_or q j 0) e d (Over o a g) h

  others : (k : ℕ) (f : From q j k) → (r.clerk (get_or (remove q j) k 0)).now' ≡ (s.clerk (get_or q f.at 0)).now'
  others k f = ap (λ x. (r.clerk x).now') f.same ∙ rest (get_or q f.at 0) (λ e. from_not q j k f (i.once f.at j f.here l e))

  age_served : (k : ℕ) → k < length (remove q j) → age_of (r.clerk (get_or (remove q j) k 0)).now' + k ≤ 31 + 0
  age_served k h =
      let f = from_at q j k l h in
      let e : age_of (r.clerk (get_or (remove q j) k 0)).now' ≡ age_of (s.clerk (get_or q f.at 0)).now' = ap age_of (others k f) in
      elim f.less [
        | inl x ↦ omega (arith, e, i.age f.at f.here, ap one_if (ap (λ m. counts can s (get_or q m 0)) x.0 ∙ before k x.1), x.0)
        | inr x ↦ omega (arith, e, i.age f.at f.here, one_most (counts can s (get_or q f.at 0)), x.0)
      ]

  all_served : (e : ℕ) → e < 32 → is_under (r.clerk e).now' ≡ true → (k : ℕ) × (k < length (remove q j)) × (get_or (remove q j) k 0 ≡ e)
  all_served e h u =
      let ne : e ≡ get_or q j 0 → ⊥ = λ x. both_ways (is_under (r.clerk e).now') (ap (λ y. is_under (r.clerk y).now') x ∙ gone) u in
      let w = i.all e h (sym (ap is_under (rest e ne)) ∙ u) in
      let t = to_at q j w.0 l w.1 (λ x. ne (sym w.2 ∙ ap (λ y. get_or q y 0) x)) in
      (t.0, t.1, t.2 ∙ w.2)

  pub line_served : LineUp can false (set_clerk (get_or q j 0) d (Over o a g) (record { book = b; clerk = s.clerk })) (remove q j)
  unfolding r
  line_served =
      record {
        size = omega (arith, length-remove q j l, i.size, count_set 32 (λ (e : ℕ). is_under (r.clerk e).now') (λ (e : ℕ). is_under (s.clerk e).now') (get_or q j 0) (i.few j l) gone (i.under j l) (λ e h. ap is_under (rest e h)));
        few = λ k h. let f = from_at q j k l h in rw f.same (i.few f.at f.here);
        under = λ k h. let f = from_at q j k l h in ap is_under (others k f) ∙ i.under f.at f.here;
        once = λ k m h u e. let f = from_at q j k l h in let v = from_at q j m l u in from_one q j k m f v (i.once f.at v.at f.here v.here (sym f.same ∙ e ∙ v.same));
        all = all_served;
        age = age_served;
      }

-- nobody counts, nobody is served
pub line_none : (can : Op → Bool) (s : State) (q : List ℕ) → LineUp can true s q → ((k : ℕ) → k < length q → counts can s (get_or q k 0) ≡ false) → LineUp can false s q
line_none can s q i h = record { size = i.size; few = i.few; under = i.under; once = i.once; all = i.all; age = λ k g. omega (arith, i.age k g, ap one_if (h k g)) }

-- A TURN HAS GONE
pub under_older : (b : Bool) (n : Now) → is_under (older b n) ≡ is_under n
unfolding is_under older
under_older b n = grind arith

age_older : (b : Bool) (n : Now) → is_under n ≡ true → age_of (older b n) ≡ age_of n + one_if b
unfolding is_under older age_of
age_older b n u = grind arith

pub line_turns : (can : Op → Bool) (s : State) (q : List ℕ) → LineUp can false s q → LineUp can true (aged can s) q
line_turns can s q i = grind (arith, count_same, under_older, age_older, counts_aged)

-- ONE IS TOLD
pub line_tells : (can : Op → Bool) (s : State) (q : List ℕ) (c : ℕ) (o : Op) (a : Answer) (g : ℕ) → (s.clerk c).now' ≡ Over o a g → LineUp can true s q → LineUp can true (set_clerk c (s.clerk c).deal Quiet s) q
unfolding is_under
line_tells can s q c o a g z i =
    record {
      size = i.size ∙ count_same 32 (λ (e : ℕ). is_under (s.clerk e).now') (λ (e : ℕ). is_under ((set_clerk c (s.clerk c).deal Quiet s).clerk e).now') (λ e l. sym (same e));
      few = i.few;
      under = λ k h. same (get_or q k 0) ∙ i.under k h;
      once = i.once;
      all = λ e l u. i.all e l (sym (same e) ∙ u);
      age = λ k h. omega (arith, i.age k h, ap age_of (set_other s s.book c (get_or q k 0) (s.clerk c).deal Quiet (other k h)), ap one_if (counts_told can s c o a g (get_or q k 0) z));
    }
  where
    same : (e : ℕ) → is_under ((set_clerk c (s.clerk c).deal Quiet s).clerk e).now' ≡ is_under (s.clerk e).now'
    same e =
        elim (cases_eq e c) [
          | inl x ↦ ap is_under (set_same s s.book c e (s.clerk c).deal Quiet x) ∙ sym (ap is_under (ap (λ y. (s.clerk y).now') x ∙ z))
          | inr h ↦ ap is_under (set_other s s.book c e (s.clerk c).deal Quiet h)
        ]

    other : (k : ℕ) → k < length q → get_or q k 0 ≡ c → ⊥
    other k h e = both_ways (is_under (s.clerk c).now') (ap is_under z) (sym (ap (λ x. is_under (s.clerk x).now') e) ∙ i.under k h)

-- NOBODY IS OLD
pub line_young : (can : Op → Bool) (more : Bool) (s : State) (q : List ℕ) (c : ℕ) (o : Op) (g : ℕ) → LineUp can more s q → c < 32 → (s.clerk c).now' ≡ Under o g → g ≤ 32
unfolding is_under age_of
line_young can more s q c o g i l z = grind (arith, one_most)

-- at first, and after a cut
none_under : (n : ℕ) (f : ℕ → Bool) → ((c : ℕ) → f c ≡ false) → count_to n f ≡ 0
unfolding count_to
none_under zero f h = refl
none_under (suc n) f h = omega (arith, none_under n f h, ap one_if (h n))

pub line_quiet : (can : Op → Bool) (s : State) → ((c : ℕ) → (s.clerk c).now' ≡ Quiet) → LineUp can true s []
line_quiet can s h = grind (arith, none_under, under_quiet, both_ways)
