-- Where a page stands, and what a frame holds.
use Rattle.std.proofs.Common.{◌≡◌, ℕ, zero, suc, ◌-◌, ◌*◌, ◌<◌, ◌≤◌, ◌≢◌, ◌⊎◌, List, [], ◌∷◌, length, get_or, take, drop, Some, None, Option, sym, refl, ap, ◌∙◌, subst, inl, inr, ⊎_elim, arith}
use Rattle.std.proofs.lemmas.List.{take_all}
use Rattle.std.proofs.lemmas.Bool.{cases_lt, cases_eq, eq-eqb, ne_eqb}
use Rattle.std.specs.Option.{option_map}
use Rattle.frames.specs.Layout.{Cache, Sized, cache_of, frame_in, placed}
use Rattle.frames.specs.Frames.{place_in, slot_among}
use Rattle.pages.proofs.Mid.{part_below, part_above, part_in}
use Rattle.frames.proofs.Words.{cut_long}

pub cases_slot : (o : Option ℕ) → (o ≡ None) ⊎ ((i : ℕ) × (o ≡ Some i))
cases_slot None = inl refl
cases_slot (Some i) = inr (i, refl)

-- the rows have their lengths
pub record Rows (c : Cache) : Type 0 where
  pub frames : length c.frames ≡ 61440
  pub pages : length c.pages ≡ 120
  pub marks : length c.marks ≡ 120
  pub pins : length c.pins ≡ 120
  pub entries : length c.entries ≡ 64

pub rows : (part : List ℕ) → Sized part → Rows (cache_of part)
unfolding cache_of
rows part s = record {
  frames = cut_long part 0 61440 (omega arith);
  pages = cut_long part 61440 120 (omega arith);
  marks = cut_long part 61560 120 (omega arith);
  pins = cut_long part 61680 120 (omega arith);
  entries = cut_long part 61800 64 (omega arith);
}

module _ (fs : List ℕ) (i : ℕ) (w : List ℕ) (long : length fs ≡ 61440) (low : i < 120) (page : length w ≡ 512) where
  pub frame_same : frame_in (placed fs i w) i ≡ w
  unfolding frame_in placed
  frame_same =
      let a = 512 * i in
      part_in a 512 fs w (omega arith) page a 512 (omega arith) (omega arith)
      ∙ ap (λ n. take 512 (drop n w)) (let e : a - a ≡ 0 = omega arith in e)
      ∙ take_all 512 w (omega arith)

  pub frame_other : (j : ℕ) → j ≢ i → frame_in (placed fs i w) j ≡ frame_in fs j
  unfolding frame_in placed
  frame_other j ne = ⊎_elim
      (λ (b : j < i). part_below (512 * i) 512 fs w (omega arith) page (512 * j) 512 (omega arith))
      (λ (b : i ≤ j). part_above (512 * i) 512 fs w (omega arith) page (512 * j) 512 (omega arith))
      (cases_lt j i)

-- the place of p in a row, one step in
module _ (x p : ℕ) (xs : List ℕ) where
  place_here : x ≡ p → place_in (x ∷ xs) p ≡ Some 0
  unfolding place_in
  place_here e = rw (eq-eqb x p e)

  place_later : x ≢ p → place_in (x ∷ xs) p ≡ option_map suc (place_in xs p)
  unfolding place_in
  place_later ne = rw (ne_eqb x p ne)

pub place_first : (xs : List ℕ) (p i : ℕ) → i < length xs → get_or xs i 0 ≡ p → ((k : ℕ) → k < i → get_or xs k 0 ≢ p) → place_in xs p ≡ Some i
place_first [] p i h e f = absurd (omega arith)
place_first (x ∷ xs) p zero h e f = place_here x p xs e
place_first (x ∷ xs) p (suc i) h e f =
    place_later x p xs (f 0 (omega arith))
    ∙ ap (option_map suc) (place_first xs p i (omega arith) e (λ k l. f (suc k) (omega arith)))

pub place_absent : (xs : List ℕ) (p : ℕ) → ((k : ℕ) → k < length xs → get_or xs k 0 ≢ p) → place_in xs p ≡ None
unfolding place_in
place_absent [] p f = refl
place_absent (x ∷ xs) p f =
    place_later x p xs (f 0 (omega arith))
    ∙ ap (option_map suc) (place_absent xs p (λ k l. f (suc k) (omega arith)))

pub place_some : (xs : List ℕ) (p i : ℕ) → place_in xs p ≡ Some i → (i < length xs) × (get_or xs i 0 ≡ p)
unfolding place_in
place_some [] p i e = absurd (let z : ◌≡◌ {A = ℕ} 0 1 = cc in omega arith)
place_some (x ∷ xs) p i e = ⊎_elim
    (λ (here : x ≡ p).
    let z : i ≡ 0 = let f = place_here x p xs here in cc in
    subst (λ k. (k < length (x ∷ xs)) × (get_or (x ∷ xs) k 0 ≡ p)) (sym z) (omega arith, here))
    (λ (ne : x ≢ p). ⊎_elim
    (λ (n : place_in xs p ≡ None).
    absurd (let f = place_later x p xs ne in let g = ap (option_map suc) n in let z : ◌≡◌ {A = ℕ} 0 1 = cc in omega arith))
    (λ (s : (j : ℕ) × (place_in xs p ≡ Some j)).
    let f = place_later x p xs ne in
    let g = ap (option_map suc) s.1 in
    let z : i ≡ suc s.0 = cc in
    let r = place_some xs p s.0 s.1 in
    subst (λ k. (k < length (x ∷ xs)) × (get_or (x ∷ xs) k 0 ≡ p)) (sym z) (omega (arith, r.0), r.1))
    (cases_slot (place_in xs p)))
    (cases_eq x p)

rest_none : (x p : ℕ) (xs : List ℕ) → place_in (x ∷ xs) p ≡ None → place_in xs p ≡ None
rest_none x p xs n = ⊎_elim
    (λ (here : x ≡ p). absurd (let f = place_here x p xs here in let z : ◌≡◌ {A = ℕ} 0 1 = cc in omega arith))
    (λ (ne : x ≢ p). ⊎_elim
    (λ (m : place_in xs p ≡ None). m)
    (λ (s : (j : ℕ) × (place_in xs p ≡ Some j)).
    absurd (let f = place_later x p xs ne in let g = ap (option_map suc) s.1 in let z : ◌≡◌ {A = ℕ} 0 1 = cc in omega arith))
    (cases_slot (place_in xs p)))
    (cases_eq x p)

place_none : (xs : List ℕ) (p : ℕ) → place_in xs p ≡ None → (i : ℕ) → i < length xs → get_or xs i 0 ≢ p
place_none [] p n i l = absurd (omega arith)
place_none (x ∷ xs) p n zero l = λ e. let f = place_here x p xs e in let z : ◌≡◌ {A = ℕ} 0 1 = cc in omega arith
place_none (x ∷ xs) p n (suc i) l = place_none xs p (rest_none x p xs n) i (omega arith)

-- the frame of page p
module _ (ps : List ℕ) (p : ℕ) where
  pub in_use : 0 < p → slot_among ps p ≡ place_in ps p
  unfolding slot_among
  in_use h = rw (ne_eqb p 0 (omega arith))

  pub slot_zero : p ≡ 0 → slot_among ps p ≡ None
  unfolding slot_among
  slot_zero e = rw (eq-eqb p 0 e)

  pub slot_first : 0 < p → (i : ℕ) → i < length ps → get_or ps i 0 ≡ p → ((k : ℕ) → k < i → get_or ps k 0 ≢ p) → slot_among ps p ≡ Some i
  slot_first h i l e f = in_use h ∙ place_first ps p i l e f

  pub slot_absent : ((k : ℕ) → k < length ps → 0 < p → get_or ps k 0 ≢ p) → slot_among ps p ≡ None
  slot_absent f = ⊎_elim
      (λ (z : p ≡ 0). slot_zero z)
      (λ (nz : p ≢ 0). in_use (omega arith) ∙ place_absent ps p (λ k l. f k l (omega arith)))
      (cases_eq p 0)

  pub slot_some : (i : ℕ) → slot_among ps p ≡ Some i → (i < length ps) × (get_or ps i 0 ≡ p) × (0 < p)
  slot_some i e = ⊎_elim
      (λ (z : p ≡ 0). absurd (let n = slot_zero z in let x : ◌≡◌ {A = ℕ} 0 1 = cc in omega arith))
      (λ (nz : p ≢ 0).
      let h : 0 < p = omega arith in
      let r = place_some ps p i (sym (in_use h) ∙ e) in
      (r.0, r.1, h))
      (cases_eq p 0)

  pub slot_none : slot_among ps p ≡ None → 0 < p → (i : ℕ) → i < length ps → get_or ps i 0 ≢ p
  slot_none n h i l e =
      let m : place_in ps p ≡ None = sym (in_use h) ∙ n in
      place_none ps p m i l e
