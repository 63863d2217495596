-- The lines of a ring: one that is written, one more at the end, one less at the start.
use Rattle.std.proofs.Common.{◌≡◌, ℕ, zero, suc, ◌+◌, ◌-◌, ◌<◌, ◌≤◌, ◌⊎◌, List, [], ◌∷◌, ◌++◌, length, get_or, set, sym, ap, ◌∙◌, inl, inr, arith}
use Rattle.std.proofs.lemmas.List.{ext_get_or, length-set, get_or-set_same, get_or-set_other}
use Rattle.std.proofs.lemmas.List.FromFn.{length-map-range_with_len, get_or-map-range_with_len, map-range_with_len_more}
use Rattle.std.proofs.lemmas.Bool.{lt-ltb, le-ltb, cases_eq, cases_lt}
use Rattle.lines.specs.declared.line.Line.{Line}
use Rattle.lines.specs.declared.line.Line.TheVariants.{Idle}
use Rattle.lines.specs.declared.ring.Ring.{Ring}
use Rattle.lines.specs.Lines.{line_at}
use Rattle.lines.specs.Rings.{place, lines_of}

abbrev pub ring : ℕ → ℕ → ℕ → Ring
ring c s n = record { cap = c; start = s; count = n }

pub ring_is : (r : Ring) (c s n : ℕ) → r.cap ≡ c → r.start ≡ s → r.count ≡ n → r ≡ ring c s n
ring_is r c s n p q e = ap (λ x. ring x r.start r.count) p ∙ ap (λ x. ring c x r.count) q ∙ ap (λ x. ring c s x) e

pub place_low : (r : Ring) (i : ℕ) → r.start + i < r.cap → place r i ≡ r.start + i
unfolding place
place_low r i h = rw (lt-ltb (r.start + i) r.cap h)

pub place_high : (r : Ring) (i : ℕ) → r.cap ≤ r.start + i → place r i ≡ r.start + i - r.cap
unfolding place
place_high r i h = rw (le-ltb (r.start + i) r.cap h)

-- one of the two, with what is known
place_cases : (r : Ring) (i : ℕ) → ((r.start + i < r.cap) × (place r i ≡ r.start + i)) ⊎ ((r.cap ≤ r.start + i) × (place r i ≡ r.start + i - r.cap))
place_cases r i = elim (cases_lt (r.start + i) r.cap) [ inl h ↦ inl (h, place_low r i h) | inr h ↦ inr (h, place_high r i h) ]

place_apart : (r : Ring) (i j : ℕ) → r.start < r.cap → i < r.cap → j < r.cap → (j ≡ i → ⊥) → place r j ≡ place r i → ⊥
place_apart r i j s h g d e =
    elim (place_cases r i) [
      | inl p ↦ elim (place_cases r j) [ inl q ↦ d (omega arith) | inr q ↦ omega arith ]
      | inr p ↦ elim (place_cases r j) [ inl q ↦ omega arith | inr q ↦ d (omega arith) ]
    ]

pub length_lines : (w : List ℕ) (r : Ring) → length (lines_of w r) ≡ r.count
unfolding lines_of
length_lines w r = length-map-range_with_len (λ i. line_at w (place r i)) 0 r.count

pub at_line : (w : List ℕ) (r : Ring) (i : ℕ) (d : Line) → i < r.count → get_or (lines_of w r) i d ≡ line_at w (place r i)
unfolding lines_of
at_line w r i d h = get_or-map-range_with_len (λ i. line_at w (place r i)) 0 r.count i i d h (omega arith)

pub same_lines : (w : List ℕ) (r : Ring) (ls : List Line) → length ls ≡ r.count → ((i : ℕ) → i < r.count → line_at w (place r i) ≡ get_or ls i Idle) → lines_of w r ≡ ls
same_lines w r ls e h = ext_get_or Idle (lines_of w r) ls (length_lines w r ∙ sym e) (λ i l. let g : i < r.count = omega (arith, length_lines w r) in at_line w r i Idle g ∙ h i g)

-- one is written
module _ (w v : List ℕ) (r : Ring) (i : ℕ) (l : Line) (s : r.start < r.cap) (c : r.count ≤ r.cap) (at : line_at v (place r i) ≡ l) (others : (q : ℕ) → (q ≡ place r i → ⊥) → line_at v q ≡ line_at w q) where
  pub set_lines : i < r.count → lines_of v r ≡ set (lines_of w r) i l
  set_lines h =
      same_lines v r (set (lines_of w r) i l) (length-set (lines_of w r) i l ∙ length_lines w r)
      (λ j g. elim (cases_eq j i) [
        | inl e ↦ rw e (at ∙ sym (get_or-set_same (lines_of w r) i l Idle (omega (arith, length_lines w r))))
        | inr d ↦ others (place r j) (place_apart r i j s (omega arith) (omega arith) d) ∙ sym (get_or-set_other (lines_of w r) i j l Idle d ∙ at_line w r j Idle g)
      ])

  -- one more
  pub push_lines : i ≡ r.count → i < r.cap → lines_of v (ring r.cap r.start (r.count + 1)) ≡ lines_of w r ++ l ∷ []
  unfolding lines_of place
  push_lines e h =
      map-range_with_len_more (λ j. line_at v (place r j)) 0 r.count i (omega arith)
      ∙ (ap (λ x. x ++ line_at v (place r i) ∷ []) (same_lines v r (lines_of w r) (length_lines w r) (λ j g. others (place r j) (place_apart r i j s h (omega arith) (λ u. omega arith)) ∙ sym (at_line w r j Idle g)))
      ∙ ap (λ x. lines_of w r ++ x ∷ []) at)

-- one less
after : Ring → ℕ → Ring
after r s = record { cap = r.cap; start = s; count = r.count - 1 }

next_place : (r : Ring) (s i : ℕ) → r.start < r.cap → ((r.start + 1 < r.cap) × (s ≡ r.start + 1)) ⊎ ((r.cap ≤ r.start + 1) × (s ≡ 0)) → suc i < r.cap → place r (suc i) ≡ place (after r s) i
unfolding after
next_place r s i h either g =
    elim either [
      | inl p ↦ elim (cases_lt (r.start + suc i) r.cap) [
        | inl a ↦ place_low r (suc i) a ∙ (let e : r.start + suc i ≡ s + i = omega arith in e) ∙ sym (place_low (after r s) i (omega arith))
        | inr a ↦ place_high r (suc i) a ∙ (let e : r.start + suc i - r.cap ≡ s + i - r.cap = omega arith in e) ∙ sym (place_high (after r s) i (omega arith))
      ]
      | inr p ↦ place_high r (suc i) (omega arith) ∙ (let e : r.start + suc i - r.cap ≡ s + i = omega arith in e) ∙ sym (place_low (after r s) i (omega arith))
    ]

pub pop_lines : (w : List ℕ) (r : Ring) (s : ℕ) → r.start < r.cap → r.count ≤ r.cap → 0 < r.count → ((r.start + 1 < r.cap) × (s ≡ r.start + 1)) ⊎ ((r.cap ≤ r.start + 1) × (s ≡ 0))
    → lines_of w r ≡ line_at w r.start ∷ lines_of w (ring r.cap s (r.count - 1))
unfolding after
pop_lines w r s h c g either =
    same_lines w r (line_at w r.start ∷ lines_of w (after r s)) (let e = length_lines w (after r s) in omega arith) each
  where
    each : (i : ℕ) → i < r.count → line_at w (place r i) ≡ get_or (line_at w r.start ∷ lines_of w (after r s)) i Idle
    each zero l = ap (line_at w) (place_low r 0 (omega arith) ∙ (let e : r.start + 0 ≡ r.start = omega arith in e))
    each (suc i) l = ap (line_at w) (next_place r s i h either (omega arith)) ∙ sym (at_line w (after r s) i Idle (omega arith))

-- one less at the end
pub pop_back_lines : (w : List ℕ) (r : Ring) (i : ℕ) → r.count ≡ i + 1 → lines_of w r ≡ lines_of w (ring r.cap r.start i) ++ line_at w (place r i) ∷ []
unfolding lines_of place
pop_back_lines w r i e = rw e (map-range_with_len_more (λ j. line_at w (place r j)) 0 i i (omega arith))

-- a ring without lines
pub no_lines : (w : List ℕ) (r : Ring) → r.count ≡ 0 → lines_of w r ≡ []
unfolding lines_of
no_lines w r e = rw e
