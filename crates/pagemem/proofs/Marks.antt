-- Marks and pages in lent slices.
use Rattle.std.proofs.Common.{◌≡◌, ℕ, zero, suc, ◌+◌, ◌-◌, ◌*◌, ◌<◌, ◌≤◌, Bool, true, cond, eqb, List, [], ◌∷◌, length, get_or, drop, set, sym, refl, ap, ◌∙◌, subst, inl, inr, is_ok, Ok, Result, Some, None, Option, arith, rules}
use borrow.Rule.Slice.PartMut.{put_mid}
use Rattle.std.proofs.lemmas.List.{get_or-set_same, get_or-set_other, length-set, length-drop, get_or-drop, drop-set-add, drop-set-lt, take_all}
use Rattle.std.proofs.lemmas.Bool.{eq-eqb, ne_eqb, cases_eq, cases_lt, cases_order}
use Rattle.pages.proofs.Mid.{length_put_mid, part_same, part_below, part_above}
use Rattle.std.specs.Prelude.{EachIndex, IsSome, IsOk, IfOk, MatchOption}
use Rattle.tree.specs.Grow.{Grown}
use Rattle.tree.specs.Shrink.{Dropped}
use Rattle.tree.specs.State.{Still, Given, Wrote, Freed}
use Rattle.tree.specs.Tree.{Once, Sound, pairs_of_tree}
use Rattle.tree.proofs.Down.{sound_still}
use Rattle.tree.proofs.Growth.{once_still}
use Rattle.tree.proofs.Sizes.{low_trees}
use Rattle.pagemem.specs.Memory.{mark_of, free, state_of, Fits, Kept, kept, Good, pairs_in}
use Rattle.tree.specs.declared.TreeRoot.{TreeRoot}

under : (xs : List ℕ) (i : ℕ) → 1 ≤ get_or xs i 0 → i < length xs
under [] i h = absurd (omega arith)
under (x ∷ xs) zero h = omega arith
under (x ∷ xs) (suc i) h = omega (arith, under xs i h)

pub page_in_lem : (ms ws : List ℕ) (p : ℕ) → 1 ≤ mark_of ms p → Fits ms ws → 512 * (p + 1) ≤ length ws
page_in_lem ms ws p h f = let u = under ms (1 + p) h in omega (arith, f.long)

free_set : (xs : List ℕ) (i v : ℕ) → i < length xs → free (set xs i v) + cond (eqb (get_or xs i 0) 0) 1 0 ≡ free xs + cond (eqb v 0) 1 0
unfolding free
free_set [] i v h = absurd (omega arith)
free_set (x ∷ xs) zero v h = omega arith
free_set (x ∷ xs) (suc i) v h = omega (arith, free_set xs i v (omega arith))

free_le : (xs : List ℕ) → free xs ≤ length xs
unfolding free
free_le [] = omega arith
free_le (x ∷ xs) = elim (cases_eq x 0) [ inl z ↦ rw (eq-eqb x 0 z) (omega (arith, free_le xs)) | inr z ↦ rw (ne_eqb x 0 z) (omega (arith, free_le xs)) ]

-- no mark is 0
pub free_none : (xs : List ℕ) → ((k : ℕ) → k < length xs → get_or xs k 0 ≡ 0 → ⊥) → free xs ≡ 0
unfolding free
free_none [] h = refl
free_none (x ∷ xs) h = rw (ne_eqb x 0 (h 0 (omega arith))) (omega (arith, free_none xs (λ k l. h (suc k) (omega arith))))

-- then one is found
pub some_free : (xs : List ℕ) (o : Option ℕ) (P : ℕ → Type 0) → 0 < free xs → MatchOption o (EachIndex xs (λ k. get_or xs k 0 ≡ 0 → ⊥)) P → IsSome o
some_free xs None P h m = absurd (omega (arith, free_none xs m))
some_free xs (Some p) P h m = search rules

-- a mark and the count were changed
module _ (ms ws : List ℕ) (p v n : ℕ) (f : Fits ms ws) (near : p + 1 < length ms) where
  abbrev ns : List ℕ
  ns = set (set ms (1 + p) v) 0 n

  same_length : length ns ≡ length ms
  same_length = length-set (set ms (1 + p) v) 0 n ∙ length-set ms (1 + p) v

  pub first_mark : get_or ns 0 0 ≡ n
  first_mark = get_or-set_same (set ms (1 + p) v) 0 n 0 (omega (arith, length-set ms (1 + p) v))

  pub this_mark : mark_of ns p ≡ v
  this_mark = get_or-set_other (set ms (1 + p) v) 0 (1 + p) n 0 (λ z. omega (arith, z)) ∙ get_or-set_same ms (1 + p) v 0 (omega arith)

  pub other_mark : (q : ℕ) → (q ≡ p → ⊥) → mark_of ns q ≡ mark_of ms q
  other_mark q ne = get_or-set_other (set ms (1 + p) v) 0 (1 + q) n 0 (λ z. omega (arith, z)) ∙ get_or-set_other ms (1 + p) (1 + q) v 0 (λ z. ne (omega (arith, z)))

  count_again : free (drop 1 ns) + cond (eqb (mark_of ms p) 0) 1 0 ≡ free (drop 1 ms) + cond (eqb v 0) 1 0
  count_again =
      let e : drop 1 ns ≡ set (drop 1 ms) p v = drop-set-lt 1 (set ms (1 + p) v) 0 n (omega arith) ∙ drop-set-add 1 ms p v in
      let g : get_or (drop 1 ms) p 0 ≡ mark_of ms p = get_or-drop 1 ms p 0 in
      omega (arith, ap free e, free_set (drop 1 ms) p v (omega (arith, length-drop 1 ms)), ap {B = ℕ} (λ (x : ℕ). cond (eqb x 0) 1 0) g)

  pub fits_again : n + cond (eqb (mark_of ms p) 0) 1 0 ≡ get_or ms 0 0 + cond (eqb v 0) 1 0 → Fits ns ws
  fits_again h = record {
    some = omega (arith, same_length, f.some);
    few = omega (arith, same_length, f.few);
    long = omega (arith, f.long, same_length);
    counted = omega (arith, first_mark, count_again, h, f.counted);
  }

one_at : (q p : ℕ) → q ≡ p → ◌≡◌ {A = ℕ} (cond (eqb q p) 1 0) 1
one_at q p z = rw (eq-eqb q p z)

none_at : (q p : ℕ) → (q ≡ p → ⊥) → ◌≡◌ {A = ℕ} (cond (eqb q p) 1 0) 0
none_at q p z = rw (ne_eqb q p z)

pub taken : (ms ns ws : List ℕ) (p : ℕ) → Fits ms ws → 0 < get_or ms 0 0 → p + 1 < length ms → mark_of ms p ≡ 0 → ns ≡ set (set ms (1 + p) 1) 0 (get_or ms 0 0 - 1) → Given p (state_of ms ws) (state_of ns ws) × Fits ns ws
taken ms ns ws p f r near was e = subst (λ ns. Given p (state_of ms ws) (state_of ns ws) × Fits ns ws) (sym e) (
  record {
    was = was;
    page = refl;
    taken = λ q. elim (cases_eq q p) [
      | inl z ↦ omega (arith, ap (λ q. mark_of (set (set ms (1 + p) 1) 0 (get_or ms 0 0 - 1)) q) z, this_mark ms ws p 1 (get_or ms 0 0 - 1) f near, ap (λ q. mark_of ms q) z, was, one_at q p z)
      | inr z ↦ omega (arith, other_mark ms ws p 1 (get_or ms 0 0 - 1) f near q z, none_at q p z)
    ];
    room = omega (arith, first_mark ms ws p 1 (get_or ms 0 0 - 1) f near);
    left = omega arith;
    dirty = refl;
    spare = refl;
  },
  fits_again ms ws p 1 (get_or ms 0 0 - 1) f near (omega (arith, one_at (mark_of ms p) 0 was)),
)

pub given_back : (ms ns ws : List ℕ) (p : ℕ) → Fits ms ws → p + 1 < length ms → mark_of ms p ≡ 1 → ns ≡ set (set ms (1 + p) 0) 0 (get_or ms 0 0 + 1) → Freed p (state_of ms ws) (state_of ns ws) × Fits ns ws
given_back ms ns ws p f near was e = subst (λ ns. Freed p (state_of ms ws) (state_of ns ws) × Fits ns ws) (sym e) (
  record {
    others = λ q ne. refl;
    taken = λ q. elim (cases_eq q p) [
      | inl z ↦ omega (arith, ap (λ q. mark_of (set (set ms (1 + p) 0) 0 (get_or ms 0 0 + 1)) q) z, this_mark ms ws p 0 (get_or ms 0 0 + 1) f near, ap (λ q. mark_of ms q) z, was, one_at q p z)
      | inr z ↦ omega (arith, other_mark ms ws p 0 (get_or ms 0 0 + 1) f near q z, none_at q p z)
    ];
    room = first_mark ms ws p 0 (get_or ms 0 0 + 1) f near;
    left = refl;
    marked = omega arith;
    spends = record { dirty = λ q. omega arith; spare = omega arith };
  },
  fits_again ms ws p 0 (get_or ms 0 0 + 1) f near (omega (arith, none_at (mark_of ms p) 0 (λ z. omega (arith, z)))),
)

-- the count fits
pub count_near : (ms ws : List ℕ) → Fits ms ws → get_or ms 0 0 < length ms
count_near ms ws f = omega (arith, f.counted, f.some, free_le (drop 1 ms), length-drop 1 ms)

pub mark_near : (ms : List ℕ) (p : ℕ) → 1 ≤ mark_of ms p → p + 1 < length ms
mark_near ms p h = omega (arith, under ms (1 + p) h)

-- a page written into the words
pub wrote : (ms ws b : List ℕ) (p : ℕ) → length b ≡ 512 → 512 * (p + 1) ≤ length ws → Wrote p b (state_of ms ws) (state_of ms (put_mid (512 * p) 512 ws b))
wrote ms ws b p lb h = record {
  here = part_same (512 * p) 512 ws b (omega arith) lb 512 (omega arith) ∙ take_all 512 b (omega arith);
  others = λ q ne. elim (cases_order q p) [
    | inl z ↦ absurd (ne z)
    | inr (inl z) ↦ part_below (512 * p) 512 ws b (omega arith) lb (512 * q) 512 (omega arith)
    | inr (inr z) ↦ part_above (512 * p) 512 ws b (omega arith) lb (512 * q) 512 (omega arith)
  ];
  taken = refl;
  room = refl;
  left = refl;
  marked = omega arith;
  spends = record { dirty = λ q. omega arith; spare = omega arith };
}

pub fits_wrote : (ms ws b : List ℕ) (p : ℕ) → length b ≡ 512 → 512 * (p + 1) ≤ length ws → Fits ms ws → Fits ms (put_mid (512 * p) 512 ws b)
fits_wrote ms ws b p lb h f = let e = length_put_mid (512 * p) 512 ws b (omega arith) lb in record { some = f.some; few = f.few; long = omega (arith, f.long); counted = f.counted }

pub fits_of : (ok : Bool) (ms ws : List ℕ) → Kept ok ms ws → Fits ms ws
fits_of ok ms ws (kept z f) = f

pub went_well : (ok : Bool) (ms ws : List ℕ) → Kept ok ms ws → ok ≡ true
went_well ok ms ws (kept z f) = z

past_marks : (ms : List ℕ) (i : ℕ) → length ms ≤ i → get_or ms i 0 ≡ 0
past_marks [] i h = refl
past_marks (m ∷ ms) zero h = absurd (omega arith)
past_marks (m ∷ ms) (suc i) h = past_marks ms i (omega arith)

pub low : (ms ws : List ℕ) (height root : ℕ) → Fits ms ws → Sound (state_of ms ws) height root → Once (state_of ms ws) → height ≤ 6
low ms ws height root f s on = low_trees (state_of ms ws) height root (length ms - 1) s on (λ q h. past_marks ms (1 + q) (omega (arith, f.some))) (omega (arith, f.few))

pub free_all : (xs : List ℕ) → ((k : ℕ) → k < length xs → get_or xs k 0 ≡ 0) → free xs ≡ length xs
unfolding free
free_all [] h = refl
free_all (x ∷ xs) h = omega (arith, one_at x 0 (h 0 (omega arith)), free_all xs (λ k l. h (suc k) (omega arith)))

-- all marks are 0, and then the count is written
module _ (ms : List ℕ) (some : 0 < length ms) (h : (k : ℕ) → k < length ms → get_or ms k 0 ≡ 0) where
  clear_marks : (p : ℕ) → mark_of (set ms 0 (length ms - 1)) p ≡ 0
  clear_marks p = get_or-set_other ms 0 (1 + p) (length ms - 1) 0 (λ z. omega (arith, z)) ∙ elim (cases_lt (1 + p) (length ms)) [ inl z ↦ h (1 + p) z | inr z ↦ past_marks ms (1 + p) z ]

  pub clear_room : get_or (set ms 0 (length ms - 1)) 0 0 ≡ length ms - 1
  clear_room = get_or-set_same ms 0 (length ms - 1) 0 some

  clear_counted : get_or (set ms 0 (length ms - 1)) 0 0 ≡ free (drop 1 (set ms 0 (length ms - 1)))
  clear_counted = omega (
    arith,
    clear_room,
    ap free (drop-set-lt 1 ms 0 (length ms - 1) (omega arith)),
    length-drop 1 ms,
    free_all (drop 1 ms) (λ k l. get_or-drop 1 ms k 0 ∙ h (1 + k) (omega (arith, length-drop 1 ms))),
  )

  pub clear_good : (ws : List ℕ) → length ms ≤ 4294967297 → 512 * (length ms - 1) ≤ length ws → Good (set ms 0 (length ms - 1)) ws (record { page = 0; height = 0 })
  unfolding Sound
  clear_good ws few long =
      let n = length-set ms 0 (length ms - 1) in
      record {
        fits = record { some = omega (arith, n); few = omega (arith, n); long = omega (arith, n); counted = clear_counted };
        sound = tt;
        once = λ q. omega (arith, clear_marks q);
      }

pub clear_empty : (ws : List ℕ) → pairs_in ws (record { page = 0; height = 0 }) ≡ []
unfolding pairs_of_tree
clear_empty ws = refl

pub good_low : (ms ws : List ℕ) (t : TreeRoot) → Good ms ws t → t.height ≤ 6
good_low ms ws t g = low ms ws t.height t.page g.fits g.sound g.once

-- a call that went well left a tree at t'
module _ {A E : Type 0} (r : Result A E) (v : A) (ns vs : List ℕ) (is : r ≡ Ok v) (k : Kept (is_ok r) ns vs) where
  pub good_still : (ms ws : List ℕ) (t : TreeRoot) (n : ℕ) (P : A → Type 0) → Good ms ws t → IfOk r (λ o. P o × Still n (state_of ms ws) (state_of ns vs)) → Good ns vs t
  good_still ms ws t n P g h =
      let s : P v × Still n (state_of ms ws) (state_of ns vs) = subst (λ r. IfOk r (λ o. P o × Still n (state_of ms ws) (state_of ns vs))) is h in
      record {
        fits = fits_of (is_ok r) ns vs k;
        sound = sound_still n (state_of ms ws) (state_of ns vs) t.height t.page s.1 g.sound;
        once = once_still n (state_of ms ws) (state_of ns vs) s.1 g.once;
      }

  pub good_grown : (ms ws : List ℕ) (t t' : TreeRoot) (q x : ℕ) (P : A → Type 0) → IfOk r (λ o. Grown (state_of ms ws) (state_of ns vs) t.height t.page q x t'.height t'.page × P o) → Good ns vs t'
  good_grown ms ws t t' q x P h =
      let s : Grown (state_of ms ws) (state_of ns vs) t.height t.page q x t'.height t'.page × P v = subst (λ r. IfOk r (λ o. Grown (state_of ms ws) (state_of ns vs) t.height t.page q x t'.height t'.page × P o)) is h in
      record { fits = fits_of (is_ok r) ns vs k; sound = s.0.sound; once = s.0.once }

  pub good_dropped : (ms ws : List ℕ) (t t' : TreeRoot) (q : ℕ) (P : A → Type 0) → IfOk r (λ o. Dropped (state_of ms ws) (state_of ns vs) t.height t.page q t'.height t'.page × P o) → Good ns vs t'
  good_dropped ms ws t t' q P h =
      let s : Dropped (state_of ms ws) (state_of ns vs) t.height t.page q t'.height t'.page × P v = subst (λ r. IfOk r (λ o. Dropped (state_of ms ws) (state_of ns vs) t.height t.page q t'.height t'.page × P o)) is h in
      record { fits = fits_of (is_ok r) ns vs k; sound = s.0.sound; once = s.0.once }

-- each call goes well
pub is_fine : {A E : Type 0} (r : Result A E) (ns vs : List ℕ) → Kept (is_ok r) ns vs → IsOk r
is_fine r ns vs k = let z = went_well (is_ok r) ns vs k in search rules
