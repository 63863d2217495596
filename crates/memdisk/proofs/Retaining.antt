-- A turn of the loop that moves what stays to the front.
use Rattle.std.proofs.Common.{◌≡◌, ℕ, ◌+◌, ◌<◌, ◌≤◌, List, length, get_or, take, drop, set, swap, Bool, true, false, sym, ap, ◌∙◌, arith, rules, length-set, drop-set-lt}
use Rattle.std.proofs.lemmas.List.{same_lists, places, get_or-set_same, set-set, take-set}
use Rattle.std.proofs.lemmas.List.Edits.{swap_is}
use Rattle.std.proofs.lemmas.Bool.{cases_eq}
use Rattle.std.proofs.RetainMut.{RetainMutInvariant, sift_on}

module _ {X : Type 0} where
  -- after a swap of k and i, the first k + 1 elements and those past i are as after a copy to k
  take-swap : (ys : List X) (k i : ℕ) (y : X) → k ≤ i → i < length ys → take (k + 1) (set (set ys i y) k y) ≡ take (k + 1) (swap (set ys i y) k i)
  take-swap ys k i y le lt =
      let long = length-set ys i y in
      let swapped = swap_is (set ys i y) k i y (omega arith) (omega arith) in
      rw (← swapped) (same_lists _ _ (search (rules, places)) (λ j d h. grind (arith, places, get_or-set_same, cases_eq j k, cases_eq j i)))

  drop-swap : (ys : List X) (k i : ℕ) (y : X) → k ≤ i → i < length ys → drop (i + 1) (set (set ys i y) k y) ≡ drop (i + 1) (swap (set ys i y) k i)
  drop-swap ys k i y le lt =
      let long = length-set ys i y in
      let swapped = swap_is (set ys i y) k i y (omega arith) (omega arith) in
      rw (← swapped) (drop-set-lt (i + 1) _ k y (omega arith) ∙ sym (drop-set-lt (i + 1) _ i _ (omega arith) ∙ drop-set-lt (i + 1) _ k _ (omega arith)))

-- a turn at i, with k elements kept so far, where the call left y
module _ {S X : Type 0} (R : S → X → Bool → S → X → Type 0) (s₀ : S) (xs : List X) (s t : S) (ys : List X) (k i : ℕ) (x y : X) (le : k ≤ i) (lt : i < length ys) (is : x ≡ get_or ys i x) (h : RetainMutInvariant R s₀ xs s ys k i) where
  pub retained : R s x true t y → RetainMutInvariant R s₀ xs t (swap (set ys i y) k i) (k + 1) (i + 1)
  retained called =
      let next = sift_on R s₀ xs s t ys k i x y le lt is h true called in
      (sym (drop-swap ys k i y le lt) ∙ next.0, rw (← take-swap ys k i y le lt) next.1)

  -- where all before it stayed, an item already stands where it goes
  pub retained_there : i ≤ k → R s x true t y → RetainMutInvariant R s₀ xs t (set ys i y) (k + 1) (i + 1)
  retained_there ge called =
      let next = sift_on R s₀ xs s t ys k i x y le lt is h true called in
      let there : k ≡ i = omega arith in
      let once : set (set ys i y) k y ≡ set ys i y = ap (λ k. set (set ys i y) k y) there ∙ set-set ys i y y in
      rw once at next

  pub discarded : R s x false t y → RetainMutInvariant R s₀ xs t (set ys i y) k (i + 1)
  discarded called =
      let next = sift_on R s₀ xs s t ys k i x y le lt is h false called in
      (sym (drop-set-lt (i + 1) (set ys i y) k y (omega arith)) ∙ next.0, rw (← take-set (set ys i y) k y) next.1)
