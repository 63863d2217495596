-- A part of a list that was written, seen from elsewhere.
use Rattle.std.proofs.Common.{◌≡◌, ℕ, ◌+◌, ◌-◌, ◌<◌, ◌≤◌, List, length, get_or, take, drop, set, ap, arith, rules}
use borrow.Rule.Slice.PartMut.{put_mid}
use Rattle.std.proofs.lemmas.List.{places, same_lists, drop-set-lt}

-- ys written over the k words from a, seen from a stretch that lies elsewhere, or in it
module _ (a k : ℕ) (xs ys : List ℕ) (fits : a + k ≤ length xs) (long : length ys ≡ k) where
  pub length_put_mid : length (put_mid a k xs ys) ≡ length xs
  length_put_mid = search (rules, places)

  pub get_d_below : (i d : ℕ) → i < a → get_or (put_mid a k xs ys) i d ≡ get_or xs i d
  get_d_below i d h = grind (arith, places)

  pub part_same : (m : ℕ) → m ≤ k → take m (drop a (put_mid a k xs ys)) ≡ take m ys
  part_same m h = same_lists _ _ (search (rules, places)) (λ i d l. grind (arith, places))

  pub part_in : (s m : ℕ) → a ≤ s → s + m ≤ a + k → take m (drop s (put_mid a k xs ys)) ≡ take m (drop (s - a) ys)
  part_in s m g h = same_lists _ _ (search (rules, places)) (λ i d l. grind (arith, places))

  pub part_below : (s m : ℕ) → s + m ≤ a → take m (drop s (put_mid a k xs ys)) ≡ take m (drop s xs)
  part_below s m h = same_lists _ _ (search (rules, places)) (λ i d l. grind (arith, places))

  pub part_above : (s m : ℕ) → a + k ≤ s → take m (drop s (put_mid a k xs ys)) ≡ take m (drop s xs)
  part_above s m h = same_lists _ _ (search (rules, places)) (λ i d l. grind (arith, places))

-- a word written below the part
pub part_set : (xs : List ℕ) (i v s m : ℕ) → i < s → take m (drop s (set xs i v)) ≡ take m (drop s xs)
part_set xs i v s m h = ap (λ r. take m r) (drop-set-lt s xs i v h)
