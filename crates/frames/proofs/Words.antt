-- What a write of raw words makes of the cache.
use Rattle.std.proofs.Common.{◌≡◌, ℕ, ◌+◌, ◌-◌, ◌*◌, ◌<◌, ◌≤◌, ◌≢◌, List, length, get_or, take, drop, set, replicate, sym, refl, ap, ◌∙◌, arith, rules}
use borrow.Rule.Slice.PartMut.{put_mid}
use lib.Seq.{take-set-lt}
use Rattle.std.proofs.lemmas.List.{take-set-le, drop-set-lt, drop-set-add, get_or-set_same, get_or-set_other, get_or-take, get_or-drop, take-replicate, drop-replicate, get_or-replicate, length-replicate, places, same_lists}
use Rattle.pages.proofs.Mid.{part_below, part_above, part_in}
use Rattle.frames.specs.declared.layout.Column.{Column}
use Rattle.frames.specs.declared.layout.Column.TheVariants.{Pages, Marks, Pins}
use Rattle.frames.specs.Columns.{start_of, column_in, with_column}
use Rattle.frames.specs.Layout.{Cache, Sized, cache_of, frame_in, placed, with_frames, with_pages, with_marks, with_pins, with_entries, with_count, with_hand, cleared}

same : {f p m n e f' p' m' n' e' : List ℕ} {k h k' h' : ℕ} → f ≡ f' → p ≡ p' → m ≡ m' → n ≡ n' → e ≡ e' → k ≡ k' → h ≡ h' →
    ◌≡◌ {A = Cache} (record { frames = f; pages = p; marks = m; pins = n; entries = e; count = k; hand = h })
    (record { frames = f'; pages = p'; marks = m'; pins = n'; entries = e'; count = k'; hand = h' })
same a b c d e f g = cc

-- a word set at k, seen from a stretch of n words that begins at a, and from another word
module _ (part : List ℕ) (k v : ℕ) where
  below : (a n : ℕ) → k < a → take n (drop a (set part k v)) ≡ take n (drop a part)
  below a n h = ap (λ (xs : List ℕ). take n xs) (drop-set-lt a part k v h)

  above : (a n : ℕ) → a + n ≤ k → take n (drop a (set part k v)) ≡ take n (drop a part)
  above a n h =
      let e : k ≡ a + (k - a) = omega arith in
      ap (λ j. take n (drop a (set part j v))) e
      ∙ ap (λ (xs : List ℕ). take n xs) (drop-set-add a part (k - a) v)
      ∙ take-set-le n (drop a part) (k - a) v (omega arith)

  aside : (a : ℕ) → a ≢ k → get_or (set part k v) a 0 ≡ get_or part a 0
  aside a h = get_or-set_other part k a v 0 h

within : (part : List ℕ) (a n i v : ℕ) → i < n → take n (drop a (set part (a + i) v)) ≡ set (take n (drop a part)) i v
within part a n i v h = ap (λ (xs : List ℕ). take n xs) (drop-set-add a part i v) ∙ take-set-lt n (drop a part) i v h

word_in : (part : List ℕ) (a n i : ℕ) → i < n → get_or part (a + i) 0 ≡ get_or (take n (drop a part)) i 0
word_in part a n i h = sym (get_or-take n (drop a part) i 0 h ∙ get_or-drop a part i 0)

-- the words of a part, read
module _ (part : List ℕ) (i : ℕ) where
  pub page_read : i < 120 → get_or part (61440 + i) 0 ≡ get_or (cache_of part).pages i 0
  unfolding cache_of
  page_read h = word_in part 61440 120 i h

  pub mark_read : i < 120 → get_or part (61560 + i) 0 ≡ get_or (cache_of part).marks i 0
  unfolding cache_of
  mark_read h = word_in part 61560 120 i h

  pub pins_read : i < 120 → get_or part (61680 + i) 0 ≡ get_or (cache_of part).pins i 0
  unfolding cache_of
  pins_read h = word_in part 61680 120 i h

  pub entry_read : i < 64 → get_or part (61800 + i) 0 ≡ get_or (cache_of part).entries i 0
  unfolding cache_of
  entry_read h = word_in part 61800 64 i h

module _ (part : List ℕ) where
  pub count_read : get_or part 61864 0 ≡ (cache_of part).count
  unfolding cache_of
  count_read = refl

  pub hand_read : get_or part 61865 0 ≡ (cache_of part).hand
  unfolding cache_of
  hand_read = refl

-- and written
module _ (part : List ℕ) (i v : ℕ) where
  pub page_set : i < 120 → cache_of (set part (61440 + i) v) ≡ with_pages (cache_of part) (set (cache_of part).pages i v)
  unfolding cache_of
  page_set h = let k = 61440 + i in same
      (above part k v 0 61440 (omega arith))
      (within part 61440 120 i v h)
      (below part k v 61560 120 (omega arith))
      (below part k v 61680 120 (omega arith))
      (below part k v 61800 64 (omega arith))
      (aside part k v 61864 (omega arith))
      (aside part k v 61865 (omega arith))

  pub mark_set : i < 120 → cache_of (set part (61560 + i) v) ≡ with_marks (cache_of part) (set (cache_of part).marks i v)
  unfolding cache_of
  mark_set h = let k = 61560 + i in same
      (above part k v 0 61440 (omega arith))
      (above part k v 61440 120 (omega arith))
      (within part 61560 120 i v h)
      (below part k v 61680 120 (omega arith))
      (below part k v 61800 64 (omega arith))
      (aside part k v 61864 (omega arith))
      (aside part k v 61865 (omega arith))

  pub pins_set : i < 120 → cache_of (set part (61680 + i) v) ≡ with_pins (cache_of part) (set (cache_of part).pins i v)
  unfolding cache_of
  pins_set h = let k = 61680 + i in same
      (above part k v 0 61440 (omega arith))
      (above part k v 61440 120 (omega arith))
      (above part k v 61560 120 (omega arith))
      (within part 61680 120 i v h)
      (below part k v 61800 64 (omega arith))
      (aside part k v 61864 (omega arith))
      (aside part k v 61865 (omega arith))

  pub entry_set : i < 64 → cache_of (set part (61800 + i) v) ≡ with_entries (cache_of part) (set (cache_of part).entries i v)
  unfolding cache_of
  entry_set h = let k = 61800 + i in same
      (above part k v 0 61440 (omega arith))
      (above part k v 61440 120 (omega arith))
      (above part k v 61560 120 (omega arith))
      (above part k v 61680 120 (omega arith))
      (within part 61800 64 i v h)
      (aside part k v 61864 (omega arith))
      (aside part k v 61865 (omega arith))

module _ (part : List ℕ) (v : ℕ) (sized : Sized part) where
  pub count_set : cache_of (set part 61864 v) ≡ with_count (cache_of part) v
  unfolding cache_of
  count_set = same
      (above part 61864 v 0 61440 (omega arith))
      (above part 61864 v 61440 120 (omega arith))
      (above part 61864 v 61560 120 (omega arith))
      (above part 61864 v 61680 120 (omega arith))
      (above part 61864 v 61800 64 (omega arith))
      (get_or-set_same part 61864 v 0 (omega arith))
      (aside part 61864 v 61865 (omega arith))

  pub hand_set : cache_of (set part 61865 v) ≡ with_hand (cache_of part) v
  unfolding cache_of
  hand_set = same
      (above part 61865 v 0 61440 (omega arith))
      (above part 61865 v 61440 120 (omega arith))
      (above part 61865 v 61560 120 (omega arith))
      (above part 61865 v 61680 120 (omega arith))
      (above part 61865 v 61800 64 (omega arith))
      (aside part 61865 v 61864 (omega arith))
      (get_or-set_same part 61865 v 0 (omega arith))

-- ys written over the k words from a, seen from around it, and a word seen
module _ (a k : ℕ) (xs ys : List ℕ) (fits : a + k ≤ length xs) (long : length ys ≡ k) where
  part_around : (m : ℕ) → a + k ≤ m → take m (put_mid a k xs ys) ≡ put_mid a k (take m xs) ys
  part_around m h = same_lists _ _ (search (rules, places)) (λ i d l. grind (arith, places))

  word_above : (i : ℕ) → a + k ≤ i → get_or (put_mid a k xs ys) i 0 ≡ get_or xs i 0
  word_above i h = grind (arith, places)

  word_inside : (i : ℕ) → a ≤ i → i < a + k → get_or (put_mid a k xs ys) i 0 ≡ get_or ys (i - a) 0
  word_inside i g h = grind (arith, places)

front : (n : ℕ) (xs : List ℕ) (s m : ℕ) → s + m ≤ n → take m (drop s (take n xs)) ≡ take m (drop s xs)
front n xs s m h = same_lists _ _ (search (rules, places)) (λ j d l. grind (arith, places))

module _ (part : List ℕ) (i : ℕ) (sized : Sized part) (h : i < 120) where
  pub frame_set : (w : List ℕ) → length w ≡ 512 → cache_of (put_mid (512 * i) 512 part w) ≡ with_frames (cache_of part) (placed (cache_of part).frames i w)
  unfolding cache_of placed
  frame_set w l =
      let a = 512 * i in
      let fits : a + 512 ≤ length part = omega arith in
      same
      (part_around a 512 part w fits l 61440 (omega arith))
      (part_above a 512 part w fits l 61440 120 (omega arith))
      (part_above a 512 part w fits l 61560 120 (omega arith))
      (part_above a 512 part w fits l 61680 120 (omega arith))
      (part_above a 512 part w fits l 61800 64 (omega arith))
      (word_above a 512 part w fits l 61864 (omega arith))
      (word_above a 512 part w fits l 61865 (omega arith))

  pub frame_read : take 512 (drop (512 * i) part) ≡ frame_in (cache_of part).frames i
  unfolding cache_of frame_in
  frame_read = sym (front 61440 part (512 * i) 512 (omega arith))

noughts : (m s n : ℕ) → s + m ≤ n → take m (drop s (replicate n 0)) ≡ replicate {A = ℕ} m 0
noughts m s n h = ap (λ (xs : List ℕ). take m xs) (drop-replicate s n 0) ∙ take-replicate m (n - s) 0 (omega arith)

pub cut_long : (part : List ℕ) (a k : ℕ) → a + k ≤ length part → length (take k (drop a part)) ≡ k
cut_long part a k h = search (rules, places)

module _ (part w : List ℕ) (sized : Sized part) where
  pub marks_cleared : w ≡ replicate (length (take 120 (drop 61560 part))) 0 → cache_of (put_mid 61560 120 part w) ≡ with_marks (cache_of part) (replicate 120 0)
  unfolding cache_of
  marks_cleared o =
      let fits : 61560 + 120 ≤ length part = omega arith in
      let e : w ≡ replicate 120 0 = o ∙ ap (λ n. replicate n 0) (cut_long part 61560 120 fits) in
      let long : length w ≡ 120 = ap length e ∙ length-replicate {A = ℕ} 120 0 in
      same
      (part_below 61560 120 part w fits long 0 61440 (omega arith))
      (part_below 61560 120 part w fits long 61440 120 (omega arith))
      (part_in 61560 120 part w fits long 61560 120 (omega arith) (omega arith) ∙ ap (λ (xs : List ℕ). take 120 xs) e)
      (part_above 61560 120 part w fits long 61680 120 (omega arith))
      (part_above 61560 120 part w fits long 61800 64 (omega arith))
      (word_above 61560 120 part w fits long 61864 (omega arith))
      (word_above 61560 120 part w fits long 61865 (omega arith))

  pub table_cleared : w ≡ replicate (length (take 512 (drop 61440 part))) 0 → cache_of (put_mid 61440 512 part w) ≡ cleared (cache_of part).frames
  unfolding cache_of
  table_cleared o =
      let fits : 61440 + 512 ≤ length part = omega arith in
      let e : w ≡ replicate 512 0 = o ∙ ap (λ n. replicate n 0) (cut_long part 61440 512 fits) in
      let long : length w ≡ 512 = ap length e ∙ length-replicate {A = ℕ} 512 0 in
      let row : (m s : ℕ) → 61440 ≤ s → s + m ≤ 61952 → take m (drop s (put_mid 61440 512 part w)) ≡ replicate m 0 =
      λ m s g h. part_in 61440 512 part w fits long s m g h
      ∙ ap (λ (xs : List ℕ). take m (drop (s - 61440) xs)) e
      ∙ noughts m (s - 61440) 512 (omega arith) in
      let word : (s : ℕ) → 61440 ≤ s → s < 61952 → get_or (put_mid 61440 512 part w) s 0 ≡ 0 =
      λ s g h. word_inside 61440 512 part w fits long s g h
      ∙ ap (λ (xs : List ℕ). get_or xs (s - 61440) 0) e
      ∙ get_or-replicate 512 (s - 61440) 0 0 (omega arith) in
      same
      (part_below 61440 512 part w fits long 0 61440 (omega arith))
      (row 120 61440 (omega arith) (omega arith))
      (row 120 61560 (omega arith) (omega arith))
      (row 120 61680 (omega arith) (omega arith))
      (row 64 61800 (omega arith) (omega arith))
      (word 61864 (omega arith) (omega arith))
      (word 61865 (omega arith) (omega arith))

-- a column read, and written
module _ (part : List ℕ) (i : ℕ) (h : i < 120) where
  pub column_read : (k : Column) → get_or part (start_of k + i) 0 ≡ get_or (column_in k (cache_of part)) i 0
  column_read Pages = page_read part i h
  column_read Marks = mark_read part i h
  column_read Pins = pins_read part i h

  pub column_set : (k : Column) (v : ℕ) → cache_of (set part (start_of k + i) v) ≡ with_column k (cache_of part) (set (column_in k (cache_of part)) i v)
  column_set Pages v = page_set part i v h
  column_set Marks v = mark_set part i v h
  column_set Pins v = pins_set part i v h
