-- The parts of the lent slice, and a write to one of them seen from the others.
use Rattle.std.proofs.Common.{◌≡◌, ℕ, List, length, ◌++◌, take, drop, ap, ◌∙◌, arith, length-append, length-drop, length-take, take_at, drop_at}
use borrow.Rule.Slice.PartMut.{put_mid}
use Rattle.std.proofs.lemmas.List.{take_all, drop-append-le, take-append-le}
use Rattle.std.proofs.lemmas.Slice.{between-put_mid, take-put_mid_below, drop-put_mid}
use Rattle.pages.proofs.Mid.{length_put_mid, part_below}
use Rattle.store.specs.Head.{Head, head_of}
use Rattle.store.specs.Store.{frames_of, next_of, next, scratch_of}

-- the parts put together again
pub frames_parts : (a r : List ℕ) → length a ≡ 61952 → frames_of (a ++ r) ≡ a
frames_parts a r l = take_at a r 61952 l

pub next_parts : (a w s : List ℕ) → length a ≡ 61952 → length w ≡ 512 → next_of (a ++ (w ++ s)) ≡ w
next_parts a w s l k = ap (take 512) (drop_at a (w ++ s) 61952 l) ∙ take_at w s 512 k

pub head_parts : (a w s : List ℕ) (h : Head) → length a ≡ 61952 → length w ≡ 512 → head_of w ≡ h → next (a ++ (w ++ s)) ≡ h
head_parts a w s h l k e = ap head_of (next_parts a w s l k) ∙ e

-- frames and next head before a page
module _ (a b : List ℕ) (l : length a ≡ 62464) where
  pub next_front : next_of (a ++ b) ≡ take 512 (drop 61952 a)
  next_front = ap (take 512) (drop-append-le 61952 a b (omega arith)) ∙ take-append-le 512 (drop 61952 a) b (simp length-drop (omega arith))

  pub frames_front : frames_of (a ++ b) ≡ take 61952 a
  frames_front = take-append-le 61952 a b (omega arith)

  pub scratch_back : length b ≡ 512 → scratch_of (a ++ b) ≡ b
  unfolding scratch_of
  scratch_back k = ap (take 512) (drop_at a b 62464 l) ∙ take_all 512 b (omega arith)

-- other frames before what stood behind them
module _ (part a r : List ℕ) (l : length part ≡ 62976) (k : length a ≡ 61952) (e : r ≡ drop 61952 part) where
  pub held_next : next_of (a ++ r) ≡ next_of part
  held_next = ap (take 512) (drop_at a r 61952 k ∙ e)

  pub held_long : length (a ++ r) ≡ 62976
  held_long = length-append a r ∙ omega (arith, ap length e, length-drop 61952 part)

module _ (part : List ℕ) (l : length part ≡ 62976) where
  pub length_next : length (next_of part) ≡ 512
  length_next = simp (length-take, length-drop) (omega arith)

  -- another head in the place of the next
  module _ (w : List ℕ) (k : length w ≡ 512) where
    pub put_next : next_of (put_mid 61952 512 part w) ≡ w
    put_next = between-put_mid 61952 512 part w 62464 (omega arith) k

    pub put_frames : frames_of (put_mid 61952 512 part w) ≡ frames_of part
    put_frames = take-put_mid_below 61952 512 part w 61952 (omega arith) (omega arith)

    pub put_long : length (put_mid 61952 512 part w) ≡ 62976
    put_long = length_put_mid 61952 512 part w (omega arith) k ∙ l

    pub put_scratch : scratch_of (put_mid 61952 512 part w) ≡ scratch_of part
    unfolding scratch_of
    put_scratch = ap (take 512) (drop-put_mid 61952 512 part w 62464 (omega arith) (omega arith) k)

  pub length_scratch : length (take 512 (drop 62464 part)) ≡ 512
  length_scratch = simp (length-take, length-drop) (omega arith)

  -- another page in the scratch
  module _ (w : List ℕ) (k : length w ≡ 512) where
    pub scratch_scratch : scratch_of (put_mid 62464 512 part w) ≡ w
    unfolding scratch_of
    scratch_scratch = between-put_mid 62464 512 part w 62976 (omega arith) k

    pub scratch_frames : frames_of (put_mid 62464 512 part w) ≡ frames_of part
    scratch_frames = take-put_mid_below 62464 512 part w 61952 (omega arith) (omega arith)

    pub scratch_next : next_of (put_mid 62464 512 part w) ≡ next_of part
    scratch_next = part_below 62464 512 part w (omega arith) k 61952 512 (omega arith)

  pub length_frames : length (frames_of part) ≡ 61952
  length_frames = simp length-take (omega arith)

  -- other frames
  module _ (w : List ℕ) (k : length w ≡ 61952) where
    pub frames_frames : frames_of (put_mid 0 61952 part w) ≡ w
    frames_frames = take_at w (drop 61952 part) 61952 k

    pub frames_next : next_of (put_mid 0 61952 part w) ≡ next_of part
    frames_next = ap (take 512) (drop_at w (drop 61952 part) 61952 k)

    pub frames_long : length (put_mid 0 61952 part w) ≡ 62976
    frames_long = length-append w (drop 61952 part) ∙ omega (arith, length-drop 61952 part)
