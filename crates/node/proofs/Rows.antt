-- A page whose keys, words and count were written.
use Rattle.std.proofs.Common.{◌≡◌, ℕ, zero, suc, ◌+◌, ◌<◌, ◌≤◌, List, [], ◌∷◌, length, get_or, take, drop, set, sym, refl, ap, ◌∙◌, arith}
use borrow.Rule.Slice.PartMut.{put_mid}
use Rattle.std.specs.List.{zip, insert, remove}
use Rattle.std.proofs.lemmas.List.{take-take, length-take, length-drop, get_or-set_same, get_or-set_other}
use Rattle.node.specs.Node.{keys_of, words_of}
use Rattle.pages.proofs.Mid.{length_put_mid, get_d_below, part_same, part_below, part_above, part_set}

-- a page whose two rows and then its count have been written
abbrev pub after : List ℕ → List ℕ → List ℕ → ℕ → List ℕ
after p a b m = set (put_mid 257 255 (put_mid 2 255 p a) b) 0 m

pub first_length : (p a : List ℕ) → length p ≡ 512 → length a ≡ 255 → length (put_mid 2 255 p a) ≡ 512
first_length p a lp la = length_put_mid 2 255 p a (omega arith) la ∙ lp

module _ (p a b : List ℕ) (m : ℕ) (lp : length p ≡ 512) (la : length a ≡ 255) (lb : length b ≡ 255) where
  first : length (put_mid 2 255 p a) ≡ 512
  first = first_length p a lp la

  second : length (put_mid 257 255 (put_mid 2 255 p a) b) ≡ 512
  second = length_put_mid 257 255 (put_mid 2 255 p a) b (omega (arith, first)) lb ∙ first

  pub after_count : get_or (after p a b m) 0 0 ≡ m
  after_count = get_or-set_same _ 0 m 0 (omega (arith, second))

  pub after_level : get_or (after p a b m) 1 0 ≡ get_or p 1 0
  after_level = get_or-set_other (put_mid 257 255 (put_mid 2 255 p a) b) 0 1 m 0 (λ e. omega (arith, e)) ∙ get_d_below 257 255 (put_mid 2 255 p a) b (omega (arith, first)) lb 1 0 (omega arith) ∙ get_d_below 2 255 p a (omega arith) la 1 0 (omega arith)

  pub after_keys : (n : ℕ) → n ≤ 255 → take n (drop 2 (after p a b m)) ≡ take n a
  after_keys n h = part_set (put_mid 257 255 (put_mid 2 255 p a) b) 0 m 2 n (omega arith) ∙ part_below 257 255 (put_mid 2 255 p a) b (omega (arith, first)) lb 2 n (omega arith) ∙ part_same 2 255 p a (omega arith) la n h

  pub after_words : (n : ℕ) → n ≤ 255 → take n (drop 257 (after p a b m)) ≡ take n b
  after_words n h = part_set (put_mid 257 255 (put_mid 2 255 p a) b) 0 m 257 n (omega arith) ∙ part_same 257 255 (put_mid 2 255 p a) b (omega (arith, first)) lb n h

  -- what F makes of the n keys, and of the n words, are then the page's
  module _ (n : ℕ) (hn : n ≤ 255) (hm : m ≤ 255) (F : List ℕ → List ℕ) where
    pub keys_after : take m a ≡ F (take n (take 255 (drop 2 p))) → keys_of (after p a b m) ≡ F (take n (drop 2 p))
    keys_after e = ap (λ q. take q (drop 2 (after p a b m))) after_count ∙ after_keys m hm ∙ e ∙ ap F (take-take n 255 (drop 2 p) hn)

    pub words_after : take m b ≡ F (take n (take 255 (drop 257 (put_mid 2 255 p a)))) → words_of (after p a b m) ≡ F (take n (drop 257 p))
    words_after e = ap (λ q. take q (drop 257 (after p a b m))) after_count ∙ after_words m hm ∙ e ∙ ap F (take-take n 255 (drop 257 (put_mid 2 255 p a)) hn ∙ part_above 2 255 p a (omega arith) la 257 n (omega arith))

pub zipped_inserted : (i : ℕ) (ks ws : List ℕ) (k x : ℕ) → i ≤ length ks → i ≤ length ws → zip (insert ks i k) (insert ws i x) ≡ insert (zip ks ws) i (k, x)
zipped_inserted zero ks ws k x _ _ = refl
zipped_inserted (suc i) [] ws k x h _ = absurd (omega arith)
zipped_inserted (suc i) (q ∷ ks) [] k x _ h = absurd (omega arith)
zipped_inserted (suc i) (q ∷ ks) (y ∷ ws) k x h l = ap (λ r. (q, y) ∷ r) (zipped_inserted i ks ws k x (omega arith) (omega arith))

-- rows of a page have its count as their length
pub length_row : (p : List ℕ) (n s : ℕ) → length p ≡ 512 → n + s ≤ 512 → length (take n (drop s p)) ≡ n
length_row p n s lp h = simp (length-take, length-drop) (omega arith)

zipped_nil : (ks : List ℕ) → zip {X = ℕ} ks [] ≡ []
zipped_nil [] = refl
zipped_nil (k ∷ ks) = refl

pub zipped_removed : (i : ℕ) (ks ws : List ℕ) → zip (remove ks i) (remove ws i) ≡ remove (zip ks ws) i
zipped_removed zero [] [] = refl
zipped_removed zero [] (y ∷ ws) = refl
zipped_removed zero (q ∷ ks) [] = zipped_nil ks
zipped_removed zero (q ∷ ks) (y ∷ ws) = refl
zipped_removed (suc i) [] ws = refl
zipped_removed (suc i) (q ∷ ks) [] = refl
zipped_removed (suc i) (q ∷ ks) (y ∷ ws) = ap (λ r. (q, y) ∷ r) (zipped_removed i ks ws)

-- what the first h of a page's pairs are when its count becomes h
pub cut_row : (p : List ℕ) (h n s : ℕ) → 0 < s → h ≤ n → length p ≡ 512 → take (get_or (set p 0 h) 0 0) (drop s (set p 0 h)) ≡ take h (take n (drop s p))
cut_row p h n s hs le lp = ap (λ q. take q (drop s (set p 0 h))) (get_or-set_same p 0 h 0 (omega arith)) ∙ part_set p 0 h s h hs ∙ sym (take-take h n (drop s p) le)
