-- A node whose two rows and then its count were written.
use Rattle.std.proofs.Common.{◌≡◌, ℕ, ◌+◌, ◌-◌, ◌<◌, ◌≤◌, List, ◌++◌, length, take, drop, set, sym, refl, ap, ◌∙◌, ap₂, arith}
use borrow.Rule.Slice.PartMut.{put_mid}
use Rattle.std.specs.List.{zip, insert, remove}
use Rattle.std.proofs.lemmas.List.{get_or-set_other, get_or-set_same, length-set, take-take, drop-take, length-take, length-drop}
use Rattle.node.specs.Node.{Contents, contents_of, count_of, level_of, keys_of, words_of, IsNode}
use Rattle.node.proofs.Rows.{after, after_level, keys_after, words_after, zipped_inserted, zipped_removed, cut_row, length_row}
use Rattle.node.proofs.Words.{holds, sized, keys_length, words_length}
use Rattle.node.proofs.Halves.{zipped_take, zipped_drop, zipped_append}

module _ (p : List ℕ) (v : Contents) (is : IsNode p) (z : contents_of p ≡ v) (n : ℕ) (hn : n ≡ length v.pairs) where
  count : count_of p ≡ n
  count = omega (arith, sized p v is z)

  module _ (a b : List ℕ) (la : length a ≡ 255) (lb : length b ≡ 255) where
    -- F made the keys, and G the words
    written : (m : ℕ) (F G : List ℕ → List ℕ) (es : List (ℕ × ℕ)) → m ≤ 255 → take m a ≡ F (take n (take 255 (drop 2 p))) → take m b ≡ G (take n (take 255 (drop 257 (put_mid 2 255 p a)))) →
        zip (F (keys_of p)) (G (words_of p)) ≡ es → contents_of (after p a b m) ≡ record v { pairs = es }
    written m F G es hm x y w =
        let few : n ≤ 255 = omega (arith, count) in
        holds (after p a b m) v.level es (after_level p a b m is.0 la lb ∙ ap (λ v. v.level) z)
        (ap₂ (λ (ks ws : List ℕ). zip ks ws) (keys_after p a b m is.0 la lb n few hm F x ∙ ap (λ n. F (take n (drop 2 p))) (sym count)) (words_after p a b m is.0 la lb n few hm G y ∙ ap (λ n. G (take n (drop 257 p))) (sym count)) ∙ w)

    pub inserted : (i : ℕ) (e : ℕ × ℕ) → n < 255 → i ≤ n → take (n + 1) a ≡ insert (take n (take 255 (drop 2 p))) i e.0 → take (n + 1) b ≡ insert (take n (take 255 (drop 257 (put_mid 2 255 p a)))) i e.1 →
        contents_of (after p a b (n + 1)) ≡ record v { pairs = insert v.pairs i e }
    inserted i e room here x y = written (n + 1) (λ r. insert r i e.0) (λ r. insert r i e.1) (insert v.pairs i e) (omega arith) x y
        (zipped_inserted i (keys_of p) (words_of p) e.0 e.1 (omega (arith, count, keys_length p is)) (omega (arith, count, words_length p is)) ∙ ap (λ v. insert v.pairs i e) z)

    pub removed : (i : ℕ) → take (n - 1) a ≡ remove (take n (take 255 (drop 2 p))) i → take (n - 1) b ≡ remove (take n (take 255 (drop 257 (put_mid 2 255 p a)))) i →
        contents_of (after p a b (n - 1)) ≡ record v { pairs = remove v.pairs i }
    removed i x y = written (n - 1) (λ r. remove r i) (λ r. remove r i) (remove v.pairs i) (omega (arith, count)) x y (zipped_removed i (keys_of p) (words_of p) ∙ ap (λ v. remove v.pairs i) z)

    -- with the entries of q behind
    pub appended : (q : List ℕ) (w : Contents) (m : ℕ) → IsNode q → contents_of q ≡ w → m ≡ length w.pairs → n + m ≤ 255 →
        take (n + length (take m (take 255 (drop 2 q)))) a ≡ take n (take 255 (drop 2 p)) ++ take m (take 255 (drop 2 q)) →
        take (n + length (take m (take 255 (drop 257 q)))) b ≡ take n (take 255 (drop 257 (put_mid 2 255 p a))) ++ take m (take 255 (drop 257 q)) →
        contents_of (after p a b (n + m)) ≡ record v { pairs = v.pairs ++ w.pairs }
    appended q w m is' z' hm room x y =
        let k : count_of q ≡ m = omega (arith, sized q w is' z') in
        let ks : take m (take 255 (drop 2 q)) ≡ keys_of q = take-take m 255 (drop 2 q) (omega arith) ∙ ap (λ m. take m (drop 2 q)) (sym k) in
        let ws : take m (take 255 (drop 257 q)) ≡ words_of q = take-take m 255 (drop 257 q) (omega arith) ∙ ap (λ m. take m (drop 257 q)) (sym k) in
        let lk : length (take m (take 255 (drop 2 q))) ≡ m = ap (λ (r : List ℕ). length r) ks ∙ keys_length q is' ∙ k in
        let lw : length (take m (take 255 (drop 257 q))) ≡ m = ap (λ (r : List ℕ). length r) ws ∙ words_length q is' ∙ k in
        written (n + m) (λ r. r ++ keys_of q) (λ r. r ++ words_of q) (v.pairs ++ w.pairs) room
        (ap (λ j. take (n + j) a) (sym lk) ∙ x ∙ ap (λ (r : List ℕ). take n (take 255 (drop 2 p)) ++ r) ks) (ap (λ j. take (n + j) b) (sym lw) ∙ y ∙ ap (λ (r : List ℕ). take n (take 255 (drop 257 (put_mid 2 255 p a))) ++ r) ws)
        (zipped_append (keys_of p) (words_of p) (keys_of q) (words_of q) (keys_length p is ∙ sym (words_length p is))
        ∙ ap₂ (λ (es fs : List (ℕ × ℕ)). es ++ fs) (ap (λ v. v.pairs) z) (ap (λ w. w.pairs) z'))

  -- only the first h are left
  pub shortened : (h : ℕ) → h ≤ n → contents_of (set p 0 h) ≡ record v { pairs = take h v.pairs }
  shortened h le = holds (set p 0 h) v.level (take h v.pairs) (get_or-set_other p 0 1 h 0 (λ e. omega (arith, e)) ∙ ap (λ v. v.level) z)
      (ap₂ (λ (ks ws : List ℕ). zip ks ws) (cut_row p h (count_of p) 2 (omega arith) (omega (arith, count)) is.0) (cut_row p h (count_of p) 257 (omega arith) (omega (arith, count)) is.0)
      ∙ zipped_take h (keys_of p) (words_of p) ∙ ap (λ v. take h v.pairs) z)

  row_rest : (h s : ℕ) → h ≤ n → take (n - h) (drop h (take 255 (drop s p))) ≡ drop h (take n (drop s p))
  row_rest h s le =
      let e : h + (n - h) ≡ n = omega arith in
      sym (drop-take h (n - h) (take 255 (drop s p))) ∙ ap (λ n. drop h (take n (take 255 (drop s p)))) e ∙ ap (λ (r : List ℕ). drop h r) (take-take n 255 (drop s p) (omega (arith, count)))

-- the entries from h on were written to another node
pub moved : (p : List ℕ) (v : Contents) (n h : ℕ) → IsNode p → contents_of p ≡ v → n ≡ length v.pairs → h ≤ n →
    (q : List ℕ) → IsNode q → level_of q ≡ level_of p → (a b : List ℕ) → length a ≡ 255 → length b ≡ 255 →
    take (0 + length (take (n - h) (drop h (take 255 (drop 2 p))))) a ≡ take (n - h) (drop h (take 255 (drop 2 p))) →
    take (0 + length (take (n - h) (drop h (take 255 (drop 257 p))))) b ≡ take (n - h) (drop h (take 255 (drop 257 p))) →
    contents_of (after q a b (n - h)) ≡ record v { pairs = drop h v.pairs }
moved p v n h is z hn le q is' lv a b la lb x y =
    let few : n ≤ 255 = omega (arith, count p v is z n hn) in
    let rk = row_rest p v is z n hn h 2 le in
    let rw' = row_rest p v is z n hn h 257 le in
    let k : 0 + length (take (n - h) (drop h (take 255 (drop 2 p)))) ≡ n - h = simp (length-take, length-drop) (omega (arith, length_row p 255 2 is.0 (omega arith))) in
    let w : 0 + length (take (n - h) (drop h (take 255 (drop 257 p)))) ≡ n - h = simp (length-take, length-drop) (omega (arith, length_row p 255 257 is.0 (omega arith))) in
    written q (contents_of q) is' refl (length (contents_of q).pairs) refl a b la lb (n - h) (λ _. drop h (take n (drop 2 p))) (λ _. drop h (take n (drop 257 p))) (drop h v.pairs) (omega arith)
    (ap (λ j. take j a) (sym k) ∙ x ∙ rk) (ap (λ j. take j b) (sym w) ∙ y ∙ rw')
    (ap (λ n. zip (drop h (take n (drop 2 p))) (drop h (take n (drop 257 p)))) (sym (count p v is z n hn)) ∙ zipped_drop h (keys_of p) (words_of p) ∙ ap (λ v. drop h v.pairs) z)
    ∙ ap (λ (l : ℕ). record { level = l; pairs = drop h v.pairs }) (lv ∙ ap (λ v. v.level) z)

-- the level was written
pub leveled : (q : List ℕ) (l : ℕ) → IsNode q → IsNode (set q 1 l) × (level_of (set q 1 l) ≡ l)
leveled q l is = ((length-set q 1 l ∙ is.0, omega (arith, get_or-set_other q 1 0 l 0 (λ e. omega (arith, e)))), get_or-set_same q 1 l 0 (omega arith))
