-- A node's entries by the places of their words.
use Rattle.std.proofs.Common.{◌≡◌, ℕ, zero, suc, ◌+◌, ◌<◌, List, [], ◌∷◌, length, get_or, take, drop, map, sym, refl, ap, ◌∙◌, ap₂, arith}
use Rattle.std.specs.List.{zip}
use Rattle.std.proofs.lemmas.List.{get_or-take, get_or-drop, take-take}
use Rattle.std.proofs.lemmas.Slice.Zip.{firsts-zip}
use Rattle.node.specs.Node.{Contents, count_of, level_of, keys_of, words_of, pairs_of, contents_of, IsNode}
use Rattle.node.proofs.Rows.{length_row}

zipped_at : (ks ws : List ℕ) (j : ℕ) → j < length ks → j < length ws → get_or (zip ks ws) j (0, 0) ≡ (get_or ks j 0, get_or ws j 0)
zipped_at [] ws j h l = absurd (omega arith)
zipped_at (k ∷ ks) [] j h l = absurd (omega arith)
zipped_at (k ∷ ks) (w ∷ ws) zero h l = refl
zipped_at (k ∷ ks) (w ∷ ws) (suc j) h l = zipped_at ks ws j (omega arith) (omega arith)

zipped_length : (ks ws : List ℕ) → length ks ≡ length ws → length (zip ks ws) ≡ length ks
zipped_length [] ws h = refl
zipped_length (k ∷ ks) [] h = absurd (omega arith)
zipped_length (k ∷ ks) (w ∷ ws) h = ap suc (zipped_length ks ws (omega arith))

-- a node of this level with these entries
pub holds : (b : List ℕ) (l : ℕ) (es : List (ℕ × ℕ)) → level_of b ≡ l → pairs_of b ≡ es → ◌≡◌ {A = Contents} (contents_of b) (record { level = l; pairs = es })
holds b l es x y = ap₂ (λ (l : ℕ) (es : List (ℕ × ℕ)). record { level = l; pairs = es }) x y

module _ (b : List ℕ) (is : IsNode b) where
  pub keys_length : length (keys_of b) ≡ count_of b
  keys_length = length_row b (count_of b) 2 is.0 (omega arith)

  pub words_length : length (words_of b) ≡ count_of b
  words_length = length_row b (count_of b) 257 is.0 (omega arith)

  pub pairs_length : length (pairs_of b) ≡ count_of b
  pairs_length = zipped_length (keys_of b) (words_of b) (keys_length ∙ sym words_length) ∙ keys_length

  pub pairs_at_lem : (j : ℕ) → j < count_of b → get_or (pairs_of b) j (0, 0) ≡ (get_or b (2 + j) 0, get_or b (257 + j) 0)
  pairs_at_lem j h = zipped_at (keys_of b) (words_of b) j (omega (arith, keys_length)) (omega (arith, words_length))
      ∙ ap₂ (λ (x y : ℕ). (x, y)) (get_or-take (count_of b) (drop 2 b) j 0 h ∙ get_or-drop 2 b j 0) (get_or-take (count_of b) (drop 257 b) j 0 h ∙ get_or-drop 257 b j 0)

  pub keys_are : keys_of b ≡ map (λ (e : ℕ × ℕ). e.0) (pairs_of b)
  keys_are = sym (firsts-zip (keys_of b) (words_of b) (words_length ∙ sym keys_length))

-- how many entries a node has, by its count
pub sized : (b : List ℕ) (v : Contents) → IsNode b → contents_of b ≡ v → count_of b ≡ length v.pairs
sized b v is e = sym (pairs_length b is) ∙ ap (λ v. length v.pairs) e

-- entry i, by its words
pub entry_is : (b : List ℕ) (v : Contents) (i : ℕ) → IsNode b → contents_of b ≡ v → i < length v.pairs → (get_or b (2 + i) 0, get_or b (257 + i) 0) ≡ get_or v.pairs i (0, 0)
entry_is b v i is e h = sym (pairs_at_lem b is i (omega (arith, sized b v is e))) ∙ ap (λ v. get_or v.pairs i (0, 0)) e

pub keys_in : (b : List ℕ) (v : Contents) (n : ℕ) → IsNode b → contents_of b ≡ v → n ≡ length v.pairs → take n (take 255 (drop 2 b)) ≡ map (λ (e : ℕ × ℕ). e.0) v.pairs
keys_in b v n is e h =
    let z : n ≡ count_of b = omega (arith, sized b v is e) in
    take-take n 255 (drop 2 b) (omega arith) ∙ ap (λ n. take n (drop 2 b)) z ∙ keys_are b is ∙ ap (λ v. map (λ (e : ℕ × ℕ). e.0) v.pairs) e
