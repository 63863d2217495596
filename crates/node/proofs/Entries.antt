-- One entry of a node changed, or taken out.
use Rattle.std.proofs.Common.{◌≡◌, ℕ, zero, suc, ◌+◌, ◌<◌, ◌≤◌, List, [], ◌∷◌, length, get_or, take, drop, set, Some, None, Option, sym, refl, ap, ◌∙◌, ap₂, arith}
use lib.Seq.{take-set-lt}
use Rattle.std.specs.List.{zip}
use Rattle.std.proofs.lemmas.List.{set-set, get_or-set_same, get_or-set_other, length-set, drop-set-add, drop-set-lt, take-set-le}
use Rattle.node.specs.Node.{Contents, contents_of, count_of, level_of, keys_of, words_of, pairs_of, IsNode, Page, amended}
use Rattle.node.proofs.Words.{holds, sized, pairs_length, keys_length, words_length}

zipped_word : (i : ℕ) (ks ws : List ℕ) (x : ℕ) → length ks ≡ length ws → i < length ks → zip ks (set ws i x) ≡ set (zip ks ws) i ((get_or (zip ks ws) i (0, 0)).0, x)
zipped_word i [] ws x e h = absurd (omega arith)
zipped_word i (k ∷ ks) [] x e h = absurd (omega arith)
zipped_word zero (k ∷ ks) (w ∷ ws) x e h = refl
zipped_word (suc i) (k ∷ ks) (w ∷ ws) x e h = ap (λ r. (k, w) ∷ r) (zipped_word i ks ws x (omega arith) (omega arith))

zipped_key : (i : ℕ) (ks ws : List ℕ) (k : ℕ) → length ks ≡ length ws → i < length ks → zip (set ks i k) ws ≡ set (zip ks ws) i (k, (get_or (zip ks ws) i (0, 0)).1)
zipped_key i [] ws k e h = absurd (omega arith)
zipped_key i (x ∷ ks) [] k e h = absurd (omega arith)
zipped_key zero (x ∷ ks) (w ∷ ws) k e h = refl
zipped_key (suc i) (x ∷ ks) (w ∷ ws) k e h = ap (λ r. (x, w) ∷ r) (zipped_key i ks ws k (omega arith) (omega arith))

word_set : (b : List ℕ) (i x : ℕ) → IsNode b → i < count_of b → Page (set b (257 + i) x) (level_of b) (set (pairs_of b) i ((get_or (pairs_of b) i (0, 0)).0, x))
word_set b i x is h =
    let n = count_of b in
    let c : get_or (set b (257 + i) x) 0 0 ≡ n = get_or-set_other b (257 + i) 0 x 0 (λ z. omega (arith, z)) in
    let s : 257 + i ≡ 2 + (255 + i) = omega arith in
    let kk : keys_of (set b (257 + i) x) ≡ keys_of b = ap (λ m. take m (drop 2 (set b (257 + i) x))) c ∙ ap (λ j. take n (drop 2 (set b j x))) s ∙ ap (λ (r : List ℕ). take n r) (drop-set-add 2 b (255 + i) x) ∙ take-set-le n (drop 2 b) (255 + i) x (omega (arith, is.1)) in
    let ww : words_of (set b (257 + i) x) ≡ set (words_of b) i x = ap (λ m. take m (drop 257 (set b (257 + i) x))) c ∙ ap (λ (r : List ℕ). take n r) (drop-set-add 257 b i x) ∙ take-set-lt n (drop 257 b) i x h in
    record {
      is = (length-set b (257 + i) x ∙ is.0, omega (arith, c, is.1));
      level = get_or-set_other b (257 + i) 1 x 0 (λ z. omega (arith, z));
      pairs = ap₂ (λ (u v : List ℕ). zip u v) kk ww ∙ zipped_word i (keys_of b) (words_of b) x (keys_length b is ∙ sym (words_length b is)) (omega (arith, keys_length b is));
    }

key_set : (b : List ℕ) (i k : ℕ) → IsNode b → i < count_of b → Page (set b (2 + i) k) (level_of b) (set (pairs_of b) i (k, (get_or (pairs_of b) i (0, 0)).1))
key_set b i k is h =
    let n = count_of b in
    let c : get_or (set b (2 + i) k) 0 0 ≡ n = get_or-set_other b (2 + i) 0 k 0 (λ z. omega (arith, z)) in
    let kk : keys_of (set b (2 + i) k) ≡ set (keys_of b) i k = ap (λ m. take m (drop 2 (set b (2 + i) k))) c ∙ ap (λ (r : List ℕ). take n r) (drop-set-add 2 b i k) ∙ take-set-lt n (drop 2 b) i k h in
    let ww : words_of (set b (2 + i) k) ≡ words_of b = ap (λ m. take m (drop 257 (set b (2 + i) k))) c ∙ ap (λ (r : List ℕ). take n r) (drop-set-lt 257 b (2 + i) k (omega (arith, is.1))) in
    record {
      is = (length-set b (2 + i) k ∙ is.0, omega (arith, c, is.1));
      level = get_or-set_other b (2 + i) 1 k 0 (λ z. omega (arith, z));
      pairs = ap₂ (λ (u v : List ℕ). zip u v) kk ww ∙ zipped_key i (keys_of b) (words_of b) k (keys_length b is ∙ sym (words_length b is)) (omega (arith, keys_length b is));
    }

-- an entry put in the stead of another
entry_set : (b : List ℕ) (i k x : ℕ) → IsNode b → i < count_of b → Page (set (set b (2 + i) k) (257 + i) x) (level_of b) (set (pairs_of b) i (k, x))
entry_set b i k x is h =
    let es = pairs_of b in
    let b' = set b (2 + i) k in
    let y = key_set b i k is h in
    let n : count_of b' ≡ count_of b = get_or-set_other b (2 + i) 0 k 0 (λ z. omega (arith, z)) in
    let w = word_set b' i x y.is (omega arith) in
    let z : (get_or (pairs_of b') i (0, 0)).0 ≡ k = ap (λ (es : List (ℕ × ℕ)). (get_or es i (0, 0)).0) y.pairs ∙ ap (λ (e : ℕ × ℕ). e.0) (get_or-set_same es i (k, (get_or es i (0, 0)).1) (0, 0) (omega (arith, pairs_length b is))) in
    record {
      is = w.is;
      level = w.level ∙ y.level;
      pairs = w.pairs ∙ ap₂ (λ (es : List (ℕ × ℕ)) (k : ℕ). set es i (k, x)) y.pairs z ∙ set-set es i (k, (get_or es i (0, 0)).1) (k, x);
    }

pub entry_put : (b : List ℕ) (v : Contents) (i : ℕ) (e : ℕ × ℕ) → IsNode b → contents_of b ≡ v → i < length v.pairs → contents_of (set (set b (2 + i) e.0) (257 + i) e.1) ≡ record v { pairs = set v.pairs i e }
entry_put b v i e is z h =
    let y = entry_set b i e.0 e.1 is (omega (arith, sized b v is z)) in
    holds (set (set b (2 + i) e.0) (257 + i) e.1) v.level (set v.pairs i e) (y.level ∙ ap (λ v. v.level) z) (y.pairs ∙ ap (λ v. set v.pairs i e) z)

set_two : (j : ℕ) (es : List (ℕ × ℕ)) (k : ℕ) → suc j < length es → set es (suc j) (k, (get_or es (suc j) (0, 0)).1) ≡ amended es j (Some k)
set_two j [] k h = absurd (omega arith)
set_two zero (e ∷ []) k h = absurd (omega arith)
set_two zero (e ∷ (f ∷ es)) k h = refl
set_two (suc j) (e ∷ es) k h = ap (λ r. e ∷ r) (set_two j es k (omega arith))

pub amended_key : (j : ℕ) (es : List (ℕ × ℕ)) (k : ℕ) (e : ℕ × ℕ) → j + 1 < length es → e ≡ get_or es (j + 1) (0, 0) → set es (j + 1) (k, e.1) ≡ amended es j (Some k)
amended_key j es k e h z =
    let s : j + 1 ≡ suc j = omega arith in
    ap (λ (e : ℕ × ℕ). set es (j + 1) (k, e.1)) z ∙ ap (λ n. set es n (k, (get_or es n (0, 0)).1)) s ∙ set_two j es k (omega arith)

-- how many are left
pub amended_length : (j : ℕ) (es : List (ℕ × ℕ)) (o : Option ℕ) → suc j < length es → length es ≤ suc (length (amended es j o))
amended_length j [] o h = absurd (omega arith)
amended_length zero (e ∷ []) o h = absurd (omega arith)
amended_length zero (e ∷ (f ∷ es)) None h = omega arith
amended_length zero (e ∷ (f ∷ es)) (Some k) h = omega arith
amended_length (suc j) (e ∷ es) o h = omega (arith, amended_length j es o (omega arith))
