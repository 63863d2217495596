-- Entries in two halves, one of which takes one more; and one row of entries behind another.
use Rattle.std.proofs.Common.{◌≡◌, ℕ, zero, suc, ◌-◌, ◌≤◌, List, [], ◌∷◌, ◌++◌, length, take, drop, sym, refl, ap, ◌∙◌, arith}
use Rattle.std.specs.List.{zip, insert}
use Rattle.std.proofs.lemmas.List.{take-append-drop, length-take-le, length-drop}
use Rattle.std.proofs.lemmas.List.Edits.{insert-append_left, insert-append_right, length-insert}
use Rattle.node.specs.Node.{Shares}

pub zipped_take : (h : ℕ) (ks ws : List ℕ) → zip (take h ks) (take h ws) ≡ take h (zip ks ws)
zipped_take zero ks ws = refl
zipped_take (suc h) [] ws = refl
zipped_take (suc h) (k ∷ ks) [] = refl
zipped_take (suc h) (k ∷ ks) (w ∷ ws) = ap (λ r. (k, w) ∷ r) (zipped_take h ks ws)

zipped_none : (ks : List ℕ) → zip {X = ℕ} ks [] ≡ []
zipped_none [] = refl
zipped_none (k ∷ ks) = refl

pub zipped_drop : (h : ℕ) (ks ws : List ℕ) → zip (drop h ks) (drop h ws) ≡ drop h (zip ks ws)
zipped_drop zero ks ws = refl
zipped_drop (suc h) [] ws = refl
zipped_drop (suc h) (k ∷ ks) [] = zipped_none (drop h ks)
zipped_drop (suc h) (k ∷ ks) (w ∷ ws) = zipped_drop h ks ws

pub zipped_append : (ks ws ks' ws' : List ℕ) → length ks ≡ length ws → zip (ks ++ ks') (ws ++ ws') ≡ zip ks ws ++ zip ks' ws'
zipped_append [] [] ks' ws' h = refl
zipped_append [] (w ∷ ws) ks' ws' h = absurd (omega arith)
zipped_append (k ∷ ks) [] ks' ws' h = absurd (omega arith)
zipped_append (k ∷ ks) (w ∷ ws) ks' ws' h = ap (λ r. (k, w) ∷ r) (zipped_append ks ws ks' ws' (omega arith))

-- the entry goes into the first half
pub first_half : (l : ℕ) (es : List (ℕ × ℕ)) (i : ℕ) (e : ℕ × ℕ) → length es ≡ 255 → i ≤ 127 →
    Shares (record { level = l; pairs = insert (take 127 es) i e }) (record { level = l; pairs = drop 127 es }) l (insert es i e)
first_half l es i e n h =
    let a : length (take 127 es) ≡ 127 = length-take-le 127 es (omega arith) in
    let c : length (drop 127 es) ≡ 128 = simp length-drop (omega arith) in
    record {
      level = refl;
      level' = refl;
      pairs = sym (insert-append_left (take 127 es) (drop 127 es) i e (omega arith)) ∙ ap (λ (u : List (ℕ × ℕ)). insert u i e) (take-append-drop 127 es);
      full = omega (arith, length-insert (take 127 es) i e (omega arith));
      full' = omega arith;
    }

-- the entry goes into the later half
pub later_half : (l : ℕ) (es : List (ℕ × ℕ)) (i : ℕ) (e : ℕ × ℕ) → length es ≡ 255 → 128 ≤ i → i ≤ 255 →
    Shares (record { level = l; pairs = take 128 es }) (record { level = l; pairs = insert (drop 128 es) (i - 128) e }) l (insert es i e)
later_half l es i e n h g =
    let a : length (take 128 es) ≡ 128 = length-take-le 128 es (omega arith) in
    let c : length (drop 128 es) ≡ 127 = simp length-drop (omega arith) in
    record {
      level = refl;
      level' = refl;
      pairs = sym (insert-append_right (take 128 es) (drop 128 es) 128 i e a h) ∙ ap (λ (u : List (ℕ × ℕ)). insert u i e) (take-append-drop 128 es);
      full = omega arith;
      full' = omega (arith, length-insert (drop 128 es) (i - 128) e (omega arith));
    }
