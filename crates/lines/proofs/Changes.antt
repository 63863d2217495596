-- Lines that are changed one after the other.
use Rattle.std.proofs.Common.{◌≡◌, ℕ, ◌+◌, ◌<◌, List, [], ◌∷◌, ◌++◌, map, length, get_or, take, drop, set, sym, refl, ap, subst, ◌∙◌, arith}
use Rattle.std.proofs.lemmas.List.{append_assoc, append-nil, get_or-drop, drop_more, drop-drop, drop-set-lt, take_more_set, drop_all, take_all}
use Rattle.lines.specs.declared.line.Line.{Line}
use Rattle.lines.specs.declared.line.Line.TheVariants.{Idle}
use Rattle.lines.specs.Changes.{ChangesTo}

-- One turn: those before i are done, the others are as they were. Whatever the rest is changed to, all is changed to that behind what is done.
module _ {F : Type 0} (R : F → Line → Line → F → Type 0) (first f : F) (xs ys : List Line) (i : ℕ) (low : i < length xs) (long : length ys ≡ length xs)
    (done : (zs : List Line) → ChangesTo R f (drop i xs) zs → ChangesTo R first xs (take i ys ++ zs)) (rest : drop i ys ≡ drop i xs) where
  same_line : get_or ys i Idle ≡ get_or xs i Idle
  same_line =
      let e : i + 0 ≡ i = omega arith in
      ap (λ m. get_or ys m Idle) (sym e) ∙ (sym (get_or-drop i ys 0 Idle) ∙ (ap (λ x. get_or x 0 Idle) rest ∙ (get_or-drop i xs 0 Idle ∙ ap (λ m. get_or xs m Idle) e)))

  pub turn : (x y : Line) (g : F) → x ≡ get_or ys i Idle → R f x y g
      → ((zs : List Line) → ChangesTo R g (drop (i + 1) xs) zs → ChangesTo R first xs (take (i + 1) (set ys i y) ++ zs)) × (drop (i + 1) (set ys i y) ≡ drop (i + 1) xs)
  turn x y g e step = (
    λ zs h.
        let m : drop i xs ≡ x ∷ drop (i + 1) xs = drop_more xs i Idle low ∙ ap (λ z. z ∷ drop (i + 1) xs) (sym (e ∙ same_line)) in
        let k : ChangesTo R f (drop i xs) (y ∷ zs) = rw m (y, zs, g, refl, step, h) in
        let t : take (i + 1) (set ys i y) ++ zs ≡ take i ys ++ (y ∷ zs) = ap (λ z. z ++ zs) (take_more_set ys i y (omega arith)) ∙ append_assoc (take i ys) (y ∷ []) zs in
        rw t (done (y ∷ zs) k),
    drop-set-lt (i + 1) ys i y (omega arith) ∙ (sym (drop-drop 1 i ys) ∙ (ap (drop 1) rest ∙ drop-drop 1 i xs)),
  )

-- all of them
pub all_done : {F : Type 0} (R : F → Line → Line → F → Type 0) (first f : F) (xs ys : List Line) (i : ℕ) → length xs ≡ i → length ys ≡ i
    → ((zs : List Line) → ChangesTo R f (drop i xs) zs → ChangesTo R first xs (take i ys ++ zs)) → ChangesTo R first xs ys
all_done R first f xs ys i e d done =
    let t : take i ys ++ [] ≡ ys = append-nil (take i ys) ∙ take_all i ys (omega arith) in
    rw t at (done [] (rw (drop_all i xs (omega arith)) refl))

-- where what makes the change keeps its state, each line becomes what h makes of it
pub map_from_changes : {F : Type 0} (R : F → Line → Line → F → Type 0) (h : Line → Line) (f : F) (xs ys : List Line) → ChangesTo R f xs ys
    → ((x y : Line) (g : F) → R f x y g → (g ≡ f) × (y ≡ h x)) → ys ≡ map h xs
map_from_changes R h f [] ys c step = c
map_from_changes R h f (x ∷ xs) ys (y, zs, g, e, s, c) step =
    let k = step x y g s in
    let d : ChangesTo R f xs zs = subst (λ q. ChangesTo R q xs zs) k.0 c in
    e ∙ (ap (λ q. q ∷ zs) k.1 ∙ ap (λ q. h x ∷ q) (map_from_changes R h f xs zs d step))
