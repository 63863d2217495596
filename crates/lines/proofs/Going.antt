-- The way back, line by line; and the marks that stand then.
use Rattle.std.proofs.Common.{◌≡◌, ℕ, zero, suc, ◌-◌, min, Bool, true, false, List, [], ◌∷◌, length, sym, refl, ap, ◌∙◌, arith}
use Rattle.std.specs.List.{filter}
use Rattle.std.proofs.lemmas.Bool.{ne_eqb}
use Rattle.lines.specs.declared.line.Line.{Line}
use Rattle.lines.specs.declared.line.Line.TheVariants.{Idle, Wrote, Cleared, Stale, Read, Scanned, Marked}
use Rattle.lines.specs.Changes.{ChangesTo}
use Rattle.lines.specs.Marks.{mark_of, marks_in, backed, line_back, left_back}

all_stay : (n : ℕ) → suc n - 0 ≡ suc n
all_stay n = omega arith

back_line : (n : ℕ) (l : Line) (ls : List Line) → backed n (l ∷ ls) ≡ line_back n l ∷ backed (left_back n l) ls
back_line zero l ls = let e : zero - mark_of l ≡ zero = omega arith in rw e
back_line (suc n) Idle ls = rw (ne_eqb (suc n) 0 (omega arith), all_stay n)
back_line (suc n) (Wrote k x) ls = rw (ne_eqb (suc n) 0 (omega arith), all_stay n)
back_line (suc n) (Cleared k s) ls = rw (ne_eqb (suc n) 0 (omega arith), all_stay n)
back_line (suc n) (Stale k) ls = rw (ne_eqb (suc n) 0 (omega arith), all_stay n)
back_line (suc n) (Read k) ls = rw (ne_eqb (suc n) 0 (omega arith), all_stay n)
back_line (suc n) (Scanned k q) ls = rw (ne_eqb (suc n) 0 (omega arith), all_stay n)
back_line (suc n) Marked ls = let e : suc n - 1 ≡ n = omega arith in rw (ne_eqb (suc n) 0 (omega arith), e)

-- so many marks stand then
pub marks_back : (n : ℕ) (ls : List Line) → marks_in (backed n ls) ≡ min n (marks_in ls)
marks_back n [] = omega arith
marks_back zero (Idle ∷ ls) = omega (arith, marks_back zero ls)
marks_back zero (Wrote k x ∷ ls) = omega (arith, marks_back zero ls)
marks_back zero (Cleared k s ∷ ls) = omega (arith, marks_back zero ls)
marks_back zero (Stale k ∷ ls) = omega (arith, marks_back zero ls)
marks_back zero (Read k ∷ ls) = omega (arith, marks_back zero ls)
marks_back zero (Scanned k q ∷ ls) = omega (arith, marks_back zero ls)
marks_back zero (Marked ∷ ls) = omega (arith, marks_back zero ls)
marks_back (suc n) (Idle ∷ ls) = omega (arith, marks_back (suc n) ls)
marks_back (suc n) (Wrote k x ∷ ls) = omega (arith, marks_back (suc n) ls)
marks_back (suc n) (Cleared k s ∷ ls) = omega (arith, marks_back (suc n) ls)
marks_back (suc n) (Stale k ∷ ls) = omega (arith, marks_back (suc n) ls)
marks_back (suc n) (Read k ∷ ls) = omega (arith, marks_back (suc n) ls)
marks_back (suc n) (Scanned k q ∷ ls) = omega (arith, marks_back (suc n) ls)
marks_back (suc n) (Marked ∷ ls) = omega (arith, marks_back n ls)

-- a change that makes of each line what goes back, where left reads how many marks stay from here on
pub backed_from_changes : {F : Type 0} (R : F → Line → Line → F → Type 0) (left : F → ℕ) → ((f : F) (x y : Line) (g : F) → R f x y g → (y ≡ line_back (left f) x) × (left g ≡ left_back (left f) x))
    → (f : F) (xs ys : List Line) → ChangesTo R f xs ys → ys ≡ backed (left f) xs
backed_from_changes R left step f [] ys c = c
backed_from_changes R left step f (x ∷ xs) ys (y, zs, g, e, s, c) =
    let k = step f x y g s in
    e ∙ (ap (λ q. q ∷ zs) k.0 ∙ (ap (λ q. line_back (left f) x ∷ q) (backed_from_changes R left step g xs zs c ∙ ap (λ n. backed n xs) k.1) ∙ sym (back_line (left f) x xs)))

-- the marks that stand, counted
abbrev pub is_mark : Line → Bool
is_mark Idle = false
is_mark (Wrote k x) = false
is_mark (Cleared k s) = false
is_mark (Stale k) = false
is_mark (Read k) = false
is_mark (Scanned k q) = false
is_mark Marked = true

pub marks_counted : (ls : List Line) → length (filter is_mark ls) ≡ marks_in ls
marks_counted [] = refl
marks_counted (Idle ∷ ls) = omega (arith, marks_counted ls)
marks_counted (Wrote k x ∷ ls) = omega (arith, marks_counted ls)
marks_counted (Cleared k s ∷ ls) = omega (arith, marks_counted ls)
marks_counted (Stale k ∷ ls) = omega (arith, marks_counted ls)
marks_counted (Read k ∷ ls) = omega (arith, marks_counted ls)
marks_counted (Scanned k q ∷ ls) = omega (arith, marks_counted ls)
marks_counted (Marked ∷ ls) = omega (arith, marks_counted ls)
