-- Each verb has a spelling of its own.
use Rattle.std.proofs.Common.{◌≡◌, ℕ, zero, suc, ◌^◌, ◌<◌, Bool, true, false, ◌&&◌, ltb, List, [], ◌∷◌, length, get_or, decimal, sym, refl, ap, arith, ltb-true}
use Rattle.std.proofs.lemmas.Fmt.{decimal_nonempty}
use Rattle.std.proofs.lemmas.Bool.{both_ways}
use Rattle.script.proofs.Figures.{digits_only}
use Rattle.script.proofs.Words.{Spaceless}
use Rattle.script.specs.declared.line.Verb.{Verb}
use Rattle.script.specs.declared.line.Verb.TheVariants.{Get}
use Rattle.script.specs.Order.{verb_text}

-- all letters, which come after the digits
abbrev lettered : List ℕ → Bool
lettered [] = true
lettered (x ∷ xs) = ltb 57 x && lettered xs

both_true : (x y : Bool) → (x && y) ≡ true → (x ≡ true) × (y ≡ true)
both_true true y e = (refl, e)
both_true false y e = absurd (both_ways false refl e)

lettered_at : (w : List ℕ) → lettered w ≡ true → (k : ℕ) → k < length w → 57 < get_or w k 0
lettered_at [] e k lt = absurd (omega arith)
lettered_at (x ∷ xs) e zero lt = ltb-true 57 x (both_true (ltb 57 x) (lettered xs) e).0
lettered_at (x ∷ xs) e (suc k) lt = lettered_at xs (both_true (ltb 57 x) (lettered xs) e).1 k (omega arith)

lettered_verb : (v : Verb) → lettered (verb_text v) ≡ true
lettered_verb Get = refl
lettered_verb v = refl

pub spaceless_verb : (v : Verb) → Spaceless (verb_text v)
spaceless_verb v k lt e = let after = lettered_at (verb_text v) (lettered_verb v) k lt in omega arith

pub verb_no_number : (v : Verb) (n : ℕ) → n < 2 ^ 64 → verb_text v ≡ decimal n → ⊥
verb_no_number v n fits e =
    let some = decimal_nonempty n fits in
    let same = ap length e in
    let after = lettered_at (verb_text v) (lettered_verb v) 0 (omega arith) in
    digits_only n (get_or (verb_text v) 0 0) fits (λ h. omega (arith, h.1)) 0 some (ap (λ t. get_or t 0 0) (sym e))
