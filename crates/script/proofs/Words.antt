-- Where the first word of a text ends.
use Rattle.std.proofs.Common.{◌≡◌, ℕ, ◌+◌, ◌-◌, ◌^◌, ◌<◌, List, ◌++◌, length, get_or, take, drop, decimal, sym, ap, ◌∙◌, inl, inr, add-zero, arith, length-append, length-drop}
use Rattle.std.proofs.lemmas.List.{get_or_append_left, get_or-append-add, take_at, drop_at, take_all}
use Rattle.std.proofs.lemmas.Bool.{cases_order}
use Rattle.script.specs.Words.{WordEnd}
use Rattle.script.proofs.Figures.{digits_only}

abbrev pub Spaceless : List ℕ → Type 0
Spaceless w = (k : ℕ) → k < length w → get_or w k 0 ≡ 32 → ⊥

-- nothing, or a space first
abbrev pub Spaced : List ℕ → Type 0
Spaced t = 0 < length t → get_or t 0 0 ≡ 32

pub spaceless_number : (n : ℕ) → n < 2 ^ 64 → Spaceless (decimal n)
spaceless_number n fits = digits_only n 32 fits (λ h. omega arith)

at_start : (w t : List ℕ) → get_or (w ++ t) (length w) 0 ≡ get_or t 0 0
at_start w t = rw (← add-zero (length w)) (get_or-append-add w t 0 0)

end_is : (text w t : List ℕ) (e : ℕ) → WordEnd text e → text ≡ w ++ t → Spaceless w → Spaced t → length w ≡ e
end_is text w t e h p clean sp =
    let len : length text ≡ length w + length t = ap length p ∙ length-append w t in
    elim (cases_order (length w) e) [
      | inl same ↦ same
      | inr rest ↦ elim rest [
        | inl lt ↦ absurd (h.before (length w) lt (ap (λ x. get_or x (length w) 0) p ∙ (at_start w t ∙ sp (omega (arith, h.within)))))
        | inr gt ↦ absurd (clean e gt (sym (get_or_append_left w t 0 e gt) ∙ (ap (λ x. get_or x e 0) (sym p) ∙ h.stops (omega arith))))
      ]
    ]

-- the word and what stands behind it
pub word_is : (text w t : List ℕ) (e : ℕ) → WordEnd text e → text ≡ w ++ t → Spaceless w → Spaced t → (take e text ≡ w) × (drop e text ≡ t)
word_is text w t e h p clean sp =
    let same = end_is text w t e h p clean sp in
    (ap (take e) p ∙ take_at w t e same, ap (drop e) p ∙ drop_at w t e same)

pub back_is : (s : List ℕ) (i : ℕ) → take (length s - i) (drop i s) ≡ drop i s
back_is s i = take_all (length s - i) (drop i s) (omega (arith, length-drop i s))
