-- What reads as a number.
use Rattle.std.proofs.Common.{◌≡◌, ℕ, ◌+◌, ◌^◌, ◌<◌, ◌⊎◌, List, [], ◌∷◌, length, get_or, Some, None, Ok, Err, IsUtf8, decimal, Result, sym, refl, ap, ◌∙◌, inl, inr, arith}
use Rattle.std.specs.Result.{OkIff, result_ok}
use Rattle.std.specs.Str.Parse.{ParsesUnsigned, AllDigits, digits_value}
use Rattle.std.specs.Int.{IsInRange}
use Rattle.std.proofs.lemmas.Str.Parse.{IsNumeralModel, numerals_by_value, tells_digits, parse_plain, not_in_digits}
use Rattle.std.proofs.lemmas.Fmt.{digits_decimal, digits_value-decimal, decimal-digits_value, decimal_nonempty, IsAscii-decimal, first_decimal, decimal_digit}
use Rattle.std.proofs.lemmas.Bool.{cases_eq, cases_lt}
use Rattle.std.proofs.lemmas.Str.{IsUtf8-from_ascii}
use Rattle.script.specs.Text.{Reads}
use Rattle.script.proofs.Reading.{reads_none, reads_some}

own : IsNumeralModel (AllDigits 10) (digits_value 10)
own = numerals_by_value (AllDigits 10) tells_digits

-- no byte but a digit stands in a number
pub digits_only : (n c : ℕ) → n < 2 ^ 64 → (IsInRange 48 57 c → ⊥) → (i : ℕ) → i < length (decimal n) → get_or (decimal n) i 0 ≡ c → ⊥
digits_only n c fits odd i lt e = not_in_digits own (decimal n) c (digits_decimal own n fits) odd i lt e

-- it begins with a figure other than nought
abbrev pub Figure : List ℕ → Type 0
Figure w = IsInRange 49 57 (get_or w 0 0)

some_of : (w : List ℕ) → Figure w → 0 < length w
some_of [] f = absurd (omega (arith, f.0))
some_of (x ∷ xs) f = omega arith

figures : {E : Type 0} (w : List ℕ) (r : Result ℕ E) → Figure w → OkIff r (AllDigits 10 w × (0 < length w) × (digits_value 10 w < 2 ^ 64)) (digits_value 10 w) → Reads (λ n. n < 2 ^ 64) decimal w (result_ok r)
figures w (Ok x) f h =
    let same : x ≡ digits_value 10 w = h.1 in
    let text = decimal-digits_value own w h.0.0 (some_of w f) (λ e. absurd (omega (arith, f.0))) h.0.2 in
    reads_some (λ n. n < 2 ^ 64) decimal w x (omega (arith, h.0.2)) (sym text ∙ ap decimal (sym same))
    (λ n fits e. same ∙ ap (digits_value 10) e ∙ digits_value-decimal own n fits)
figures w (Err x) f h = reads_none (λ n. n < 2 ^ 64) decimal w (λ n fits e.
    h (rw e (digits_decimal own n fits), some_of w f, rw e (rw (digits_value-decimal own n fits) fits)))

pub reads_figures : {E : Type 0} (w : List ℕ) (r : Result ℕ E) → Figure w → ParsesUnsigned 64 10 w r → Reads (λ n. n < 2 ^ 64) decimal w (result_ok r)
reads_figures w r f h = figures w r f (parse_plain own 64 w r h (λ e. omega (arith, f.0)))

pub no_text : (w : List ℕ) → (IsUtf8 w → ⊥) → Reads (λ n. n < 2 ^ 64) decimal w None
no_text w odd = reads_none (λ n. n < 2 ^ 64) decimal w (λ n fits e. odd (rw e (IsUtf8-from_ascii (decimal n) (IsAscii-decimal n fits))))

-- a number is a lone nought, or begins with another figure
begins : (n : ℕ) → n < 2 ^ 64 → (decimal n ≡ 48 ∷ []) ⊎ Figure (decimal n)
begins n fits =
    elim (cases_eq n 0) [
      | inl z ↦ inl (decimal_digit n (omega arith) ∙ ap (λ x. (48 + x) ∷ []) z)
      | inr ne ↦
          let first = first_decimal n (omega arith) fits in
          elim (cases_lt 57 (get_or (decimal n) 0 0)) [
            | inl high ↦ absurd (digits_only n (get_or (decimal n) 0 0) fits (λ h. omega (arith, h.1)) 0 (decimal_nonempty n fits) refl)
            | inr low ↦ inr (omega arith, low)
          ]
    ]

only : (w : List ℕ) (x : ℕ) → length w ≡ 1 → get_or w 0 0 ≡ x → w ≡ x ∷ []
only [] x one first = absurd (omega arith)
only (y ∷ []) x one first = ap (λ z. z ∷ []) first
only (y ∷ (z ∷ zs)) x one first = absurd (omega arith)

pub nought : (w : List ℕ) → length w ≡ 1 → get_or w 0 0 ≡ 48 → Reads (λ n. n < 2 ^ 64) decimal w (Some 0)
nought w one first =
    let text : w ≡ decimal 0 = only w 48 one first ∙ sym (decimal_digit 0 (omega arith)) in
    reads_some (λ n. n < 2 ^ 64) decimal w 0 (omega arith) text (λ n fits e.
    let same : decimal 0 ≡ decimal n = sym text ∙ e in
    sym (digits_value-decimal own 0 (omega arith)) ∙ (ap (digits_value 10) same ∙ digits_value-decimal own n fits))

pub unbegun : (w : List ℕ) → (length w ≡ 1 → get_or w 0 0 ≡ 48 → ⊥) → (Figure w → ⊥) → Reads (λ n. n < 2 ^ 64) decimal w None
unbegun w lone figure =
    reads_none (λ n. n < 2 ^ 64) decimal w (λ n fits e. elim (begins n fits) [
      | inl nought ↦ lone (ap length (e ∙ nought)) (ap (λ t. get_or t 0 0) (e ∙ nought))
      | inr f ↦ figure (rw e f)
    ])
