-- What is turned away, and what is told a refusal.
use Rattle.std.proofs.Common.{◌≡◌, ℕ, Bool, true, false, not, ◌&&◌, ◌||◌, T, eqb, ltb, List, [], ◌∷◌, length, Some, None, sym, ap, ◌∙◌, inl, inr, arith}
use Rattle.std.proofs.lemmas.Bool.{cases_Bool, or_parts, ltb-false}
use Rattle.deals.specs.declared.Op.{Op}
use Rattle.deals.specs.declared.Op.TheVariants.{Back}
use Rattle.deals.specs.declared.Answer.TheVariants.{Missing, Word, No}
use Rattle.deals.specs.declared.refusals.Refusal.TheVariants.{NoMark, TooLong, NotBuilt}
use Rattle.deals.specs.Deals.{Book, Said, step, word_of, pair_of, leaves, marks_of, ends, comes_to}
use Rattle.deals.specs.Refusals.{Refuses, not_built, too_long, no_mark, goes_on}

clash : ◌≡◌ {A = ℕ} 0 1 → ⊥
clash e = omega arith

-- only a Back is told a refusal
word_told : (k n : ℕ) (b : Book) → word_of k b ≡ No n → ⊥
unfolding word_of
word_told k n [] e = clash (cc)
word_told k n (p ∷ ps) e =
    elim (cases_Bool (eqb p.key k)) [
      | inl t ↦ let f : Word p.word ≡ No n = rw t at e in clash (cc)
      | inr t ↦ let f : Missing ≡ No n = rw t at e in clash (cc)
    ]

pair_told : (n : ℕ) (b : Book) → pair_of b ≡ No n → ⊥
unfolding pair_of
pair_told n [] e = clash (cc)
pair_told n (p ∷ ps) e = clash (cc)

no_told : (o : Op) (b : Book) (ms : List Book) (n : ℕ) → ((j : ℕ) → o ≡ Back j → ltb j (length ms) ≡ true) → (step o b ms).answer ≡ No n → ⊥
unfolding step
no_told o b ms n h e = grind (arith, word_told, pair_told)

back_told : (o : Op) (j : ℕ) (b : Book) (ms : List Book) → o ≡ Back j → ltb j (length ms) ≡ false → (step o b ms).answer ≡ No 4
unfolding step
back_told o j b ms e h = rw (e, h)

holds : (b : Bool) → b ≡ true → T b
holds b e = rw e tt

fails : (b : Bool) → b ≡ false → T (not b)
fails b e = rw e tt

pub refuses_unbuilt : (can : Op → Bool) (o : Op) (d : List Said) → can o ≡ false → Refuses can o d (Some NotBuilt)
refuses_unbuilt can o d e = not_built (fails (can o) e)

pub refuses_long : (can : Op → Bool) (o : Op) (d : List Said) → can o ≡ true → comes_to can o d ≡ false → Refuses can o d (Some TooLong)
refuses_long can o d e f =
    let parts = or_parts (ends o) (ltb (length d) 1024) (sym (ap (λ x. x && (ends o || ltb (length d) 1024)) e) ∙ f) in
    too_long (holds (can o) e) (fails (ends o) parts.0) (ltb-false (length d) 1024 parts.1)

pub refuses_mark : (can : Op → Bool) (o : Op) (d : List Said) (j m : ℕ) → comes_to can o d ≡ true → o ≡ Back j → ((b : Book) → m ≡ length (marks_of d b [])) → ltb j m ≡ false → Refuses can o d (Some NoMark)
refuses_mark can o d j m e q is h = no_mark (holds (comes_to can o d) e) (λ b. back_told o j (leaves d b []) (marks_of d b []) q (ap (ltb j) (sym (is b)) ∙ h))

pub refuses_back : (can : Op → Bool) (o : Op) (d : List Said) (j m : ℕ) → comes_to can o d ≡ true → o ≡ Back j → ((b : Book) → m ≡ length (marks_of d b [])) → ltb j m ≡ true → Refuses can o d None
refuses_back can o d j m e q is h =
    goes_on (holds (comes_to can o d) e) (λ b n. no_told o (leaves d b []) (marks_of d b []) n (λ i p. let same : i ≡ j = cc in ap (λ x. ltb x (length (marks_of d b []))) same ∙ ap (ltb j) (sym (is b)) ∙ h))

pub refuses_none : (can : Op → Bool) (o : Op) (d : List Said) → comes_to can o d ≡ true → ((j : ℕ) → o ≡ Back j → ⊥) → Refuses can o d None
refuses_none can o d e h = goes_on (holds (comes_to can o d) e) (λ b n. no_told o (leaves d b []) (marks_of d b []) n (λ j p. absurd (h j p)))
