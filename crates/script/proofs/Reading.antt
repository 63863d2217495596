-- What reads a text, and what doesn't.
use Rattle.std.proofs.Common.{◌≡◌, ℕ, List, Some, None, refl, ap, subst, arith}
use Rattle.std.specs.Prelude.{Result, Ok, Err, IsErr}
use Rattle.std.specs.Result.{result_ok}
use Rattle.std.proofs.lemmas.Bool.{false≢true}
use Rattle.script.specs.Text.{Reads}

pub not_some : {A : Type 0} {B : Type 0} (a : A) → None ≡ Some a → B
not_some a e = let z : ◌≡◌ {A = ℕ} 0 1 = cc in absurd (omega arith)

pub same_some : {A : Type 0} (a b : A) → Some a ≡ Some b → a ≡ b
same_some a b e = cc

pub reads_none : {A : Type 0} (Good : A → Type 0) (print : A → List ℕ) (text : List ℕ) → ((a : A) → Good a → text ≡ print a → ⊥) → Reads Good print text None
reads_none Good print text never = record { prints = λ a e. not_some a e; reads = λ a g e. absurd (never a g e) }

-- an error is no value
pub no_value : {A : Type 0} {E : Type 0} (r : Result A E) → IsErr r → result_ok r ≡ None
no_value (Ok a) e = absurd (false≢true e)
no_value (Err x) e = refl

-- it prints as the text, and nothing else does
pub reads_some : {A : Type 0} (Good : A → Type 0) (print : A → List ℕ) (text : List ℕ) (a : A) → Good a → text ≡ print a → ((b : A) → Good b → text ≡ print b → a ≡ b) → Reads Good print text (Some a)
reads_some {A} Good print text a g p only = record {
  prints = λ b e. let P : A → Type 0 = λ x. Good x × (text ≡ print x) in subst P (same_some a b e) (g, p);
  reads = λ b h e. ap Some (only b h e);
}

pub never_read : {A : Type 0} (Good : A → Type 0) (print : A → List ℕ) (text : List ℕ) → Reads Good print text None → (a : A) → Good a → text ≡ print a → ⊥
never_read Good print text r a g e = not_some a (r.reads a g e)

pub only_read : {A : Type 0} (Good : A → Type 0) (print : A → List ℕ) (text : List ℕ) (a : A) → Reads Good print text (Some a) → (b : A) → Good b → text ≡ print b → a ≡ b
only_read Good print text a r b g e = same_some a b (r.reads b g e)
