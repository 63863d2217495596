-- What the statements say of an asking of the disk, as the store says it.
-- Assumes nothing.
use Rattle.std.proofs.Common.{◌≡◌, ℕ, Bool, true, false, T, eqb, ◌⊎◌, List, ◌∷◌, refl, subst, inr, arith}
use mathlib.Core.List.Memᴰ
use mathlib.Core.List.{Memᴰ}
use Rattle.std.proofs.lemmas.Bool.{ne_eqb, eq-eqb, cond-true, cond-false}
use Rattle.deals.specs.Disk.{Disk, at, Within, Reading, Writing, Syncing, Back, Blank}
use Rattle.deals.specs.Drives.{medium_of}
use Rattle.store.specs.Medium.{Reads, Wrote, Synced}
use Rattle.store.specs.Medium as store

on_true : (b : Bool) → T b → b ≡ true
on_true true t = refl
on_true false t = absurd t

pub reads : {d : Disk} {p : ℕ} {b : List ℕ} {ok : Bool} {e : Disk} → Reading d p b ok e → Reads (medium_of d) p b ok (medium_of e)
reads {d} (Reading.reads t) = record { pages = refl; left = omega arith; on = on_true d.on t; shown = refl; may = refl; got = λ _. refl }
reads {d} (Reading.goes b) = record { pages = refl; left = omega arith; on = refl; shown = refl; may = refl; got = λ z. absurd z }

-- what may be left of the page that was written, and of the others
module _ (d : Disk) (p : ℕ) (b : List ℕ) (m : ℕ → List (List ℕ)) (w : Within m (at p (b ∷ d.may p) d.may)) where
  here : (x : List ℕ) → Memᴰ x (m p) → (x ≡ b) ⊎ Memᴰ x (d.may p)
  here x i = Memᴰ.cases_cons (subst (λ l. Memᴰ x l) (cond-true (eqb p p) (b ∷ d.may p) (d.may p) (eq-eqb p p refl)) (w p x i))

  other : (q : ℕ) → (q ≡ p → ⊥) → (x : List ℕ) → Memᴰ x (m q) → Memᴰ x (d.may q)
  other q ne x i = subst (λ l. Memᴰ x l) (cond-false (eqb q p) (b ∷ d.may p) (d.may q) (ne_eqb q p ne)) (w q x i)

pub wrote : {d : Disk} {p : ℕ} {b : List ℕ} {ok : Bool} {e : Disk} → Writing d p b ok e → Wrote 1 (medium_of d) p b ok (medium_of e)
wrote {d} {p} {b} (Writing.done m t w) = record { pages = refl; left = λ _. omega arith; on = on_true d.on t; shown = λ _. refl; here = here d p b m w; other = other d p b m w }
wrote {d} {p} {b} (Writing.goes m t w) = record { pages = refl; left = λ z. absurd z; on = refl; shown = λ z. absurd z; here = here d p b m w; other = other d p b m w }
wrote {d} {p} {b} (Writing.gone t) = record { pages = refl; left = λ z. absurd z; on = refl; shown = λ z. absurd z; here = λ x i. inr i; other = λ q ne x i. i }

pub synced : {d : Disk} {ok : Bool} {e : Disk} → Syncing d ok e → Synced (medium_of d) ok (medium_of e)
synced {d} (Syncing.done m t w) = record { pages = refl; left = λ _. omega arith; on = on_true d.on t; shown = refl; all = λ _ q x i. Memᴰ.eq_of_singleton (w q x i); less = λ z. absurd z }
synced {d} (Syncing.goes m w) = record { pages = refl; left = λ z. absurd z; on = refl; shown = refl; all = λ z. absurd z; less = λ _. w }

-- the power comes back
pub back : {d e : Disk} → Back d e → store.Back (medium_of d) (medium_of e)
back b = record { same = b.same; lit = b.lit; each = b.each; only = λ p x m. Memᴰ.eq_of_singleton (b.only p x m) }

pub blank : {d : Disk} → Blank d → store.Blank (medium_of d)
blank b = record { big = b.0; shown = b.3; may = λ p x m. Memᴰ.eq_of_singleton (b.4 p x m) }
