-- One asking, on the cuts that are set.
use Rattle.std.proofs.Common.{◌≡◌, ℕ, ◌-◌, true, false, cond, not, leb, List, [], ◌∷◌, Some, None, Option, is_none, refl, ap, map}
use Rattle.std.specs.List.{retain_mut, last_or, filter}
use Rattle.memdisk.specs.declared.cuts.Due.{Due}
use Rattle.memdisk.specs.Dues.{later, coming_or}

abbrev pub nearer : Due → Due
nearer d = record { asks = d.asks - 1; choice = d.choice }

-- those that don't come are left, each one asking nearer
pub later_retains : (ds : List Due) → retain_mut (λ d. not (leb d.asks 1)) nearer ds ≡ later ds
unfolding later
later_retains [] = refl
later_retains (d ∷ ds) = elim (leb d.asks 1) as (λ b. cond (not b) (nearer d ∷ retain_mut (λ d. not (leb d.asks 1)) nearer ds) (retain_mut (λ d. not (leb d.asks 1)) nearer ds) ≡ cond b (later ds) (nearer d ∷ later ds)) [
  | true ↦ later_retains ds
  | false ↦ ap (λ r. nearer d ∷ r) (later_retains ds)
]

-- the choice of the last that comes
pub coming_is_last : (o : Option ℕ) (ds : List Due) → last_or o (map (λ d. d.choice) (filter (λ d. leb d.asks 1) ds)) ≡ coming_or o ds
unfolding coming_or
coming_is_last o [] = refl
coming_is_last o (d ∷ ds) = elim (leb d.asks 1) as (λ b. last_or o (map (λ d. d.choice) (cond b (d ∷ filter (λ d. leb d.asks 1) ds) (filter (λ d. leb d.asks 1) ds))) ≡ coming_or (cond b (Some d.choice) o) ds) [
  | true ↦ coming_is_last (Some d.choice) ds
  | false ↦ coming_is_last o ds
]

came_before : (c : ℕ) (ds : List Due) → coming_or (Some c) ds ≡ None → ⊥
unfolding coming_or
came_before c [] = λ e. absurd (let z = e in cc)
came_before c (d ∷ ds) = elim (leb d.asks 1) as (λ b. coming_or (cond b (Some d.choice) (Some c)) ds ≡ None → ⊥) [
  | true ↦ came_before d.choice ds
  | false ↦ came_before c ds
]

-- where none comes, all are left
pub later_keeps : (ds : List Due) → coming_or None ds ≡ None → retain_mut (λ d. true) nearer ds ≡ later ds
unfolding coming_or later
later_keeps [] = λ e. refl
later_keeps (d ∷ ds) = elim (leb d.asks 1) as (λ b. coming_or (cond b (Some d.choice) None) ds ≡ None → nearer d ∷ retain_mut (λ d. true) nearer ds ≡ cond b (later ds) (nearer d ∷ later ds)) [
  | true ↦ λ e. absurd (came_before d.choice ds e)
  | false ↦ λ e. ap (λ r. nearer d ∷ r) (later_keeps ds e)
]

pub none_is : (o : Option ℕ) → is_none o ≡ true → o ≡ None
none_is None = λ e. refl
none_is (Some x) = λ e. absurd (let z = e in cc)
