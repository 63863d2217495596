-- The searches: for a page's frame, and round the frames from the hand.
use Rattle.std.proofs.Common.{◌≡◌, ℕ, zero, suc, ◌+◌, ◌%◌, ◌<◌, ◌≤◌, Bool, true, false, cond, eqb, ◌&&◌, ◌≢◌, List, [], ◌∷◌, length, map, Option, Some, None, is_some, sym, refl, ap, ◌∙◌, ⊎_elim, arith}
use Rattle.std.specs.List.{find, position, position_from, range_with_len}
use Rattle.std.specs.Option.{option_map}
use Rattle.std.proofs.lemmas.Bool.{cases_eq, eq-eqb, ne_eqb, false≢true}
use Rattle.std.proofs.lemmas.Iterator.Adapters.{position_from-zero}
use Rattle.frames.specs.Layout.{Cache}
use Rattle.frames.specs.Frames.{Chosen, Stands, Table, slot_of, place_in, mark_in, pins_in, pinned}
use Rattle.frames.specs.Columns.{is_idle}
use Rattle.frames.proofs.Slots.{Rows, place_some, slot_some}
use Rattle.frames.proofs.Tables.{each_comes, some_idle}

onward : (i : ℕ) (o : Option ℕ) → option_map (λ k. i + 1 + k) o ≡ option_map (λ k. i + k) (option_map suc o)
onward i None = refl
onward i (Some k) = ap (λ n. Some n) (let e : i + 1 + k ≡ i + suc k = omega arith in e)

from_place : (p i : ℕ) (xs : List ℕ) → position_from (λ q. eqb q p) i xs ≡ option_map (λ k. i + k) (place_in xs p)
unfolding place_in
from_place p i [] = refl
from_place p i (x ∷ xs) = elim (eqb x p) as (λ b. cond b (Some i) (position_from (λ q. eqb q p) (i + 1) xs) ≡ option_map (λ k. i + k) (cond b (Some 0) (option_map suc (place_in xs p)))) [
  | true ↦ ap (λ n. Some n) (let e : i ≡ i + 0 = omega arith in e)
  | false ↦ from_place p (i + 1) xs ∙ onward i (place_in xs p)
]

plain : (o : Option ℕ) → option_map (λ k. 0 + k) o ≡ o
plain None = refl
plain (Some k) = ap (λ n. Some n) (let e : 0 + k ≡ k = omega arith in e)

-- the first place at which a page stands
pub position_place : (p : ℕ) (xs : List ℕ) → position (λ q. eqb q p) xs ≡ place_in xs p
position_place p xs = position_from-zero (λ q. eqb q p) xs ∙ from_place p 0 xs ∙ plain (place_in xs p)

pub position_some : (p : ℕ) (xs : List ℕ) (i : ℕ) → Some i ≡ position (λ q. eqb q p) xs → i < length xs
position_some p xs i e = (place_some xs p i (sym (position_place p xs) ∙ sym e)).0

-- a search over f a, f (a + 1) .. f (a + n - 1)
record Found (t : ℕ → Bool) (f : ℕ → ℕ) (a n i : ℕ) : Type 0 where
  step : ℕ
  behind : a ≤ step
  round : step < a + n
  here : i ≡ f step
  passes : t (f step) ≡ true
  first : (k : ℕ) → a ≤ k → k < step → t (f k) ≡ false

abbrev Searched : (ℕ → Bool) → (ℕ → ℕ) → ℕ → ℕ → Option ℕ → Type 0
Searched t f a n None = (k : ℕ) → a ≤ k → k < a + n → t (f k) ≡ false
Searched t f a n (Some i) = Found t f a n i

further : (t : ℕ → Bool) (f : ℕ → ℕ) (a n : ℕ) (r : Option ℕ) → t (f a) ≡ false → Searched t f (a + 1) n r → Searched t f a (suc n) r
further t f a n None e s = λ k l h. ⊎_elim (λ (z : k ≡ a). ap (λ x. t (f x)) z ∙ e) (λ (nz : k ≢ a). s k (omega arith) (omega arith)) (cases_eq k a)
further t f a n (Some i) e s = record {
  step = s.step;
  behind = omega (arith, s.behind);
  round = omega (arith, s.round);
  here = s.here;
  passes = s.passes;
  first = λ k l h. ⊎_elim (λ (z : k ≡ a). ap (λ x. t (f x)) z ∙ e) (λ (nz : k ≢ a). s.first k (omega arith) h) (cases_eq k a);
}

searched : (t : ℕ → Bool) (f : ℕ → ℕ) (a n : ℕ) → Searched t f a n (find t (map f (range_with_len a n)))
searched t f a zero = λ k l h. absurd (omega arith)
searched t f a (suc n) = by (searched t f (a + 1) n) (t (f a)) refl
  where
    by : Searched t f (a + 1) n (find t (map f (range_with_len (a + 1) n))) → (b : Bool) → t (f a) ≡ b → Searched t f a (suc n) (cond b (Some (f a)) (find t (map f (range_with_len (a + 1) n))))
    by s true e = record { step = a; behind = omega arith; round = omega arith; here = refl; passes = e; first = λ k l h. absurd (omega arith) }
    by s false e = further t f a n _ e s

both : (m n : ℕ) → (eqb m 0 && eqb n 0) ≡ true → (m ≡ 0) × (n ≡ 0)
both m n e = ⊎_elim
    (λ (z : m ≡ 0). ⊎_elim
    (λ (y : n ≡ 0). (z, y))
    (λ (y : n ≢ 0). absurd (false≢true (sym (rw (eq-eqb m 0 z, ne_eqb n 0 y) refl) ∙ e)))
    (cases_eq n 0))
    (λ (z : m ≢ 0). absurd (false≢true (sym (rw (ne_eqb m 0 z) refl) ∙ e)))
    (cases_eq m 0)

neither : (m n : ℕ) → (eqb m 0 && eqb n 0) ≡ false → (m ≡ 0) × (n ≡ 0) → ⊥
neither m n e h = false≢true (sym e ∙ rw (eq-eqb m 0 h.0, eq-eqb n 0 h.1) refl)

-- going round from the hand
module _ (c : Cache) (t : Table c) where
  to : (r : Option ℕ) → Searched (is_idle c) (λ s. (c.hand + s) % 120) 0 120 r → Chosen c r
  to None s = each_comes c t.turn (λ k l. neither (mark_in c ((c.hand + k) % 120)) (pins_in c ((c.hand + k) % 120)) (s k (omega arith) (omega arith)))
  to (Some i) s = record {
    step = s.step;
    round = omega (arith, s.round);
    here = s.here;
    low = omega (arith, s.here);
    idle = rw s.here (both (mark_in c ((c.hand + s.step) % 120)) (pins_in c ((c.hand + s.step) % 120)) s.passes);
    first = λ k l. neither (mark_in c ((c.hand + k) % 120)) (pins_in c ((c.hand + k) % 120)) (s.first k (omega arith) l);
  }

  pub chosen_round : Chosen c (find (is_idle c) (map (λ s. (c.hand + s) % 120) (range_with_len 0 120)))
  chosen_round = to _ (searched (is_idle c) (λ s. (c.hand + s) % 120) 0 120)

pub chosen_some : (c : Cache) → Table c → Rows c → c.count + pinned c < 120 → (r : Option ℕ) → Chosen c r → is_some r ≡ true
chosen_some c t r few None none = absurd (some_idle c t r few none)
chosen_some c t r few (Some i) s = refl

pub stands_there : (c : Cache) → Rows c → (p i : ℕ) → slot_of c p ≡ Some i → Stands c p i
stands_there c r p i e = let s = slot_some c.pages p i e in record { low = omega (arith, s.0, r.pages); page = s.1; used = s.2 }
