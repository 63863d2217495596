-- Bits of a word, and what a set spreads to.
use Rattle.std.proofs.Common.{◌≡◌, ℕ, zero, suc, ◌+◌, ◌^◌, ◌<◌, max, Bool, true, false, not, ◌&&◌, ◌||◌, eqb, ltb, get_or, replicate, w32, ◌≤◌, sym, refl, ap, ◌∙◌, ap₂, subst, inl, inr, add-one, arith}
use lib.Bits.{bit_or}
use Rattle.std.specs.Int.{bit_at, trailing_zeros}
use Rattle.std.proofs.Math.Bool.{or-false}
use Rattle.std.proofs.lemmas.List.{get_or-replicate, get_or_past, length-replicate}
use Rattle.std.proofs.lemmas.Nat.Bits.{bit_at_or, bit_at-lt, bit_at-pow_same, bit_at-pow_other, bit_at-zero, bit_at-trailing_zeros}
use Rattle.std.proofs.lemmas.Bool.{cases_eq, cases_lt, cases_order, lt-ltb, le-ltb, eq-eqb, ne_eqb, or_left, or_right, or_from, and_from, and_right}
use Rattle.locks.specs.declared.set.ClerkSet.{ClerkSet}
use Rattle.locks.specs.Sets.{bit, has, is_in, some_of}
use Rattle.locks.specs.Graphs.{spread_by, spread, reached}

max_bits : (x y : ℕ) → x < 2 → y < 2 → eqb (max x y) 1 ≡ (eqb x 1 || eqb y 1)
max_bits x y h g =
    elim (cases_eq x 1) [
      | inl e ↦ rw (eq-eqb (max x y) 1 (omega arith), eq-eqb x 1 e)
      | inr d ↦ let z : max x y ≡ y = omega arith in rw (z, ne_eqb x 1 d)
    ]

pub bit_or_lem : (a b k : ℕ) → bit (bit_or a b) k ≡ (bit a k || bit b k)
bit_or_lem a b k = ap (λ x. eqb x 1) (bit_at_or a b k) ∙ max_bits (bit_at a k) (bit_at b k) (bit_at-lt a k) (bit_at-lt b k)

and_or : (x y z : Bool) → (x && (y || z)) ≡ ((x && y) || (x && z))
and_or true y z = refl
and_or false y z = refl

pub has_or : (a b k : ℕ) → has (bit_or a b) k ≡ (has a k || has b k)
unfolding has
has_or a b k = ap (λ x. ltb k 32 && x) (bit_or_lem a b k) ∙ and_or (ltb k 32) (bit a k) (bit b k)

pub bit_one : (e k : ℕ) → bit (2 ^ e) k ≡ eqb k e
bit_one e k =
    elim (cases_eq k e) [
      | inl q ↦ ap (λ x. bit (2 ^ e) x) q ∙ ap (λ x. eqb x 1) (bit_at-pow_same e) ∙ sym (eq-eqb k e q)
      | inr d ↦ ap (λ x. eqb x 1) (bit_at-pow_other e k d) ∙ sym (ne_eqb k e d)
    ]

pub has_one : (e k : ℕ) → e < 32 → has (2 ^ e) k ≡ eqb k e
unfolding has
has_one e k h =
    elim (cases_eq k e) [
      | inl q ↦ rw (bit_one e k, q, eq-eqb e e refl, lt-ltb e 32 h)
      | inr d ↦ rw (bit_one e k, ne_eqb k e d) (and_false (ltb k 32))
    ]
  where
    and_false : (x : Bool) → (x && false) ≡ false
    and_false true = refl
    and_false false = refl

pub spread_none : (w : ℕ → ℕ → Bool) (s : ℕ → Bool) (e : ℕ) → s e ≡ spread_by 0 w s e
unfolding spread_by
spread_none w s e = refl

-- all: those so far; the next is one of the set, or isn't
pub spread_in : (w : ℕ → ℕ → Bool) (s : ℕ → Bool) (n : ℕ) (e : ℕ) (a : Bool) → a ≡ spread_by n w s e → s n ≡ true → (a || w n e) ≡ spread_by (n + 1) w s e
unfolding spread_by
spread_in w s n e a h t = rw add-one (ap₂ (λ x y. x || (y && w n e)) h (sym t))

pub spread_out : (w : ℕ → ℕ → Bool) (s : ℕ → Bool) (n : ℕ) (e : ℕ) (a : Bool) → a ≡ spread_by n w s e → s n ≡ false → a ≡ spread_by (n + 1) w s e
unfolding spread_by
spread_out w s n e a h t = rw add-one (sym (or-false a) ∙ ap₂ (λ x y. x || (y && w n e)) h (sym t))

-- the closing
pub reached_more : (n : ℕ) (w : ℕ → ℕ → Bool) (s : ℕ → Bool) → reached (n + 1) w s ≡ spread w (reached n w s)
unfolding reached
reached_more zero w s = refl
reached_more (suc n) w s = rw add-one (rw add-one at (reached_more n w (spread w s)))

-- no bits, no number
some_bit : (m : ℕ) → m < 2 ^ 32 → (m ≡ 0 → ⊥) → (e : ℕ) × (e < 32) × (bit m e ≡ true)
some_bit m h d = let t = bit_at-trailing_zeros w32 m (omega arith) h in (trailing_zeros w32 m, t.0, eq-eqb (bit_at m (trailing_zeros w32 m)) 1 t.1)

some_there : (n : ℕ) (f : ℕ → Bool) (e : ℕ) → e < n → f e ≡ true → some_of n f ≡ true
unfolding some_of
some_there zero f e h t = absurd (none_below e h)
  where
    none_below : (i : ℕ) → i < 0 → ⊥
    none_below i h = omega arith
some_there (suc n) f e h t =
    elim (cases_eq e n) [
      | inl q ↦ or_right (some_of n f) (f n) (rw q at t)
      | inr d ↦ or_left (some_of n f) (f n) (some_there n f e (omega arith) t)
    ]

some_none : (n : ℕ) (f : ℕ → Bool) → ((e : ℕ) → e < n → f e ≡ false) → some_of n f ≡ false
unfolding some_of
some_none zero f h = refl
some_none (suc n) f h = or_from (some_of n f) (f n) (some_none n f (λ e l. h e (omega arith))) (h n (omega arith))

pub has_zero : (e : ℕ) → has 0 e ≡ false
unfolding has
has_zero e = and_right (ltb e 32) (bit 0 e) (ap (λ x. eqb x 1) (bit_at-zero e))

-- one more is taken in, or not, of whom P says so
pub taken : (P : ℕ → Bool → Type 0) (s t : ℕ → Bool) (n : ℕ) (b : Bool) → ((k : ℕ) → k < n → P k (s k)) → ((k : ℕ) → n ≤ k → s k ≡ false) → P n b → ((k : ℕ) → t k ≡ (s k || (b && eqb k n)))
    → ((k : ℕ) → k < n + 1 → P k (t k)) × ((k : ℕ) → n + 1 ≤ k → t k ≡ false)
taken P s t n b below past p is = (
  λ k h. elim (cases_eq k n) [
    | inl q ↦ subst (λ x. P x (t x)) (sym q) (subst (P n) (sym (is n ∙ ap (λ x. x || (b && eqb n n)) (past n (omega arith)) ∙ ap (λ x. b && x) (eq-eqb n n refl) ∙ and_true b)) p)
    | inr d ↦ subst (P k) (sym (same k d)) (below k (omega arith))
  ],
  λ k h. same k (λ q. absurd (omega arith)) ∙ past k (omega arith),
)
  where
    and_true : (x : Bool) → (x && true) ≡ x
    and_true true = refl
    and_true false = refl

    none : (x y : Bool) → y ≡ false → (x && y) ≡ false
    none true y e = e
    none false y e = refl

    same : (k : ℕ) → (k ≡ n → ⊥) → t k ≡ s k
    same k d = is k ∙ ap (λ x. s k || x) (none b (eqb k n) (ne_eqb k n d)) ∙ or-false (s k)

-- a set as it's gathered one by one
pub set_in : (f h h' : ℕ → Bool) (e : ℕ) → ((k : ℕ) → h k ≡ (ltb k e && f k)) → ((k : ℕ) → h' k ≡ (h k || eqb k e)) → f e ≡ true → (k : ℕ) → h' k ≡ (ltb k (e + 1) && f k)
set_in f h h' e a b t k =
    elim (cases_order k e) [
      | inl q ↦ b k ∙ or_right (h k) (eqb k e) (eq-eqb k e q) ∙ sym (and_from (ltb k (e + 1)) (f k) (lt-ltb k (e + 1) (omega arith)) (ap f q ∙ t))
      | inr o ↦ elim o [
        | inl l ↦ b k ∙ ap₂ ◌||◌ (a k ∙ ap (λ x. x && f k) (lt-ltb k e l)) (ne_eqb k e (omega arith)) ∙ or-false (f k) ∙ ap (λ x. x && f k) (sym (lt-ltb k (e + 1) (omega arith)))
        | inr l ↦ b k ∙ ap₂ ◌||◌ (a k ∙ ap (λ x. x && f k) (le-ltb k e (omega arith))) (ne_eqb k e (omega arith)) ∙ ap (λ x. x && f k) (sym (le-ltb k (e + 1) (omega arith)))
      ]
    ]

pub set_out : (f h : ℕ → Bool) (e : ℕ) → ((k : ℕ) → h k ≡ (ltb k e && f k)) → f e ≡ false → (k : ℕ) → h k ≡ (ltb k (e + 1) && f k)
set_out f h e a t k =
    elim (cases_order k e) [
      | inl q ↦ a k ∙ ap (λ x. x && f k) (le-ltb k e (omega arith)) ∙ sym (and_right (ltb k (e + 1)) (f k) (ap f q ∙ t))
      | inr o ↦ elim o [
        | inl l ↦ a k ∙ ap (λ x. x && f k) (lt-ltb k e l) ∙ ap (λ x. x && f k) (sym (lt-ltb k (e + 1) (omega arith)))
        | inr l ↦ a k ∙ ap (λ x. x && f k) (le-ltb k e (omega arith)) ∙ ap (λ x. x && f k) (sym (le-ltb k (e + 1) (omega arith)))
      ]
    ]

pub empty_is : (m : ℕ) → m < 2 ^ 32 → eqb m 0 ≡ not (some_of 32 (has m))
unfolding has
empty_is m h =
    elim (cases_eq m 0) [
      | inl q ↦ rw (q, some_none 32 (has 0) (λ e l. has_zero e))
      | inr d ↦
          let r = some_bit m h d in
          let t : has m r.0 ≡ true = and_from (ltb r.0 32) (bit m r.0) (lt-ltb r.0 32 r.1) r.2 in
          rw (ne_eqb m 0 d, some_there 32 (has m) r.0 r.1 t)
    ]

pub nobody_waits : (s : ClerkSet) (d e : ℕ) → s.bits ≡ 0 → is_in (get_or (replicate 32 s) d (record { bits = 0 })) e ≡ false
nobody_waits s d e z =
    elim (cases_lt d 32) [
      | inl l ↦ rw (get_or-replicate 32 d s (record { bits = 0 }) l, z) (has_zero e)
      | inr l ↦ rw (get_or_past (replicate 32 s) d (record { bits = 0 }) (omega (arith, length-replicate {A = ClerkSet} 32 s))) (has_zero e)
    ]
