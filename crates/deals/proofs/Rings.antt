-- Who waits for whom, as sets: what a ring is, step by step.
use Rattle.std.proofs.Common.{◌≡◌, ℕ, zero, suc, ◌<◌, ◌≤◌, Bool, false, ◌&&◌, ◌||◌, ltb, List, refl, ap, ◌∙◌, arith}
use mathlib.Core.Path.{fun_ext}
use Rattle.std.proofs.lemmas.Bool.{cases_eq, cases_lt, lt-ltb, le-ltb}
use Rattle.deals.specs.declared.Op.{Op}
use Rattle.deals.specs.Deals.{State, some', is_in, those, further, reach, ring, waits}

is_in_past : (n : ℕ) (f : ℕ → Bool) (e : ℕ) → n ≤ e → is_in e (those n f) ≡ false
unfolding is_in those
is_in_past zero f e h = refl
is_in_past (suc n) f e h = grind (arith, is_in_past n f e)

is_in_below : (n : ℕ) (f : ℕ → Bool) (e : ℕ) → e < n → is_in e (those n f) ≡ f e
unfolding is_in those
is_in_below zero f e h = absurd (omega arith)
is_in_below (suc n) f e h = grind (arith, cases_eq e n, is_in_past n f n, is_in_below n f e)

pub is_in_those : (n : ℕ) (f : ℕ → Bool) (e : ℕ) → is_in e (those n f) ≡ (ltb e n && f e)
is_in_those n f e = grind (arith, cases_lt, lt-ltb, is_in_below, le-ltb, is_in_past)

-- from a set, all who are in it and all whom one of it waits for
abbrev pub spread : (ℕ → ℕ → Bool) → (ℕ → Bool) → ℕ → Bool
spread w s e = ltb e 32 && (s e || some' 32 (λ (d : ℕ). s d && w d e))

abbrev pub reached : ℕ → (ℕ → ℕ → Bool) → (ℕ → Bool) → ℕ → Bool
reached zero w s = s
reached (suc n) w s = reached n w (spread w s)

pub reach_is : (n : ℕ) (can : Op → Bool) (s : State) (ds : List ℕ) → (λ e. is_in e (reach n can s ds)) ≡ reached n (waits can s) (λ e. is_in e ds)
unfolding reach
reach_is zero can s ds = refl
reach_is (suc n) can s ds =
    reach_is n can s (further can s ds)
    ∙ ap (reached n (waits can s)) (fun_ext (λ e. is_in_those 32 (λ (e : ℕ). is_in e ds || some' 32 (λ (d : ℕ). is_in d ds && waits can s d e)) e))

pub ring_is : (can : Op → Bool) (s : State) (c : ℕ) → ring can s c ≡ reached 32 (waits can s) (λ e. ltb e 32 && waits can s c e) c
ring_is can s c =
    ap (λ f. f c) (reach_is 32 can s (those 32 (waits can s c)) ∙ ap (reached 32 (waits can s)) (fun_ext (is_in_those 32 (waits can s c))))

-- once nobody comes in, nobody ever does
pub reached_still : (n : ℕ) (w : ℕ → ℕ → Bool) (s : ℕ → Bool) → spread w s ≡ s → reached n w s ≡ s
reached_still zero w s e = refl
reached_still (suc n) w s e = rw e (reached_still n w s e)
