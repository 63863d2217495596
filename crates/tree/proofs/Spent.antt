-- How many pages came into the batch, over several acts.
use Rattle.std.proofs.Common.{ℕ, ◌+◌, ◌-◌, ◌≤◌, List, ap, arith}
use Rattle.tree.specs.State.{PageState, Still, Spends, Given, Wrote}

pub spends_none : (n : ℕ) (d : PageState) → Spends n d d
spends_none n d = record { dirty = λ q. omega arith; spare = omega arith }

pub spends_still : (a n : ℕ) (d e : PageState) → Still a d e → Spends n d e
spends_still a n d e s = record { dirty = λ q. omega (arith, ap (λ (t : ℕ → ℕ). t q) s.dirty); spare = omega (arith, s.spare) }

pub spends_given : (p n : ℕ) (d e : PageState) → Given p d e → Spends n d e
spends_given p n d e s = record { dirty = λ q. omega (arith, ap (λ (t : ℕ → ℕ). t q) s.dirty); spare = omega (arith, s.spare) }

pub spends_then : (a b n : ℕ) (d e f : PageState) → a + b ≤ n → Spends a d e → Spends b e f → Spends n d f
spends_then a b n d e f h x y = record { dirty = λ q. omega (arith, x.dirty q, y.dirty q); spare = omega (arith, x.spare, y.spare) }

pub spends_more : (a n : ℕ) (d e : PageState) → a ≤ n → Spends a d e → Spends n d e
spends_more a n d e h x = record { dirty = x.dirty; spare = omega (arith, x.spare) }

-- over the askings before it
pub after_still : (a n : ℕ) (d d1 e : PageState) → Still a d d1 → Spends n d1 e → Spends n d e
after_still a n d d1 e s x = spends_then 0 n n d d1 e (omega arith) (spends_still a 0 d d1 s) x

pub one_write : (p : ℕ) (b : List ℕ) (d e : PageState) → Wrote p b d e → Spends 1 d e
one_write p b d e w = spends_more (1 - d.dirty p) 1 d e (omega arith) w.spends
