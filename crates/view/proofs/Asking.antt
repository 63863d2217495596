-- Askings added up.
use Rattle.std.proofs.Common.{ℕ, ◌+◌, ◌≤◌, refl, ◌∙◌, arith}
use Rattle.view.specs.Asks.{Asks, Spent}

pub spent_none : (n : ℕ) (a : Asks) → Spent n a a
spent_none n a = record { left = omega arith; get = refl; next = refl; change = refl }

pub spent_more : (n m : ℕ) (a b : Asks) → n ≤ m → Spent n a b → Spent m a b
spent_more n m a b h s = record { left = omega (arith, s.left); get = s.get; next = s.next; change = s.change }

pub spent_both : (n m : ℕ) (a b c : Asks) → Spent n a b → Spent m b c → Spent (n + m) a c
spent_both n m a b c s t = record { left = omega (arith, s.left, t.left); get = t.get ∙ s.get; next = t.next ∙ s.next; change = t.change ∙ s.change }
