-- Askings of the disk: how many are left, and what each method of an index takes at most.
use Rattle.std.specs.Prelude.{◌≡◌, ℕ, ◌+◌, ◌≤◌}

pub record Asks : Type 0 where
  pub left : ℕ
  pub get : ℕ
  pub next : ℕ
  pub change : ℕ

-- from a to b at most n askings were made, and the index is as dear as before
pub record Spent (n : ℕ) (a b : Asks) : Type 0 where
  pub left : a.left ≤ b.left + n
  pub get : b.get ≡ a.get
  pub next : b.next ≡ a.next
  pub change : b.change ≡ a.change

-- at most what one change takes
abbrev pub ChangeSpent : Asks → Asks → Type 0
ChangeSpent a b = a.left ≤ b.left + a.change
