-- The state of a store of pages, and what each of its acts does to it.
use Rattle.std.specs.Borrow.{GName}
use Rattle.std.specs.Prelude.{◌≡◌, ℕ, ◌+◌, ◌-◌, ◌≤◌, Bool, true, cond, List, ◌==◌, ◌≢◌}

-- page: what each page holds
-- taken: 1 for a page that was handed out, else 0
-- room: how many more may be handed out
-- left: askings of the disk that may still be made
-- dirty: 1 for a page that is in the batch, else 0
-- spare: how many more pages may come into the batch
pub record PageState : Type 0 where
  pub page : ℕ → List ℕ
  pub taken : ℕ → ℕ
  pub room : ℕ
  pub left : ℕ
  pub dirty : ℕ → ℕ
  pub spare : ℕ

-- nothing has changed, by n askings
pub record Still (n : ℕ) (d e : PageState) : Type 0 where
  pub page : e.page ≡ d.page
  pub taken : e.taken ≡ d.taken
  pub room : e.room ≡ d.room
  pub left : d.left ≤ e.left + n
  pub dirty : e.dirty ≡ d.dirty
  pub spare : e.spare ≡ d.spare

-- at most n more pages have come into the batch, and none has left it
pub record Spends (n : ℕ) (d e : PageState) : Type 0 where
  pub dirty : (q : ℕ) → d.dirty q ≤ e.dirty q
  pub spare : d.spare ≤ e.spare + n

-- page p was handed out, which was not taken
pub record Given (p : ℕ) (d e : PageState) : Type 0 where
  pub was : d.taken p ≡ 0
  pub page : e.page ≡ d.page
  pub taken : (q : ℕ) → e.taken q ≡ d.taken q + cond (q == p) 1 0
  pub room : d.room ≡ e.room + 1
  pub left : d.left ≤ e.left + 1
  pub dirty : e.dirty ≡ d.dirty
  pub spare : e.spare ≡ d.spare

-- page p is now b, and in the batch
pub record Wrote (p : ℕ) (b : List ℕ) (d e : PageState) : Type 0 where
  pub here : e.page p ≡ b
  pub others : (q : ℕ) → (q ≢ p) → e.page q ≡ d.page q
  pub taken : e.taken ≡ d.taken
  pub room : e.room ≡ d.room
  pub left : e.left ≡ d.left
  pub marked : 1 ≤ e.dirty p
  pub spends : Spends (1 - d.dirty p) d e

-- page p was given back, and is in the batch
pub record Freed (p : ℕ) (d e : PageState) : Type 0 where
  pub others : (q : ℕ) → (q ≢ p) → e.page q ≡ d.page q
  pub taken : (q : ℕ) → d.taken q ≡ e.taken q + cond (q == p) 1 0
  pub room : e.room ≡ d.room + 1
  pub left : e.left ≡ d.left
  pub marked : 1 ≤ e.dirty p
  pub spends : Spends (1 - d.dirty p) d e

-- s may have come from a store, and the power is still there
abbrev pub Whole : {S : Type 0} → (S → Bool → S → Type 0) → S → Type 0
Whole {S} onto s = (a : S) × onto a true s

-- what every call of a store passes on: t may have come from wherever s may have, where ok says whether the power is still there, and what s was lent t is lent
abbrev pub Passes : {S : Type 0} → (S → Bool → S → Type 0) → (S → List GName) → Bool → S → S → Type 0
Passes {S} onto tie ok s t = ((a : S) → onto a true s → onto a ok t) × (tie t ≡ tie s)
