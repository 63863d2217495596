-- What each method of an index asks and gives. The first arguments are ghost members of the index: `onto`, `tie`, `pairs`, `budget`, `ready`.
use Rattle.std.specs.Prelude.{◌≡◌, ℕ, ◌≤◌, Bool, true, List}
use Rattle.std.specs.Borrow.{GName}
use Rattle.lines.specs.Tables.{behind}
use Rattle.view.specs.Asks.{Asks, Spent}

-- some index with some room may have come to s with this room, the power being there
abbrev pub Whole : {D : Type 0} → (D → List ℕ → Bool → D → List ℕ → Type 0) → D → List ℕ → Type 0
Whole {D} onto s room = (a : D) × (w : List ℕ) × onto a w true s (behind room)

-- what may have come to s with the room v may have come to t with w, and what s was lent is t's; ok says whether the power is still there
pub record Passes {D : Type 0} (on : D → List ℕ → Bool → D → List ℕ → Type 0) (tie : D → List GName) (ok : Bool) (s : D) (v : List ℕ) (t : D) (w : List ℕ) : Type 0 where
  pub onto : (a : D) (x : List ℕ) → on a x true s (behind v) → on a x ok t (behind w)
  pub tied : tie t ≡ tie s

-- a question: the pairs are as they were, and at most n askings were made
pub record Asked {D : Type 0} (pairs : D → List ℕ → List (ℕ × ℕ)) (budget : D → Asks) (n : ℕ) (s : D) (v : List ℕ) (t : D) (w : List ℕ) : Type 0 where
  pub same : pairs t (behind w) ≡ pairs s (behind v)
  pub spent : Spent n (budget s) (budget t)

-- there are askings for a change, and pages that it may take
abbrev pub MayChange : {D : Type 0} → (D → Asks) → (D → List ℕ → Type 0) → D → List ℕ → Type 0
MayChange budget ready s room = ((budget s).change ≤ (budget s).left) × ready s (behind room)
