-- The next key: over the tree's keys that lines have dropped, and by those that lines have put.
use Rattle.std.specs.Prelude.{◌≡◌, ℕ, suc, ◌-◌, ◌^◌, ◌<◌, Bool, true, false, cond, ◌&&◌, List, [], ◌∷◌, Some, None, Option, nat_lt}
use Rattle.lines.specs.declared.line.Line.{Line}
use Rattle.lines.specs.declared.line.Line.TheVariants.{Idle, Wrote, Cleared, Stale, Read, Scanned, Marked}
use Rattle.view.specs.declared.seen.Seen.{Seen}
use Rattle.view.specs.declared.seen.Seen.TheVariants.{There, Away}
use Rattle.view.specs.Sight.{says, is_there}

abbrev pub is_away : Option Seen → Bool
is_away (Some (There x)) = false
is_away (Some (Away s)) = true
is_away None = false

-- from a key on, by what is above each that is dropped
pub data Walked (f : ℕ → Option Seen) : Option ℕ → Option ℕ → Type 0 where
  ends : Walked f None None
  stays : (p : ℕ) → is_away (f p) ≡ false → Walked f (Some p) (Some p)
  goes : (p : ℕ) (s r : Option ℕ) → f p ≡ Some (Away s) → Walked f s r → Walked f (Some p) r

-- what is above a dropped key is above it
abbrev pub Rises : (ℕ → Option Seen) → Type 0
Rises f = (j s : ℕ) → f j ≡ Some (Away (Some s)) → j < s

abbrev pub under : ℕ → Option ℕ → Bool
under j None = true
under j (Some p) = nat_lt j p

-- the least key above k, and below b, that a line puts and that is there
abbrev pub least_line : (ℕ → Option Seen) → ℕ → Line → Option ℕ → Option ℕ
least_line f k Idle b = b
least_line f k (Wrote j x) b = cond (nat_lt k j && (under j b && is_there (f j))) (Some j) b
least_line f k (Cleared j s) b = b
least_line f k (Stale j) b = b
least_line f k (Read j) b = b
least_line f k (Scanned j q) b = b
least_line f k Marked b = b

abbrev pub least_in : (ℕ → Option Seen) → ℕ → List Line → Option ℕ → Option ℕ
least_in f k [] b = b
least_in f k (l ∷ ls) b = least_in f k ls (least_line f k l b)

-- from the tree's first key above k to the first that a deal sees
pub record Onward (q o : List Line) (k : ℕ) (first r : Option ℕ) : Type 0 where
  pub over : Option ℕ
  pub walked : Walked (says q o) first over
  pub least : r ≡ least_in (says q o) k o (least_in (says q o) k q over)

-- how much is ahead of a key
abbrev pub ahead : Option ℕ → ℕ
ahead None = 0
ahead (Some p) = suc (2 ^ 64 - p)
