-- Lines as writes to pairs.
use Rattle.std.specs.Prelude.{ℕ, List, [], ◌∷◌}
use Rattle.node.specs.Pairs.{Up, put_in, drop_in}
use Rattle.lines.specs.declared.line.Line.{Line}
use Rattle.lines.specs.declared.line.Line.TheVariants.{Idle, Wrote, Cleared, Stale, Read, Scanned, Marked}

pub data Write : Type 0 where
  Puts : (k x : ℕ) → Write
  Drops : (k : ℕ) → Write

abbrev pub apply : Write → List (ℕ × ℕ) → List (ℕ × ℕ)
apply (Puts k x) t = put_in k x t
apply (Drops k) t = drop_in k t

-- the first first
abbrev pub onto : List (ℕ × ℕ) → List Write → List (ℕ × ℕ)
onto t [] = t
onto t (w ∷ ws) = onto (apply w t) ws

-- the writes among lines; what was gone back over is none
abbrev pub writes_in : List Line → List Write
writes_in [] = []
writes_in (Idle ∷ ls) = writes_in ls
writes_in (Wrote k x ∷ ls) = Puts k x ∷ writes_in ls
writes_in (Cleared k s ∷ ls) = Drops k ∷ writes_in ls
writes_in (Stale k ∷ ls) = writes_in ls
writes_in (Read k ∷ ls) = writes_in ls
writes_in (Scanned k q ∷ ls) = writes_in ls
writes_in (Marked ∷ ls) = writes_in ls

-- the pairs t after all that lines write
abbrev pub with_lines : List (ℕ × ℕ) → List Line → List (ℕ × ℕ)
with_lines t ls = onto t (writes_in ls)

-- the keys rise
abbrev pub Rising : List (ℕ × ℕ) → Type 0
Rising t = (hi : ℕ) × Up 0 hi t
