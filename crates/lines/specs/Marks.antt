-- The marks among lines, and lines that are gone back over.
use Rattle.std.specs.Prelude.{ℕ, zero, suc, ◌+◌, ◌-◌, cond, List, [], ◌∷◌, ◌==◌}
use Rattle.lines.specs.declared.line.Line.{Line}
use Rattle.lines.specs.declared.line.Line.TheVariants.{Idle, Wrote, Cleared, Stale, Read, Scanned, Marked}

-- 1 for a mark
abbrev pub mark_of : Line → ℕ
mark_of Idle = 0
mark_of (Wrote k x) = 0
mark_of (Cleared k s) = 0
mark_of (Stale k) = 0
mark_of (Read k) = 0
mark_of (Scanned k q) = 0
mark_of Marked = 1

-- how many marks stand
abbrev pub marks_in : List Line → ℕ
marks_in [] = 0
marks_in (l ∷ ls) = mark_of l + marks_in ls

-- what was gone back over only locks
abbrev pub stale : Line → Line
stale Idle = Idle
stale (Wrote k x) = Stale k
stale (Cleared k s) = Stale k
stale (Stale k) = Stale k
stale (Read k) = Read k
stale (Scanned k q) = Scanned k q
stale Marked = Idle

-- back, but for the first n marks and what stands before the last of them
abbrev pub backed : ℕ → List Line → List Line
backed n [] = []
backed zero (l ∷ ls) = stale l ∷ backed zero ls
backed (suc n) (Idle ∷ ls) = Idle ∷ backed (suc n) ls
backed (suc n) (Wrote k x ∷ ls) = Wrote k x ∷ backed (suc n) ls
backed (suc n) (Cleared k s ∷ ls) = Cleared k s ∷ backed (suc n) ls
backed (suc n) (Stale k ∷ ls) = Stale k ∷ backed (suc n) ls
backed (suc n) (Read k ∷ ls) = Read k ∷ backed (suc n) ls
backed (suc n) (Scanned k q ∷ ls) = Scanned k q ∷ backed (suc n) ls
backed (suc n) (Marked ∷ ls) = Marked ∷ backed n ls

-- one line of these, where n marks stay from here on
abbrev pub line_back : ℕ → Line → Line
line_back n l = cond (n == 0) (stale l) l

-- and how many stay behind it
abbrev pub left_back : ℕ → Line → ℕ
left_back n l = n - mark_of l
