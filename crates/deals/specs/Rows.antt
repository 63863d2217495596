-- A deal as lines, and what an asking touches.
use Rattle.std.specs.Prelude.{◌≡◌, ℕ, suc, List, [], ◌∷◌, ◌++◌, Some, None, Option}
use Rattle.deals.specs.declared.Op.{Op}
use Rattle.deals.specs.declared.Op.TheVariants.{Get, Put, Drop, Next, Mark, Back, Commit, Undo}
use Rattle.deals.specs.declared.Answer.{Answer}
use Rattle.deals.specs.declared.Answer.TheVariants.{Done, Missing, Word, Pair, Point, No, Full, Clash}
use Rattle.lines.specs.declared.line.Line.{Line}
use Rattle.lines.specs.declared.line.Line.TheVariants.{Idle, Wrote, Cleared, Stale, Read, Scanned, Marked}
pub use Rattle.lines.specs.Lines.{bare}
use Rattle.lines.specs.Marks.{backed}
use Rattle.locks.specs.declared.way.Want.{Want}
use Rattle.locks.specs.declared.way.Want.TheVariants.{Nothing, Look, Write, Scan}
use Rattle.deals.specs.Deals.{Said}

-- what a Next has gone over
abbrev pub scan_line : ℕ → Answer → Line
scan_line k Done = Idle
scan_line k Missing = Scanned k None
scan_line k (Word x) = Idle
scan_line k (Pair l x) = Scanned k (Some l)
scan_line k (Point i) = Idle
scan_line k (No i) = Idle
scan_line k Full = Idle
scan_line k Clash = Idle

-- the line that what was asked and told leaves, but for what it says of the tree
abbrev pub line_for : Op → Answer → Line
line_for (Get k) a = Read k
line_for (Put k x) a = Wrote k x
line_for (Drop k) a = Cleared k None
line_for (Next k) a = scan_line k a
line_for Mark a = Marked
line_for (Back j) a = Idle
line_for Commit a = Idle
line_for Undo a = Idle

-- a drop's line with the tree's first key above its own
abbrev pub with_above : Option ℕ → Line → Line
with_above a Idle = Idle
with_above a (Wrote k x) = Wrote k x
with_above a (Cleared k s) = Cleared k a
with_above a (Stale k) = Stale k
with_above a (Read k) = Read k
with_above a (Scanned k f) = Scanned k f
with_above a Marked = Marked

-- the lines as what is gone back over has no effect any more
abbrev pub gone_by : Op → List Line → List Line
gone_by (Get k) ls = ls
gone_by (Put k x) ls = ls
gone_by (Drop k) ls = ls
gone_by (Next k) ls = ls
gone_by Mark ls = ls
gone_by (Back j) ls = backed (suc j) ls
gone_by Commit ls = ls
gone_by Undo ls = ls

abbrev pub then_lines : Said → List Line → List Line
then_lines s ls = gone_by s.op ls ++ line_for s.op s.told ∷ []

unfoldable pub lines_from : List Line → List Said → List Line
lines_from ls [] = ls
lines_from ls (s ∷ ss) = lines_from (then_lines s ls) ss

-- THE LINES OF A DEAL
abbrev pub said_lines : List Said → List Line
said_lines ss = lines_from [] ss

-- WHAT IS ASKED, as what it touches; found: what a Next would find
abbrev pub want_of : Op → Option ℕ → Want
want_of (Get k) f = Look k
want_of (Put k x) f = Write k
want_of (Drop k) f = Write k
want_of (Next k) f = Scan k f
want_of Mark f = Nothing
want_of (Back j) f = Nothing
want_of Commit f = Nothing
want_of Undo f = Nothing

-- the key that a Next would find, by what it would be told
unfoldable pub Found : Answer → Option ℕ → Type 0
Found Done f = ⊥
Found Missing f = f ≡ None
Found (Word x) f = ⊥
Found (Pair l x) f = f ≡ Some l
Found (Point i) f = ⊥
Found (No i) f = ⊥
Found Full f = ⊥
Found Clash f = ⊥

-- only a Next must know it
unfoldable pub Finds : Op → Answer → Option ℕ → Type 0
Finds (Get k) a f = Unit {0}
Finds (Put k x) a f = Unit {0}
Finds (Drop k) a f = Unit {0}
Finds (Next k) a f = Found a f
Finds Mark a f = Unit {0}
Finds (Back j) a f = Unit {0}
Finds Commit a f = Unit {0}
Finds Undo a f = Unit {0}
