-- What holds of lines, queue and tree, for all of them.
use Rattle.std.specs.Prelude.{◌≡◌, ℕ, List, [], ◌∷◌, ◌++◌, map, Option}
use Rattle.node.specs.Pairs.{find, put_in, drop_in}
use Rattle.lines.specs.declared.line.Line.{Line}
use Rattle.lines.specs.declared.line.Line.TheVariants.{Wrote, Cleared}
use Rattle.lines.specs.Marks.{backed}
use Rattle.view.specs.declared.kept.Change.{Change}
use Rattle.view.specs.Writes.{with_lines, Rising}
use Rattle.view.specs.Sight.{viewed}
use Rattle.view.specs.Upkeep.{change_by, kept_by, LineOk, SuccOk}
use Rattle.view.specs.Adds.{writing}

abbrev pub Pairs : Type 0
Pairs = List (ℕ × ℕ)

-- own lines first, then the queue, then the tree: that is what is found where the queue's writes and then the deal's are done to the tree
abbrev pub ViewIs : Type 0
ViewIs = (t : Pairs) (q o : List Line) (j : ℕ) → Rising t → viewed t q o j ≡ find j (with_lines (with_lines t q) o)

-- the front of the queue may go into the tree
abbrev pub FrontGoes : Type 0
FrontGoes = (t : Pairs) (l : Line) (ls : List Line) → with_lines t (l ∷ ls) ≡ with_lines (with_lines t (l ∷ [])) ls

-- a deal's writes at the queue's end do what the deal did
abbrev pub DealJoins : Type 0
DealJoins = (t : Pairs) (q o : List Line) → with_lines t (q ++ writing o) ≡ with_lines (with_lines t q) o

-- one line more
abbrev pub PutIs : Type 0
PutIs = (t : Pairs) (ls : List Line) (k x : ℕ) → with_lines t (ls ++ Wrote k x ∷ []) ≡ put_in k x (with_lines t ls)

abbrev pub DropIs : Type 0
DropIs = (t : Pairs) (ls : List Line) (k : ℕ) (s : Option ℕ) → with_lines t (ls ++ Cleared k s ∷ []) ≡ drop_in k (with_lines t ls)

abbrev pub StaysRising : Type 0
StaysRising = (t : Pairs) (ls : List Line) → Rising t → Rising (with_lines t ls)

-- the upkeep changes no write, and keeps what is above each dropped key right
abbrev pub UpkeepWrites : Type 0
UpkeepWrites = (t : Pairs) (h : Option Change) (ls : List Line) → with_lines t (map (kept_by h) ls) ≡ with_lines t ls

abbrev pub UpkeepIsRight : Type 0
UpkeepIsRight = (t : Pairs) (l : Line) (ls : List Line) → Rising t → LineOk t l → SuccOk t ls → SuccOk (with_lines t (l ∷ [])) (map (kept_by (change_by l)) ls)

-- so do one line more, as `drop_line` gives it, and the way back to a mark
abbrev pub MoreIsRight : Type 0
MoreIsRight = (t : Pairs) (ls : List Line) (l : Line) → SuccOk t ls → LineOk t l → SuccOk t (ls ++ l ∷ [])

abbrev pub BackIsRight : Type 0
BackIsRight = (t : Pairs) (n : ℕ) (ls : List Line) → SuccOk t ls → SuccOk t (backed n ls)
