-- A line, as three words.
use Rattle.std.specs.Prelude.{ℕ, ◌+◌, ◌*◌, cond, List, Some, None, ◌==◌, slice_index}
use Rattle.lines.specs.declared.line.Line.{Line}
use Rattle.lines.specs.declared.line.Line.TheVariants.{Idle, Wrote, Cleared, Stale, Read, Scanned, Marked}

abbrev pub tag_of : Line → ℕ
tag_of Idle = 0
tag_of (Wrote k x) = 1
tag_of (Cleared k None) = 2
tag_of (Cleared k (Some s)) = 3
tag_of (Stale k) = 4
tag_of (Read k) = 5
tag_of (Scanned k None) = 6
tag_of (Scanned k (Some q)) = 7
tag_of Marked = 8

abbrev pub first_of : Line → ℕ
first_of Idle = 0
first_of (Wrote k x) = k
first_of (Cleared k None) = k
first_of (Cleared k (Some s)) = k
first_of (Stale k) = k
first_of (Read k) = k
first_of (Scanned k None) = k
first_of (Scanned k (Some q)) = k
first_of Marked = 0

abbrev pub second_of : Line → ℕ
second_of Idle = 0
second_of (Wrote k x) = x
second_of (Cleared k None) = 0
second_of (Cleared k (Some s)) = s
second_of (Stale k) = 0
second_of (Read k) = 0
second_of (Scanned k None) = 0
second_of (Scanned k (Some q)) = q
second_of Marked = 0

-- a tag that no line has is read as Idle
abbrev pub line_of : ℕ → ℕ → ℕ → Line
line_of t a b =
    cond (t == 1) (Wrote a b) (cond (t == 2) (Cleared a None) (cond (t == 3) (Cleared a (Some b)) (cond (t == 4) (Stale a) (cond (t == 5) (Read a)
    (cond (t == 6) (Scanned a None) (cond (t == 7) (Scanned a (Some b)) (cond (t == 8) Marked Idle)))))))

abbrev pub line_at : List ℕ → ℕ → Line
line_at w p = line_of (slice_index w (3 * p)) (slice_index w (3 * p + 1)) (slice_index w (3 * p + 2))

-- a line but for what it says of the tree
abbrev pub bare : Line → Line
bare Idle = Idle
bare (Wrote k x) = Wrote k x
bare (Cleared k s) = Cleared k None
bare (Stale k) = Stale k
bare (Read k) = Read k
bare (Scanned k f) = Scanned k f
bare Marked = Marked
