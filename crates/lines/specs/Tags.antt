-- The kinds of lines by their numbers.
use Rattle.std.specs.Prelude.{ℕ, cond, ◌==◌}
use Rattle.lines.specs.declared.line.Tag.{Tag}
use Rattle.lines.specs.declared.line.Tag.TheVariants.{Idle, Wrote, ClearedLast, Cleared, Stale, Read, ScannedLast, Scanned, Marked}

-- a number that no kind has is Idle's
abbrev pub tag_by : ℕ → Tag
tag_by n =
    cond (n == 1) Wrote (cond (n == 2) ClearedLast (cond (n == 3) Cleared (cond (n == 4) Stale (cond (n == 5) Read (cond (n == 6) ScannedLast (cond (n == 7) Scanned (cond (n == 8) Marked Idle)))))))
