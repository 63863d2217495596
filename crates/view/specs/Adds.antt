-- The lines of a deal that write.
use Rattle.std.specs.Prelude.{Bool, true, false, List, filter}
use Rattle.lines.specs.declared.line.Line.{Line}
use Rattle.lines.specs.declared.line.Line.TheVariants.{Idle, Wrote, Cleared, Stale, Read, Scanned, Marked}

abbrev pub is_write : Line → Bool
is_write Idle = false
is_write (Wrote k x) = true
is_write (Cleared k s) = true
is_write (Stale k) = false
is_write (Read k) = false
is_write (Scanned k q) = false
is_write Marked = false

abbrev pub writing : List Line → List Line
writing ls = filter is_write ls
