-- What lines say of a key, and what a deal sees: its own lines first, then the queue, then the tree.
use Rattle.std.specs.Prelude.{ℕ, Bool, true, false, cond, List, [], ◌∷◌, Some, None, Option, ◌==◌}
use Rattle.node.specs.Pairs.{find}
use Rattle.lines.specs.declared.line.Line.{Line}
use Rattle.lines.specs.declared.line.Line.TheVariants.{Idle, Wrote, Cleared, Stale, Read, Scanned, Marked}
use Rattle.view.specs.declared.seen.Seen.{Seen}
use Rattle.view.specs.declared.seen.Seen.TheVariants.{There, Away}

-- what a line says of the key j, or what was said before; none where nothing is said
abbrev pub seen_line : ℕ → Line → Option Seen → Option Seen
seen_line j Idle d = d
seen_line j (Wrote k x) d = cond (j == k) (Some (There x)) d
seen_line j (Cleared k s) d = cond (j == k) (Some (Away s)) d
seen_line j (Stale k) d = d
seen_line j (Read k) d = d
seen_line j (Scanned k q) d = d
seen_line j Marked d = d

-- the last line that writes the key, or what was said before
abbrev pub seen_in : ℕ → List Line → Option Seen → Option Seen
seen_in j [] d = d
seen_in j (l ∷ ls) d = seen_in j ls (seen_line j l d)

-- what the queue, and then a deal's own lines, say of a key
unfoldable pub says : List Line → List Line → ℕ → Option Seen
says q o j = seen_in j o (seen_in j q None)

-- the word, where there is one
abbrev pub word_of : Seen → Option ℕ
word_of (There x) = Some x
word_of (Away s) = None

-- what is found, if the lines say this and the tree has that
abbrev pub as_found : Option Seen → Option ℕ → Option ℕ
as_found (Some s) d = word_of s
as_found None d = d

abbrev pub is_there : Option Seen → Bool
is_there (Some (There x)) = true
is_there (Some (Away s)) = false
is_there None = false

-- WHAT A DEAL SEES at a key: by its lines o and the queue q, else in the tree t
unfoldable pub viewed : List (ℕ × ℕ) → List Line → List Line → ℕ → Option ℕ
viewed t q o j = as_found (says q o j) (find j t)
