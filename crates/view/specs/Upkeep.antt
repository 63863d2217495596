-- The tree's first key above a dropped one, and how it is kept while the tree changes.
use Rattle.std.specs.Prelude.{◌≡◌, ℕ, cond, ◌&&◌, List, Some, None, Option, ◌==◌, nat_lt}
use Rattle.std.specs.List.{AllByRecursion}
use Rattle.node.specs.Pairs.{above}
use Rattle.lines.specs.declared.line.Line.{Line}
use Rattle.lines.specs.declared.line.Line.TheVariants.{Idle, Wrote, Cleared, Stale, Read, Scanned, Marked}
use Rattle.view.specs.declared.kept.Change.{Change}
use Rattle.view.specs.declared.kept.Change.TheVariants.{Gained, Lost}

abbrev pub key_of : Option (ℕ × ℕ) → Option ℕ
key_of None = None
key_of (Some e) = Some e.0

-- the first key above k
unfoldable pub next_key : ℕ → List (ℕ × ℕ) → Option ℕ
next_key k t = key_of (above k t)

-- the first key above k, o before, as the tree gains m; as it loses t, n being the first above t
abbrev pub gained : ℕ → ℕ → Option ℕ → Option ℕ
gained m k None = cond (nat_lt k m) (Some m) None
gained m k (Some s) = cond (nat_lt k m && nat_lt m s) (Some m) (Some s)

abbrev pub lost : ℕ → Option ℕ → Option ℕ → Option ℕ
lost t n None = None
lost t n (Some s) = cond (s == t) n (Some s)

abbrev pub kept_succ : Option Change → ℕ → Option ℕ → Option ℕ
kept_succ None k o = o
kept_succ (Some (Gained m)) k o = gained m k o
kept_succ (Some (Lost t n)) k o = lost t n o

-- what the tree gains or loses by a line, if anything
abbrev pub change_by : Line → Option Change
change_by Idle = None
change_by (Wrote k x) = Some (Gained k)
change_by (Cleared k s) = Some (Lost k s)
change_by (Stale k) = None
change_by (Read k) = None
change_by (Scanned k q) = None
change_by Marked = None

abbrev pub kept_by : Option Change → Line → Line
kept_by h Idle = Idle
kept_by h (Wrote k x) = Wrote k x
kept_by h (Cleared k o) = Cleared k (kept_succ h k o)
kept_by h (Stale k) = Stale k
kept_by h (Read k) = Read k
kept_by h (Scanned k q) = Scanned k q
kept_by h Marked = Marked

-- a dropped key has the tree's first key above it
abbrev pub LineOk : List (ℕ × ℕ) → Line → Type 0
LineOk t Idle = Unit {0}
LineOk t (Wrote k x) = Unit {0}
LineOk t (Cleared k s) = s ≡ next_key k t
LineOk t (Stale k) = Unit {0}
LineOk t (Read k) = Unit {0}
LineOk t (Scanned k q) = Unit {0}
LineOk t Marked = Unit {0}

abbrev pub SuccOk : List (ℕ × ℕ) → List Line → Type 0
SuccOk t ls = AllByRecursion (LineOk t) ls
