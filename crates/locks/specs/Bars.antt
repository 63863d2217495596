-- What is in the way of what.
use Rattle.std.specs.Prelude.{ℕ, Bool, false, ◌&&◌, ◌||◌, List, [], ◌∷◌, Some, None, Option, ◌==◌, nat_le, nat_lt}
use Rattle.lines.specs.declared.line.Line.{Line}
use Rattle.lines.specs.declared.line.Line.TheVariants.{Idle, Wrote, Cleared, Stale, Read, Scanned, Marked}
use Rattle.locks.specs.declared.way.Want.{Want}
use Rattle.locks.specs.declared.way.Want.TheVariants.{Nothing, Look, Write, Scan}

-- k is above j, and not above what is found
abbrev pub within : ℕ → ℕ → Option ℕ → Bool
within k j None = nat_lt j k
within k j (Some l) = nat_lt j k && nat_le k l

-- the key that a line writes, if it does: what was gone back over still counts
abbrev pub written : Line → Option ℕ
written Idle = None
written (Wrote q x) = Some q
written (Cleared q s) = Some q
written (Stale q) = Some q
written (Read q) = None
written (Scanned q f) = None
written Marked = None

abbrev pub writes_key : ℕ → Line → Bool
writes_key k Idle = false
writes_key k (Wrote q x) = k == q
writes_key k (Cleared q s) = k == q
writes_key k (Stale q) = k == q
writes_key k (Read q) = false
writes_key k (Scanned q f) = false
writes_key k Marked = false

abbrev pub looks_key : ℕ → Line → Bool
looks_key k Idle = false
looks_key k (Wrote q x) = false
looks_key k (Cleared q s) = false
looks_key k (Stale q) = false
looks_key k (Read q) = k == q
looks_key k (Scanned q f) = within k q f
looks_key k Marked = false

abbrev pub writes_within : ℕ → Option ℕ → Line → Bool
writes_within j f Idle = false
writes_within j f (Wrote q x) = within q j f
writes_within j f (Cleared q s) = within q j f
writes_within j f (Stale q) = within q j f
writes_within j f (Read q) = false
writes_within j f (Scanned q g) = false
writes_within j f Marked = false

abbrev pub bars : Want → Line → Bool
bars Nothing l = false
bars (Look k) l = writes_key k l
bars (Write k) l = writes_key k l || looks_key k l
bars (Scan j f) l = writes_within j f l

unfoldable pub some_bars : Want → List Line → Bool
some_bars w [] = false
some_bars w (l ∷ ls) = bars w l || some_bars w ls
