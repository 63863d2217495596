-- The lines of a deal are in the way of what is asked exactly where the deal is.
use Rattle.std.proofs.Common.{◌≡◌, ℕ, zero, suc, Bool, false, cond, ◌||◌, List, [], ◌∷◌, map, Option, sym, refl, ap, ◌∙◌, ap₂, arith}
use Rattle.deals.specs.declared.Op.{Op}
use Rattle.deals.specs.declared.Answer.{Answer}
use Rattle.lines.specs.declared.line.Line.{Line}
use Rattle.lines.specs.Marks.{stale, backed}
use Rattle.locks.specs.declared.way.Want.{Want}
use Rattle.locks.specs.declared.way.Want.TheVariants.{Nothing, Look, Write, Scan}
use Rattle.locks.specs.Bars.{within, writes_key, looks_key, writes_within, bars, some_bars}
use Rattle.locks.proofs.Ways.{or_none, or_assoc, bars_push}
use Rattle.deals.specs.Deals.{Said, up_to, writes, looked, write_up_to, some_writes, some_looked, write_within, barred}
use Rattle.deals.specs.Rows.{scan_line, line_for, gone_by, then_lines, lines_from, said_lines, bare, want_of, Found, Finds}
use Rattle.lines.proofs.Going.{is_mark}
use Rattle.deals.proofs.Backs.{back_on}

-- LINES THAT LOCK ALIKE
abbrev Alike : Line → Line → Type 0
Alike l m = ((k : ℕ) → writes_key k m ≡ writes_key k l) × ((k : ℕ) → looks_key k m ≡ looks_key k l) × ((j : ℕ) (f : Option ℕ) → writes_within j f m ≡ writes_within j f l)

alike_bars : (w : Want) (l m : Line) → Alike l m → bars w m ≡ bars w l
alike_bars w l m a = grind arith

-- what is gone back over is as much in the way as before
stale_alike : (l : Line) → Alike l (stale l)
stale_alike l = (λ k. grind arith, λ k. grind arith, λ j f. grind arith)

-- what a line says of the tree doesn't matter
bare_alike : (l : Line) → Alike l (bare l)
bare_alike l = (λ k. grind arith, λ k. grind arith, λ j f. grind arith)

bare_bars : (w : Want) (ls : List Line) → some_bars w (map bare ls) ≡ some_bars w ls
unfolding some_bars
bare_bars w [] = refl
bare_bars w (l ∷ ls) = ap₂ ◌||◌ (alike_bars w l (bare l) (bare_alike l)) (bare_bars w ls)

backed_bars : (w : Want) (n : ℕ) (ls : List Line) → some_bars w (backed n ls) ≡ some_bars w ls
unfolding some_bars
backed_bars w n [] = refl
backed_bars w zero (l ∷ ls) = ap₂ ◌||◌ (alike_bars w l (stale l) (stale_alike l)) (backed_bars w zero ls)
backed_bars w (suc n) (l ∷ ls) = ap (some_bars w) (back_on n l ls) ∙ ap (λ x. bars w l || x) (backed_bars w (cond (is_mark l) n (suc n)) ls)

gone_bars : (w : Want) (o : Op) (ls : List Line) → some_bars w (gone_by o ls) ≡ some_bars w ls
gone_bars w o ls = grind (arith, backed_bars)

-- IN THE WAY, one thing said after the other
unfoldable said_bars : Want → List Said → Bool
said_bars w [] = false
said_bars w (s ∷ ss) = bars w (line_for s.op s.told) || said_bars w ss

lines_bars : (w : Want) (ls : List Line) (ss : List Said) → some_bars w (lines_from ls ss) ≡ (some_bars w ls || said_bars w ss)
unfolding lines_from said_bars
lines_bars w ls [] = sym (or_none (some_bars w ls))
lines_bars w ls (s ∷ ss) =
    lines_bars w (then_lines s ls) ss
    ∙ ap (λ x. x || said_bars w ss) (bars_push w (gone_by s.op ls) (line_for s.op s.told) ∙ ap (λ x. x || bars w (line_for s.op s.told)) (gone_bars w s.op ls))
    ∙ sym (or_assoc (some_bars w ls) (bars w (line_for s.op s.told)) (said_bars w ss))

-- the line of a Next writes nothing, and looks at what it has gone over
scan_writes : (k j : ℕ) (a : Answer) → writes_key k (scan_line j a) ≡ false
scan_writes k j a = grind arith

scan_looks : (k j : ℕ) (a : Answer) → looks_key k (scan_line j a) ≡ up_to k j a
unfolding up_to
scan_looks k j a = grind arith

scan_within : (k : ℕ) (f : Option ℕ) (j : ℕ) (a : Answer) → writes_within k f (scan_line j a) ≡ false
scan_within k f j a = grind arith

one_writes : (k : ℕ) (o : Op) (a : Answer) → writes_key k (line_for o a) ≡ writes k o
unfolding writes
one_writes k o a = grind (arith, scan_writes)

one_touches : (k : ℕ) (o : Op) (a : Answer) → bars (Write k) (line_for o a) ≡ (writes k o || looked k o a)
unfolding writes looked
one_touches k o a = grind (arith, scan_writes, scan_looks)

-- a key within what a Next would find
found_up : (k j : ℕ) (a : Answer) (f : Option ℕ) → Found a f → within k j f ≡ up_to k j a
unfolding Found up_to
found_up k j a f h = grind arith

one_within : (j : ℕ) (b : Answer) (f : Option ℕ) (o : Op) (a : Answer) → Found b f → writes_within j f (line_for o a) ≡ write_up_to j b o
unfolding write_up_to
one_within j b f o a h = grind (arith, scan_within, found_up)

said_writes : (k : ℕ) (ss : List Said) → said_bars (Look k) ss ≡ some_writes k ss
unfolding said_bars some_writes
said_writes k [] = refl
said_writes k (s ∷ ss) = grind (arith, one_writes k s.op s.told, said_writes k ss)

said_touches : (k : ℕ) (ss : List Said) → said_bars (Write k) ss ≡ (some_writes k ss || some_looked k ss)
unfolding said_bars some_writes some_looked
said_touches k [] = refl
said_touches k (s ∷ ss) = grind (arith, one_touches k s.op s.told, said_touches k ss)

said_within : (j : ℕ) (b : Answer) (f : Option ℕ) (ss : List Said) → Found b f → said_bars (Scan j f) ss ≡ write_within j b ss
unfolding said_bars write_within
said_within j b f [] h = refl
said_within j b f (s ∷ ss) h = ap₂ ◌||◌ (one_within j b f s.op s.told h) (said_within j b f ss h)

said_nothing : (ss : List Said) → said_bars Nothing ss ≡ false
unfolding said_bars
said_nothing [] = refl
said_nothing (s ∷ ss) = said_nothing ss

said_bars_lem : (o : Op) (a : Answer) (f : Option ℕ) (ss : List Said) → Finds o a f → said_bars (want_of o f) ss ≡ barred o a ss
unfolding barred Finds
said_bars_lem o a f ss h = grind (arith, said_writes, said_touches, said_within, said_nothing)

-- THE LINES SAY WHAT IS IN THE WAY
pub lines_barred : (ls : List Line) (ss : List Said) (o : Op) (a : Answer) (f : Option ℕ) → map bare ls ≡ said_lines ss → Finds o a f → some_bars (want_of o f) ls ≡ barred o a ss
unfolding some_bars
lines_barred ls ss o a f e h = sym (bare_bars (want_of o f) ls) ∙ ap (some_bars (want_of o f)) e ∙ lines_bars (want_of o f) [] ss ∙ said_bars_lem o a f ss h
