-- The lines of a deal have its writes that are in effect, and its marks.
use Rattle.std.proofs.Common.{◌≡◌, ℕ, zero, suc, ◌<◌, ◌≤◌, true, false, cond, List, [], ◌∷◌, ◌++◌, map, length, get_or, take, sym, refl, ap, ◌∙◌, ap₂, inl, inr, arith}
use Rattle.std.proofs.lemmas.List.{append-nil, append_assoc, take_all, length-map}
use Rattle.std.proofs.lemmas.Bool.{cases_lt, lt-ltb, le-ltb}
use Rattle.deals.specs.declared.Op.{Op}
use Rattle.deals.specs.declared.Op.TheVariants.{Get, Put, Drop, Next, Mark, Back, Commit, Undo}
use Rattle.deals.specs.declared.Answer.{Answer}
use Rattle.lines.specs.declared.line.Line.{Line}
use Rattle.lines.specs.declared.line.Line.TheVariants.{Idle, Wrote, Read, Marked}
use Rattle.lines.specs.Marks.{mark_of, marks_in, stale, backed}
use Rattle.deals.specs.Deals.{Book, Said, leaves, marks_of}
use Rattle.deals.specs.Rows.{scan_line, line_for, then_lines, lines_from, bare}
use Rattle.deals.specs.Tables.{lines_in, Keeps}
use Rattle.deals.specs.Writes.{Write, onto, writes_then, marks_then, writes_of, writes_at, effect, write_in, writes_in}
use Rattle.lines.proofs.Going.{is_mark}
use Rattle.deals.proofs.Backs.{back_on, bare_mark}
use Rattle.deals.proofs.Writes.{leaves_is, marks_onto}

-- the writes that were in effect at each mark, after the writes a
unfoldable at_marks : List Write → List Line → List (List Write)
at_marks a [] = []
at_marks a (l ∷ ls) = cond (is_mark l) (a ∷ at_marks a ls) (at_marks (a ++ write_in l) ls)

mark_writes : (l : Line) → is_mark l ≡ true → write_in l ≡ []
mark_writes l e = grind arith

-- ONE MORE LINE
writes_push : (ls : List Line) (l : Line) → writes_in (ls ++ l ∷ []) ≡ writes_in ls ++ write_in l
unfolding writes_in
writes_push [] l = append-nil (write_in l)
writes_push (x ∷ ls) l = grind (arith, append_assoc, writes_push ls l)

marks_push : (a : List Write) (ls : List Line) (l : Line) → at_marks a (ls ++ l ∷ []) ≡ at_marks a ls ++ cond (is_mark l) ((a ++ writes_in ls) ∷ []) []
unfolding at_marks writes_in
marks_push a [] l = grind (arith, append-nil)
marks_push a (x ∷ ls) l = grind (arith, mark_writes, append_assoc, marks_push a ls l, marks_push (a ++ write_in x) ls l)

-- PAST THE LAST MARK THAT STAYS there is nothing in effect
stale_writes : (l : Line) → write_in (stale l) ≡ []
stale_writes l = grind arith

stale_mark : (l : Line) → is_mark (stale l) ≡ false
stale_mark l = grind arith

past_writes : (ls : List Line) → writes_in (backed zero ls) ≡ []
unfolding writes_in
past_writes [] = refl
past_writes (l ∷ ls) = rw (stale_writes l) (past_writes ls)

past_marks : (a : List Write) (ls : List Line) → at_marks a (backed zero ls) ≡ []
unfolding at_marks
past_marks a [] = refl
past_marks a (l ∷ ls) = rw (stale_mark l) (past_marks (a ++ write_in (stale l)) ls)

-- back to a mark that stands: the writes then, the marks up to it
back_writes : (ls : List Line) (n : ℕ) (a : List Write) → n < length (at_marks a ls) → a ++ writes_in (backed (suc n) ls) ≡ get_or (at_marks a ls) n []
unfolding writes_in at_marks
back_writes [] n a h = absurd (omega arith)
back_writes (l ∷ ls) zero a h = grind (arith, back_on 0 l ls, mark_writes, past_writes, append-nil, append_assoc, back_writes ls zero (a ++ write_in l))
back_writes (l ∷ ls) (suc n) a h = grind (arith, back_on (suc n) l ls, mark_writes, append_assoc, back_writes ls n a, back_writes ls (suc n) (a ++ write_in l))

back_marks : (ls : List Line) (n : ℕ) (a : List Write) → at_marks a (backed (suc n) ls) ≡ take (suc n) (at_marks a ls)
unfolding at_marks
back_marks [] n a = refl
back_marks (l ∷ ls) zero a = grind (arith, back_on 0 l ls, past_marks, back_marks ls zero (a ++ write_in l))
back_marks (l ∷ ls) (suc n) a = grind (arith, back_on (suc n) l ls, back_marks ls n a, back_marks ls (suc n) (a ++ write_in l))

-- back to none: nothing is gone over
back_none : (ls : List Line) (n : ℕ) (a : List Write) → length (at_marks a ls) ≤ n → backed (suc n) ls ≡ ls
unfolding at_marks
back_none [] n a h = refl
back_none (l ∷ ls) zero a h = grind (arith, back_on 0 l ls, back_none ls zero (a ++ write_in l))
back_none (l ∷ ls) (suc n) a h = grind (arith, back_on (suc n) l ls, back_none ls n a, back_none ls (suc n) (a ++ write_in l))

-- ONE MORE IS TOLD: the lines' writes are as the deal's
scan_plain : (k : ℕ) (x : Answer) → (write_in (scan_line k x) ≡ []) × (is_mark (scan_line k x) ≡ false)
scan_plain k x = grind arith

plain_writes : (ls : List Line) (l : Line) → write_in l ≡ [] → writes_in (ls ++ l ∷ []) ≡ writes_in ls
plain_writes ls l e = writes_push ls l ∙ ap (λ y. writes_in ls ++ y) e ∙ append-nil (writes_in ls)

plain_marks : (ls : List Line) (l : Line) → is_mark l ≡ false → at_marks [] (ls ++ l ∷ []) ≡ at_marks [] ls
plain_marks ls l e = marks_push [] ls l ∙ ap (λ y. at_marks [] ls ++ cond y (writes_in ls ∷ []) []) e ∙ append-nil (at_marks [] ls)

then_writes : (o : Op) (x : Answer) (ls : List Line) → writes_in (then_lines (record { op = o; told = x }) ls) ≡ writes_then o (writes_in ls) (at_marks [] ls)
then_writes (Get k) x ls = plain_writes ls (Read k) refl
then_writes (Put k y) x ls = writes_push ls (Wrote k y)
then_writes (Drop k) x ls = writes_push ls (line_for (Drop k) x)
then_writes (Next k) x ls = plain_writes ls (scan_line k x) (scan_plain k x).0
then_writes Mark x ls = plain_writes ls Marked refl
then_writes (Back j) x ls =
    plain_writes (backed (suc j) ls) Idle refl
    ∙ elim (cases_lt j (length (at_marks [] ls))) [
      | inl h ↦ rw (lt-ltb j (length (at_marks [] ls)) h) (back_writes ls j [] h)
      | inr h ↦ rw (le-ltb j (length (at_marks [] ls)) h) (ap writes_in (back_none ls j [] h))
    ]
then_writes Commit x ls = plain_writes ls Idle refl
then_writes Undo x ls = plain_writes ls Idle refl

then_marks : (o : Op) (x : Answer) (ls : List Line) → at_marks [] (then_lines (record { op = o; told = x }) ls) ≡ marks_then o (writes_in ls) (at_marks [] ls)
then_marks (Get k) x ls = plain_marks ls (Read k) refl
then_marks (Put k y) x ls = plain_marks ls (Wrote k y) refl
then_marks (Drop k) x ls = plain_marks ls (line_for (Drop k) x) refl
then_marks (Next k) x ls = plain_marks ls (scan_line k x) (scan_plain k x).1
then_marks Mark x ls = marks_push [] ls Marked
then_marks (Back j) x ls =
    plain_marks (backed (suc j) ls) Idle refl
    ∙ back_marks ls j []
    ∙ elim (cases_lt j (length (at_marks [] ls))) [
      | inl h ↦ rw (lt-ltb j (length (at_marks [] ls)) h)
      | inr h ↦ rw (le-ltb j (length (at_marks [] ls)) h) (take_all (suc j) (at_marks [] ls) (omega arith))
    ]
then_marks Commit x ls = plain_marks ls Idle refl
then_marks Undo x ls = plain_marks ls Idle refl

from_writes : (ls : List Line) (ss : List Said) → writes_in (lines_from ls ss) ≡ writes_of ss (writes_in ls) (at_marks [] ls)
unfolding lines_from
from_writes ls [] = refl
from_writes ls (s ∷ ss) = from_writes (then_lines s ls) ss ∙ ap₂ (writes_of ss) (then_writes s.op s.told ls) (then_marks s.op s.told ls)

from_marks : (ls : List Line) (ss : List Said) → at_marks [] (lines_from ls ss) ≡ writes_at ss (writes_in ls) (at_marks [] ls)
unfolding lines_from
from_marks ls [] = refl
from_marks ls (s ∷ ss) = from_marks (then_lines s ls) ss ∙ ap₂ (writes_at ss) (then_writes s.op s.told ls) (then_marks s.op s.told ls)

-- what lines say of the tree doesn't matter
bare_write : (l : Line) → write_in (bare l) ≡ write_in l
bare_write l = grind arith

bare_writes : (ls : List Line) → writes_in (map bare ls) ≡ writes_in ls
unfolding writes_in
bare_writes [] = refl
bare_writes (l ∷ ls) = ap₂ ◌++◌ (bare_write l) (bare_writes ls)

bare_marks : (a : List Write) (ls : List Line) → at_marks a (map bare ls) ≡ at_marks a ls
unfolding at_marks
bare_marks a [] = refl
bare_marks a (l ∷ ls) = grind (arith, bare_mark, bare_write, bare_marks a ls, bare_marks (a ++ write_in l) ls)

mark_is : (l : Line) → mark_of l ≡ cond (is_mark l) 1 0
mark_is l = grind arith

count_marks : (a : List Write) (ls : List Line) → length (at_marks a ls) ≡ marks_in ls
unfolding at_marks
count_marks a [] = refl
count_marks a (l ∷ ls) = grind (arith, mark_is, count_marks a ls, count_marks (a ++ write_in l) ls)

-- THE TABLE HAS THE DEAL'S WRITES
pub table_writes : (room : List ℕ) (c : ℕ) (ss : List Said) → Keeps room c ss → writes_in (lines_in room c) ≡ effect ss
unfolding writes_in at_marks
table_writes room c ss i = sym (bare_writes (lines_in room c)) ∙ ap writes_in i.lines ∙ from_writes [] ss

-- doing them to the book gives what the deal leaves
pub table_leaves : (room : List ℕ) (c : ℕ) (ss : List Said) (b : Book) → Keeps room c ss → leaves ss b [] ≡ onto b (writes_in (lines_in room c))
table_leaves room c ss b i = leaves_is b ss ∙ ap (onto b) (sym (table_writes room c ss i))

-- and its marks
pub table_marks : (room : List ℕ) (c : ℕ) (ss : List Said) (b : Book) → Keeps room c ss → marks_in (lines_in room c) ≡ length (marks_of ss b [])
unfolding writes_in at_marks
table_marks room c ss b i =
    sym (count_marks [] (lines_in room c)) ∙ ap length (sym (bare_marks [] (lines_in room c)) ∙ ap (at_marks []) i.lines ∙ from_marks [] ss)
    ∙ sym (ap length (marks_onto b ss [] []) ∙ length-map (writes_at ss [] []) (onto b))
