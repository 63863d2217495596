-- One is served: what each way of it leaves to show.
use Rattle.std.proofs.Common.{◌≡◌, ℕ, suc, ◌+◌, ◌<◌, ◌≤◌, true, false, not, T, List, [], ◌∷◌, ◌++◌, length, filter, Some, None, Option, sym, refl, ap, ◌∙◌, subst, arith}
use Rattle.std.proofs.lemmas.Bool.{false≢true}
use Rattle.lines.specs.declared.line.Line.{Line}
use Rattle.lines.specs.declared.line.Line.TheVariants.{Idle, Wrote, Cleared, Stale, Read, Scanned, Marked}
use Rattle.locks.specs.declared.graph.Pick.{Pick}
use Rattle.view.specs.Adds.{is_write}
use Rattle.view.specs.Upkeep.{LineOk, SuccOk}
use Rattle.view.proofs.Upkeeps.{more_ok, back_ok}
use Rattle.ledger.specs.Ledger.{now_pairs, limit}
use Rattle.deals.specs.declared.Op.{Op}
use Rattle.deals.specs.declared.Op.TheVariants.{Get, Put, Drop, Next, Mark, Back, Commit, Undo}
use Rattle.deals.specs.declared.Answer.{Answer}
use Rattle.deals.specs.declared.Answer.TheVariants.{Done, No, Full, Clash}
use Rattle.deals.specs.declared.engine.Office.{Office}
use Rattle.deals.specs.Disk.{Disk}
use Rattle.deals.specs.Drives.{medium_of}
use Rattle.deals.specs.Deals.{Event, Book, Said, State, Now, Under, Over, Run, set_clerk, told, ends, longest, is_put, may_be_full, blocked, ring, core, comes_to}
use Rattle.deals.specs.Promise.{can}
use Rattle.deals.specs.Rows.{gone_by, Finds}
use Rattle.deals.specs.Writes.{effect, writes_in}
use Rattle.deals.specs.Tables.{is_under, op_at, order_of, lines_in, rest_of, SameLines, OnlyLines, Desk}
use Rattle.deals.specs.LineUps.{age_of, TablesHold, Served, FindsFor}
use Rattle.deals.specs.declared.refusals.Refusal.{Refusal}
use Rattle.deals.specs.declared.refusals.Refusal.TheVariants.{NoMark, TooLong, NotBuilt}
use Rattle.deals.specs.Refusals.{Refuses, not_built, too_long, no_mark, goes_on}
use Rattle.deals.specs.Holds.{is_over}
use Rattle.deals.specs.Sits.{is_put_line, puts_in, Seated, Sits, Answered, Serving, GoesOn}
use Rattle.deals.proofs.Apart.{apart_stays, apart_undone}
use Rattle.deals.proofs.Good.{Good, good_answers, good_undoes, good_clashes, good_full, good_too_long, good_not_built}
use Rattle.deals.proofs.Holding.{same_deal, holds_young}
use Rattle.deals.proofs.Ages.{set_same, set_other}
use Rattle.deals.proofs.Seating.{seated_like}
use Rattle.deals.proofs.Turning.{writes_set, puts_set, seated_served}

-- WHAT THE ONE PICKED ASKS
pub asked : (room : List ℕ) (s : State) (p : Pick) → TablesHold can true room s → Served can s (order_of room) p → (g : ℕ) × ((s.clerk p.who).now' ≡ Under (op_at room p.who) g)
asked room s p i v = i.asks p.who v.few (subst (λ c. is_under (s.clerk c).now' ≡ true) v.there (i.line.under p.place v.among))

-- IT IS SERVED, and told a: whatever its deal is then, and the book
pub answered_by : (p : ℕ) (es : List Event) (f g : Office) (room then : List ℕ) (d e : Disk) (s : State) (b : Book) (c : ℕ) (deal : List Said) (o : Op) (a : Answer) (k : ℕ) → Sits p f room d s → c < 32 → (s.clerk c).now' ≡ Under o k
    → Run can p es (set_clerk c deal (Over o a k) (record { book = b; clerk = s.clerk })) → Seated false p g then e (set_clerk c deal (Over o a k) (record { book = b; clerk = s.clerk }))
    → Answered p es g then e (Some (c, a))
unfolding age_of
answered_by p es f g room then d e s b c deal o a k i l q run seated =
    let here = set_same s b c c deal (Over o a k) refl in
    record {
      to = set_clerk c deal (Over o a k) (record { book = b; clerk = s.clerk });
      run = run;
      seated = seated;
      tells = (o, k, here);
      alone = (omega (arith, ap age_of here, holds_young can true room s c o k i.seated.tables l q), λ j h. ap is_over (set_other s b c j deal (Over o a k) h) ∙ i.told j);
    }

-- TURNED AWAY: the deal stays
pub seated_away : (p : ℕ) (f : Office) (room then : List ℕ) (d : Disk) (s : State) (c : ℕ) (n : Now) → Sits p f room d s → TablesHold can false then (set_clerk c (s.clerk c).deal n s) → SameLines room then → rest_of then ≡ rest_of room
    → Seated false p f then d (set_clerk c (s.clerk c).deal n s)
seated_away p f room then d s c n i tables lines rest =
    let r = set_clerk c (s.clerk c).deal n s in
    seated_like true false p f room then d s r i.seated.records i.seated tables (apart_stays s c n i.seated.apart) refl (λ e. sym (same_deal s c n e)) lines rest

good : (p : ℕ) (es : List Event) (f : Office) (room : List ℕ) (d : Disk) (s : State) → Run can p es s → Sits p f room d s → Good can p es s
good p es f room d s run i = record { run = run; apart = i.seated.apart }

pub away_not_built : (p : ℕ) (es : List Event) (f : Office) (room then : List ℕ) (d : Disk) (s : State) (c : ℕ) (o : Op) (k : ℕ) → Run can p es s → Sits p f room d s → c < 32 → (s.clerk c).now' ≡ Under o k → T (not (can o))
    → Seated false p f then d (set_clerk c (s.clerk c).deal (Over o (No 9) k) s) → Answered p es f then d (Some (c, No 9))
away_not_built p es f room then d s c o k run i l q n seated =
    let r = good_not_built can p es s c o k (good p es f room d s run i) q n in
    answered_by p es f f room then d d s s.book c (s.clerk c).deal o (No 9) k i l q r.run seated

pub away_too_long : (p : ℕ) (es : List Event) (f : Office) (room then : List ℕ) (d : Disk) (s : State) (c : ℕ) (o : Op) (k : ℕ) → Run can p es s → Sits p f room d s → c < 32 → (s.clerk c).now' ≡ Under o k
    → T (can o) → T (not (ends o)) → longest ≤ length (s.clerk c).deal
    → Seated false p f then d (set_clerk c (s.clerk c).deal (Over o (No 5) k) s) → Answered p es f then d (Some (c, No 5))
away_too_long p es f room then d s c o k run i l q m n h seated =
    let r = good_too_long can p es s c o k (good p es f room d s run i) q m n h in
    answered_by p es f f room then d d s s.book c (s.clerk c).deal o (No 5) k i l q r.run seated

pub away_full : (p : ℕ) (es : List Event) (f : Office) (room then : List ℕ) (d : Disk) (s : State) (c : ℕ) (o : Op) (k : ℕ) → Run can p es s → Sits p f room d s → c < 32 → (s.clerk c).now' ≡ Under o k
    → T (can o) → T (is_put o) → T (may_be_full p s)
    → Seated false p f then d (set_clerk c (s.clerk c).deal (Over o Full k) s) → Answered p es f then d (Some (c, Full))
away_full p es f room then d s c o k run i l q m u h seated =
    let r = good_full can p es s c o k (good p es f room d s run i) q m u h in
    answered_by p es f f room then d d s s.book c (s.clerk c).deal o Full k i l q r.run seated

-- TAKEN APART: the office g counts its writes no more
pub seated_apart : (p : ℕ) (f g : Office) (room then : List ℕ) (d : Disk) (s : State) (c : ℕ) (n : Now) → Sits p f room d s → c < 32 → TablesHold can false then (set_clerk c [] n s) → OnlyLines c [] room then → rest_of then ≡ rest_of room
    → g.ledger ≡ f.ledger → g.tally.writes + length (effect (s.clerk c).deal) ≡ f.tally.writes → g.tally.puts + puts_in (effect (s.clerk c).deal) ≡ f.tally.puts
    → Seated false p g then d (set_clerk c [] n s)
unfolding puts_in
seated_apart p f g room then d s c n i l tables lines rest e w u =
    let x = writes_set s c [] n l in
    let y = puts_set s c [] n l in
    seated_served p f g room then d s c [] n [] i.seated e tables (apart_undone s c n i.seated.apart) lines tt rest (omega (arith, x, i.seated.records)) (omega (arith, y, i.seated.room_left)) (omega (arith, w, x, i.seated.writes)) (omega (arith, u, y, i.seated.puts))

pub undone : (p : ℕ) (es : List Event) (f g : Office) (room then : List ℕ) (d : Disk) (s : State) (c k : ℕ) → Run can p es s → Sits p f room d s → c < 32 → (s.clerk c).now' ≡ Under Undo k
    → Seated false p g then d (set_clerk c [] (Over Undo Done k) s) → Answered p es g then d (Some (c, Done))
undone p es f g room then d s c k run i l q seated = answered_by p es f g room then d d s s.book c [] Undo Done k i l q (good_undoes can p es s c k (good p es f room d s run i) q).run seated

pub clashed : (p : ℕ) (es : List Event) (f g : Office) (room then : List ℕ) (d : Disk) (s : State) (c k : ℕ) (o : Op) → Run can p es s → Sits p f room d s → c < 32 → (s.clerk c).now' ≡ Under o k → T (ring can s c)
    → Seated false p g then d (set_clerk c [] (Over o Clash k) s) → Answered p es g then d (Some (c, Clash))
clashed p es f g room then d s c k o run i l q r seated = answered_by p es f g room then d d s s.book c [] o Clash k i l q (good_clashes can p es s c o k (good p es f room d s run i) q r).run seated

-- WITHIN THE DEAL: what it's told is so, and nobody is in the way. line: what it leaves; g counts its writes
pub told_so : (p : ℕ) (es : List Event) (f g : Office) (room then : List ℕ) (d : Disk) (s : State) (c k : ℕ) (o : Op) (a : Answer) (line : Line) → Run can p es s → Sits p f room d s → c < 32 → (s.clerk c).now' ≡ Under o k
    → T (can o) → T (not (ends o)) → length (s.clerk c).deal < longest → T (not (blocked can s c)) → told o (s.clerk c).deal s.book ≡ a
    → TablesHold can false then (set_clerk c ((s.clerk c).deal ++ record { op = o; told = a } ∷ []) (Over o a k) s)
    → OnlyLines c (gone_by o (lines_in room c) ++ line ∷ []) room then → rest_of then ≡ rest_of room
    → SuccOk (now_pairs (medium_of d) room f.ledger) (gone_by o (lines_in room c)) → LineOk (now_pairs (medium_of d) room f.ledger) line
    → g.ledger ≡ f.ledger
    → g.tally.writes + length (effect (s.clerk c).deal) ≡ f.tally.writes + length (effect ((s.clerk c).deal ++ record { op = o; told = a } ∷ []))
    → g.tally.puts + puts_in (effect (s.clerk c).deal) ≡ f.tally.puts + puts_in (effect ((s.clerk c).deal ++ record { op = o; told = a } ∷ []))
    → length (effect ((s.clerk c).deal ++ record { op = o; told = a } ∷ [])) ≤ length (effect (s.clerk c).deal) + 1
    → length s.book + g.tally.puts ≤ limit p
    → Answered p es g then d (Some (c, a))
told_so p es f g room then d s c k o a line run i l q m n h free is tables lines rest old new e w u one room_left =
    let deal : List Said = (s.clerk c).deal ++ record { op = o; told = a } ∷ [] in
    let r = good_answers can p es s c o k a (good p es f room d s run i) q m n h free is in
    let x = writes_set s c deal (Over o a k) l in
    let y = puts_set s c deal (Over o a k) l in
    let ls = gone_by o (lines_in room c) ++ line ∷ [] in
    let ok = more_ok (now_pairs (medium_of d) room f.ledger) (gone_by o (lines_in room c)) line old new in
    answered_by p es f g room then d d s s.book c deal o a k i l q r.run
    (seated_served p f g room then d s c deal (Over o a k) ls i.seated e tables r.apart lines ok rest (omega (arith, x, one, i.seated.records)) (omega (arith, y, u, i.seated.puts, room_left)) (omega (arith, w, x, i.seated.writes)) (omega (arith, u, y, i.seated.puts)))

-- what was gone back over tells nothing wrong of the tree
pub gone_ok : (t : List (ℕ × ℕ)) (o : Op) (ls : List Line) → SuccOk t ls → SuccOk t (gone_by o ls)
gone_ok t (Get k) ls h = h
gone_ok t (Put k x) ls h = h
gone_ok t (Drop k) ls h = h
gone_ok t (Next k) ls h = h
gone_ok t Mark ls h = h
gone_ok t (Back j) ls h = back_ok t _ ls h
gone_ok t Commit ls h = h
gone_ok t Undo ls h = h

-- THE WRITES OF A DEAL, counted among its lines
pub writes_counted : (ls : List Line) → length (filter is_write ls) ≡ length (writes_in ls)
unfolding writes_in
writes_counted [] = refl
writes_counted (Idle ∷ ls) = writes_counted ls
writes_counted (Wrote k x ∷ ls) = ap suc (writes_counted ls)
writes_counted (Cleared k x ∷ ls) = ap suc (writes_counted ls)
writes_counted (Stale k ∷ ls) = writes_counted ls
writes_counted (Read k ∷ ls) = writes_counted ls
writes_counted (Scanned k x ∷ ls) = writes_counted ls
writes_counted (Marked ∷ ls) = writes_counted ls

pub puts_counted : (ls : List Line) → length (filter is_put_line ls) ≡ puts_in (writes_in ls)
unfolding writes_in puts_in
puts_counted [] = refl
puts_counted (Idle ∷ ls) = puts_counted ls
puts_counted (Wrote k x ∷ ls) = ap suc (puts_counted ls)
puts_counted (Cleared k x ∷ ls) = puts_counted ls
puts_counted (Stale k ∷ ls) = puts_counted ls
puts_counted (Read k ∷ ls) = puts_counted ls
puts_counted (Scanned k x ∷ ls) = puts_counted ls
puts_counted (Marked ∷ ls) = puts_counted ls

-- all deals have as many as one of them, and more
pub writes_least : (p : ℕ) (f : Office) (room : List ℕ) (d : Disk) (s : State) (c : ℕ) → Sits p f room d s → c < 32 → length (effect (s.clerk c).deal) ≤ f.tally.writes
writes_least p f room d s c i l = omega (arith, writes_set s c [] (s.clerk c).now' l, i.seated.writes)

pub puts_least : (p : ℕ) (f : Office) (room : List ℕ) (d : Disk) (s : State) (c : ℕ) → Sits p f room d s → c < 32 → puts_in (effect (s.clerk c).deal) ≤ f.tally.puts
unfolding puts_in
puts_least p f room d s c i l = omega (arith, puts_set s c [] (s.clerk c).now' l, i.seated.puts)

-- nothing that is built asks for the key that a Next would find
finds_op : (o : Op) (d : List Said) (a : Answer) (f : Option ℕ) → comes_to can o d ≡ true → Finds o a f
unfolding core Finds
finds_op (Get k) d a f h = tt
finds_op (Put k x) d a f h = tt
finds_op (Drop k) d a f h = tt
finds_op (Next k) d a f h = absurd (false≢true h)
finds_op Mark d a f h = tt
finds_op (Back j) d a f h = tt
finds_op Commit d a f h = tt
finds_op Undo d a f h = tt

pub finds_any : (room : List ℕ) (s : State) (c : ℕ) (f : Option ℕ) → FindsFor can room s c f
finds_any room s c f h = finds_op (op_at room c) (s.clerk c).deal (told (op_at room c) (s.clerk c).deal s.book) f h

-- what doesn't end the deal
pub not_end : (o : Op) → (o ≡ Commit → ⊥) → (o ≡ Undo → ⊥) → T (not (ends o))
unfolding ends
not_end (Get k) c u = tt
not_end (Put k x) c u = tt
not_end (Drop k) c u = tt
not_end (Next k) c u = tt
not_end Mark c u = tt
not_end (Back j) c u = tt
not_end Commit c u = absurd (c refl)
not_end Undo c u = absurd (u refl)

-- what isn't turned away
pub goes_on_by : (o : Op) (d : List Said) (r : Option Refusal) → Refuses can o d r → (r ≡ Some NotBuilt → ⊥) → (r ≡ Some TooLong → ⊥) → T (comes_to can o d)
goes_on_by o d r (not_built n) h g = absurd (h refl)
goes_on_by o d r (too_long m n l) h g = absurd (g refl)
goes_on_by o d r (no_mark t e) h g = t
goes_on_by o d r (goes_on t e) h g = t

-- why it's turned away
abbrev number : Option Refusal → ℕ
number None = 0
number (Some NoMark) = 1
number (Some TooLong) = 2
number (Some NotBuilt) = 3

pub why_not_built : (o : Op) (d : List Said) (r : Option Refusal) → Refuses can o d r → r ≡ Some NotBuilt → T (not (can o))
why_not_built o d r (not_built n) e = n
why_not_built o d r (too_long m n l) e = absurd (omega (arith, ap number e))
why_not_built o d r (no_mark t f) e = absurd (omega (arith, ap number e))
why_not_built o d r (goes_on t f) e = absurd (omega (arith, ap number e))

pub why_too_long : (o : Op) (d : List Said) (r : Option Refusal) → Refuses can o d r → r ≡ Some TooLong → T (can o) × T (not (ends o)) × (longest ≤ length d)
why_too_long o d r (not_built n) e = absurd (omega (arith, ap number e))
why_too_long o d r (too_long m n l) e = (m, n, l)
why_too_long o d r (no_mark t f) e = absurd (omega (arith, ap number e))
why_too_long o d r (goes_on t f) e = absurd (omega (arith, ap number e))

-- the one picked goes on
pub goes_further : (p : ℕ) (es : List Event) (f : Office) (room new old : List ℕ) (d : Disk) (pick : Pick) (s : State) (o : Op) (r : Option Refusal) → Serving p es f room d pick s → pick.clash ≡ false
    → old ≡ room → o ≡ op_at old pick.who → new ≡ room → ((s : State) → Desk new s → Refuses can (op_at new pick.who) (s.clerk pick.who).deal r) → (r ≡ Some NotBuilt → ⊥) → (r ≡ Some TooLong → ⊥)
    → GoesOn p es f room d pick o s
goes_further p es f room new old d pick s o r i calm h e q refuses n m =
    let is : op_at room pick.who ≡ o = sym (e ∙ ap (λ x. op_at x pick.who) h) in
    let z : Refuses can (op_at room pick.who) (s.clerk pick.who).deal r = subst (λ x. Refuses can (op_at x pick.who) (s.clerk pick.who).deal r) q (refuses s (subst (λ x. Desk x s) (sym q) i.sits.seated.tables.desk)) in
    record { serving = i; asks = is; calm = calm; comes = subst (λ x. T (comes_to can x (s.clerk pick.who).deal)) is (goes_on_by (op_at room pick.who) (s.clerk pick.who).deal r z n m) }

pub no_mark_only : (r : Option Refusal) → r ≡ Some NoMark → (r ≡ Some NotBuilt → ⊥) × (r ≡ Some TooLong → ⊥)
no_mark_only r e = (λ h. omega (arith, ap number (sym e ∙ h)), λ h. omega (arith, ap number (sym e ∙ h)))

pub none_only : (r : Option Refusal) → r ≡ None → (r ≡ Some NotBuilt → ⊥) × (r ≡ Some TooLong → ⊥)
none_only r e = (λ h. omega (arith, ap number (sym e ∙ h)), λ h. omega (arith, ap number (sym e ∙ h)))
