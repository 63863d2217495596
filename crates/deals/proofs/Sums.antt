-- How many pairs there are, and what that says of a disk that is full.
use Rattle.std.proofs.Common.{◌≡◌, ℕ, zero, suc, ◌+◌, ◌-◌, ◌*◌, ◌/◌, ◌<◌, ◌≤◌, T, eqb, ltb, List, [], ◌∷◌, ◌++◌, map, length, take, drop, filter, sym, refl, ap, ◌∙◌, subst, inl, inr, arith}
use Rattle.std.proofs.lemmas.List.{map-append, take-append-drop}
use Rattle.std.proofs.lemmas.Bool.{cases_Bool, lt-ltb}
use Rattle.node.specs.Pairs as P
use Rattle.lines.specs.declared.line.Line.{Line}
use Rattle.lines.specs.declared.line.Line.TheVariants.{Idle, Wrote, Cleared, Stale, Read, Scanned, Marked}
use Rattle.lines.specs.Lines.{bare}
use Rattle.lines.specs.Tables.{deal_ring, deal_lines, queue_lines}
use Rattle.lines.proofs.Circle.{length_lines}
use Rattle.store.specs.Medium.{Medium}
use Rattle.view.specs.Writes.{with_lines, writes_in}
use Rattle.view.specs.Writes as V
use Rattle.view.proofs.Done.{lines_append}
use Rattle.ledger.specs.declared.Ledger.{Ledger}
use Rattle.ledger.specs.Ledger.{Pairs, Stands, line_of, lasting, last_pairs, now_pairs}
use Rattle.deals.specs.declared.engine.Office.{Office}
use Rattle.deals.specs.Disk.{Disk}
use Rattle.deals.specs.Drives.{medium_of}
use Rattle.deals.specs.Deals.{Said, State, dealt, may_be_full}
use Rattle.deals.specs.Writes.{Write, effect, writes_then, marks_then, writes_of, writes_at}
use Rattle.deals.specs.Tables.{count_at, lines_in, Keeps}
use Rattle.deals.specs.Sits.{sum_to, puts_in, is_put_line, open_puts, Sits}
use Rattle.deals.proofs.Effects.{table_writes}
use Rattle.deals.proofs.Answering.{puts_counted}
use Rattle.deals.proofs.Sitting.{book_long}

-- what a line tells of the tree is no write
bare_writes : (ls : List Line) → writes_in (map bare ls) ≡ writes_in ls
bare_writes [] = refl
bare_writes (Idle ∷ ls) = bare_writes ls
bare_writes (Wrote k x ∷ ls) = ap (λ ws. V.Puts k x ∷ ws) (bare_writes ls)
bare_writes (Cleared k s ∷ ls) = ap (λ ws. V.Drops k ∷ ws) (bare_writes ls)
bare_writes (Stale k ∷ ls) = bare_writes ls
bare_writes (Read k ∷ ls) = bare_writes ls
bare_writes (Scanned k q ∷ ls) = bare_writes ls
bare_writes (Marked ∷ ls) = bare_writes ls

with_bare : (t : Pairs) (ls : List Line) → with_lines t (map bare ls) ≡ with_lines t ls
with_bare t ls = ap (V.onto t) (bare_writes ls)

-- THE BOOK IS THE QUEUE ONTO THE TREE, as both stand in the room
pub book_now : (p : ℕ) (m : Medium) (room : List ℕ) (l : Ledger) (t : Pairs) → Stands p m room l t → with_lines (now_pairs m room l) (queue_lines room l.queue) ≡ t
book_now p m room l t i =
    let q = (lasting m).queue in
    let w = l.store.worked in
    let now = now_pairs m room l in
    sym (with_bare now (queue_lines room l.queue))
    ∙ ap (with_lines now) i.queue
    ∙ ap (λ u. with_lines u (map line_of (drop w q))) i.tree
    ∙ sym (lines_append (last_pairs m) (map line_of (take w q)) (map line_of (drop w q)))
    ∙ ap (with_lines (last_pairs m)) (sym (map-append line_of (take w q) (drop w q)) ∙ ap (map line_of) (take-append-drop w q))
    ∙ i.book

-- HOW MANY PAIRS lines leave
put_least : (k x : ℕ) (t : Pairs) → length t ≤ length (P.put_in k x t)
put_least k x [] = omega arith
put_least k x (e ∷ es) =
    elim (cases_Bool (ltb e.0 k)) [
      | inl h ↦ rw h (omega (arith, put_least k x es))
      | inr h ↦ elim (cases_Bool (eqb e.0 k)) [ inl g ↦ rw (h, g) (omega arith) | inr g ↦ rw (h, g) (omega arith) ]
    ]

put_most : (k x : ℕ) (t : Pairs) → length (P.put_in k x t) ≤ length t + 1
put_most k x [] = omega arith
put_most k x (e ∷ es) =
    elim (cases_Bool (ltb e.0 k)) [
      | inl h ↦ rw h (omega (arith, put_most k x es))
      | inr h ↦ elim (cases_Bool (eqb e.0 k)) [ inl g ↦ rw (h, g) (omega arith) | inr g ↦ rw (h, g) (omega arith) ]
    ]

drop_least : (k : ℕ) (t : Pairs) → length t ≤ length (P.drop_in k t) + 1
drop_least k [] = omega arith
drop_least k (e ∷ es) = elim (cases_Bool (eqb e.0 k)) [ inl g ↦ rw g (omega arith) | inr g ↦ rw g (omega (arith, drop_least k es)) ]

drop_most : (k : ℕ) (t : Pairs) → length (P.drop_in k t) ≤ length t
drop_most k [] = omega arith
drop_most k (e ∷ es) = elim (cases_Bool (eqb e.0 k)) [ inl g ↦ rw g (omega arith) | inr g ↦ rw g (omega (arith, drop_most k es)) ]

pub lines_most : (t : Pairs) (ls : List Line) → length (with_lines t ls) ≤ length t + length (filter is_put_line ls)
lines_most t [] = omega arith
lines_most t (Idle ∷ ls) = lines_most t ls
lines_most t (Wrote k x ∷ ls) = omega (arith, lines_most (P.put_in k x t) ls, put_most k x t)
lines_most t (Cleared k s ∷ ls) = omega (arith, lines_most (P.drop_in k t) ls, drop_most k t)
lines_most t (Stale k ∷ ls) = lines_most t ls
lines_most t (Read k ∷ ls) = lines_most t ls
lines_most t (Scanned k q ∷ ls) = lines_most t ls
lines_most t (Marked ∷ ls) = lines_most t ls

pub lines_least : (t : Pairs) (ls : List Line) → length t + length (filter is_put_line ls) ≤ length (with_lines t ls) + length ls
lines_least t [] = omega arith
lines_least t (Idle ∷ ls) = omega (arith, lines_least t ls)
lines_least t (Wrote k x ∷ ls) = omega (arith, lines_least (P.put_in k x t) ls, put_least k x t)
lines_least t (Cleared k s ∷ ls) = omega (arith, lines_least (P.drop_in k t) ls, drop_least k t)
lines_least t (Stale k ∷ ls) = omega (arith, lines_least t ls)
lines_least t (Read k ∷ ls) = omega (arith, lines_least t ls)
lines_least t (Scanned k q ∷ ls) = omega (arith, lines_least t ls)
lines_least t (Marked ∷ ls) = omega (arith, lines_least t ls)

-- OPEN PUTS are no more than what was dealt
puts_few : (ls : List Line) → length (filter is_put_line ls) ≤ length ls
puts_few [] = omega arith
puts_few (Idle ∷ ls) = omega (arith, puts_few ls)
puts_few (Wrote k x ∷ ls) = omega (arith, puts_few ls)
puts_few (Cleared k s ∷ ls) = omega (arith, puts_few ls)
puts_few (Stale k ∷ ls) = omega (arith, puts_few ls)
puts_few (Read k ∷ ls) = omega (arith, puts_few ls)
puts_few (Scanned k q ∷ ls) = omega (arith, puts_few ls)
puts_few (Marked ∷ ls) = omega (arith, puts_few ls)

deal_puts : (room : List ℕ) (c : ℕ) (ss : List Said) → Keeps room c ss → puts_in (effect ss) ≤ length ss
unfolding lines_in deal_lines
deal_puts room c ss i =
    omega (arith, ap puts_in (table_writes room c ss i), puts_counted (lines_in room c), puts_few (lines_in room c), length_lines (take 3072 (drop (3072 * c) room)) (deal_ring (count_at room c)), i.count)

puts_dealt : (n : ℕ) (s : State) → ((c : ℕ) → c < n → puts_in (effect (s.clerk c).deal) ≤ length (s.clerk c).deal) → sum_to n (λ c. puts_in (effect (s.clerk c).deal)) ≤ dealt n s
unfolding sum_to dealt
puts_dealt zero s h = omega arith
puts_dealt (suc n) s h = omega (arith, puts_dealt n s (λ c l. h c (omega arith)), h n (omega arith))

-- FULL MAY BE TOLD where tree, queued puts and open puts come to the limit
full_by : (p b o d u : ℕ) → 1024 ≤ p → 84 * (p - 424) ≤ u + o → u ≤ b + 32768 → o ≤ d → p < 768 + (b + d) / 32
full_by p b o d u h f g k = omega arith

pub may_be_told_full : (p : ℕ) (f : Office) (room : List ℕ) (d : Disk) (s : State) → Sits p f room d s
    → 84 * (p - 424) ≤ (length (now_pairs (medium_of d) room f.ledger) + length (filter is_put_line (queue_lines room f.ledger.queue))) + open_puts s
    → T (may_be_full p s)
unfolding queue_lines
may_be_told_full p f room d s i h =
    let j = i.seated in
    let m = medium_of d in
    let now = now_pairs m room f.ledger in
    let qs = queue_lines room f.ledger.queue in
    let book : length s.book ≡ length (with_lines now qs) = sym (ap length j.book) ∙ book_long j.pairs ∙ ap length (sym (book_now p m room f.ledger j.pairs j.stands)) in
    let long : length qs ≤ 32768 = omega (arith, length_lines (take 98304 (drop 98304 room)) f.ledger.queue, j.stands.ring.count, j.stands.ring.cap) in
    let few : length now + length (filter is_put_line qs) ≤ length s.book + 32768 = omega (arith, lines_least now qs, book, long) in
    let opened : open_puts s ≤ dealt 32 s = puts_dealt 32 s (λ c l. deal_puts room c (s.clerk c).deal (j.tables.desk c l)) in
    let done = full_by p (length s.book) (open_puts s) (dealt 32 s) (length now + length (filter is_put_line qs)) j.stands.lasts.big h few opened in
    subst T (sym (lt-ltb p (768 + (length s.book + dealt 32 s) / 32) done)) tt

-- ONE WRITE MORE, or none
pub effect_push : (ss : List Said) (s : Said) → effect (ss ++ s ∷ []) ≡ writes_then s.op (effect ss) (writes_at ss [] [])
effect_push ss s = push ss [] []
  where
    push : (ts : List Said) (ws : List Write) (ms : List (List Write)) → writes_of (ts ++ s ∷ []) ws ms ≡ writes_then s.op (writes_of ts ws ms) (writes_at ts ws ms)
    push [] ws ms = refl
    push (t ∷ ts) ws ms = push ts (writes_then t.op ws ms) (marks_then t.op ws ms)
