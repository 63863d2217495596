-- Deals of which none is in another's way: it stays so as deals go on, are made and are undone.
use Rattle.std.proofs.Common.{◌≡◌, ℕ, Bool, true, false, not, ◌||◌, T, eqb, List, [], ◌∷◌, ◌++◌, sym, arith}
use Rattle.std.proofs.lemmas.Bool.{eq-eqb, ne_eqb, cases_eq}
use Rattle.deals.specs.declared.Op.{Op}
use Rattle.deals.specs.declared.Op.TheVariants.{Get, Put, Drop, Next, Mark, Back, Commit, Undo}
use Rattle.deals.specs.declared.Answer.{Answer}
use Rattle.deals.specs.Deals.{Book, Said, Now, State, set_clerk, aged, step, agrees, leaves, marks_of, told, same, writes, looked, some_writes, some_looked, write_up_to, write_within, barred}
use Rattle.deals.specs.Promise.{bars_none}
use Rattle.deals.proofs.Books.{Up, up_rising, and_t, t_and, same_refl}
pub use Rattle.deals.specs.Sits.{Apart}
use Rattle.deals.proofs.Writes.{up_leaves}
use Rattle.deals.proofs.Others.{keeps_others}

-- one asking against one that was told in another's deal
abbrev pub touches : Op → Answer → Op → Answer → Bool
touches (Get k) a p c = writes k p
touches (Put k x) a p c = writes k p || looked k p c
touches (Drop k) a p c = writes k p || looked k p c
touches (Next k) a p c = write_up_to k a p
touches Mark a p c = false
touches (Back i) a p c = false
touches Commit a p c = false
touches Undo a p c = false

pub barred_cons : (o : Op) (a : Answer) (t : Said) (ts : List Said) → barred o a (t ∷ ts) ≡ (touches o a t.op t.told || barred o a ts)
unfolding barred some_writes some_looked write_within
barred_cons o a t ts = grind arith

pub barred_none : (o : Op) (a : Answer) → barred o a [] ≡ false
unfolding barred some_writes some_looked write_within
barred_none o a = grind arith

eqb_flip : (k j : ℕ) → eqb k j ≡ eqb j k
eqb_flip k j = grind arith

-- who is in whose way goes both ways
pub touches_back : (o : Op) (a : Answer) (p : Op) (c : Answer) → touches o a p c ≡ touches p c o a
unfolding writes looked write_up_to
touches_back o a p c = grind (arith, eqb_flip)

pub barred_push : (o : Op) (a : Answer) (ts : List Said) (t : Said) → barred o a (ts ++ t ∷ []) ≡ (barred o a ts || touches o a t.op t.told)
barred_push o a [] t = grind (arith, barred_cons, barred_none)
barred_push o a (r ∷ ts) t = grind (arith, barred_cons, barred_push o a ts t)

nor : (x y : Bool) → T (not x) → T (not y) → T (not (x || y))
nor x y s t = grind arith

nor_parts : (x y : Bool) → T (not (x || y)) → T (not x) × T (not y)
nor_parts x y t = grind arith

-- a deal that isn't in the way of s, of which nothing is in the way of mine: nor when mine has s too
pub bars_more : (theirs mine : List Said) (s : Said) → T (bars_none theirs mine) → T (not (barred s.op s.told theirs)) → T (bars_none theirs (mine ++ s ∷ []))
unfolding bars_none
bars_more [] mine s n h = tt
bars_more (t ∷ ts) mine s n h =
    let m = and_t (not (barred t.op t.told mine)) (bars_none ts mine) n in
    let g = nor_parts (touches s.op s.told t.op t.told) (barred s.op s.told ts) (rw barred_cons at h) in
    t_and (not (barred t.op t.told (mine ++ s ∷ []))) (bars_none ts (mine ++ s ∷ []))
    (rw (barred_push t.op t.told mine s) (nor (barred t.op t.told mine) (touches t.op t.told s.op s.told) m.0 (rw (touches_back s.op s.told t.op t.told) at g.0)))
    (bars_more ts mine s m.1 g.1)

pub bars_push : (mine theirs : List Said) (s : Said) → T (bars_none mine theirs) → T (not (barred s.op s.told theirs)) → T (bars_none (mine ++ s ∷ []) theirs)
unfolding bars_none
bars_push [] theirs s n h = t_and (not (barred s.op s.told theirs)) true h tt
bars_push (t ∷ mine) theirs s n h =
    let m = and_t (not (barred t.op t.told theirs)) (bars_none mine theirs) n in
    t_and (not (barred t.op t.told theirs)) (bars_none (mine ++ s ∷ []) theirs) m.0 (bars_push mine theirs s m.1 h)

pub bars_nothing : (ss : List Said) → T (bars_none ss [])
unfolding bars_none
bars_nothing [] = tt
bars_nothing (s ∷ ss) = t_and (not (barred s.op s.told [])) (bars_none ss []) (rw barred_none tt) (bars_nothing ss)

pub nothing_bars : (ss : List Said) → T (bars_none [] ss)
unfolding bars_none
nothing_bars ss = tt

pub agrees_none : (b : Book) → T (agrees [] b [])
unfolding agrees
agrees_none b = tt

-- one more in a deal
pub agrees_push : (ss : List Said) (s : Said) (b : Book) (ms : List Book) → T (agrees ss b ms) → (step s.op (leaves ss b ms) (marks_of ss b ms)).answer ≡ s.told → T (agrees (ss ++ s ∷ []) b ms)
unfolding agrees leaves marks_of
agrees_push [] s b ms t e = t_and (same (step s.op b ms).answer s.told) true (rw e (same_refl s.told)) tt
agrees_push (r ∷ ss) s b ms t e =
    let m = and_t (same (step r.op b ms).answer r.told) (agrees ss (step r.op b ms).book (step r.op b ms).marks) t in
    t_and (same (step r.op b ms).answer r.told) (agrees (ss ++ s ∷ []) (step r.op b ms).book (step r.op b ms).marks) m.0
    (agrees_push ss s (step r.op b ms).book (step r.op b ms).marks m.1 e)

-- one clerk's deal is another now, and perhaps the book
pub apart_set : (s : State) (c : ℕ) (d : List Said) (n : Now) (b : Book) → Apart s → Up 0 b → T (agrees d b [])
    → ((e : ℕ) → (e ≡ c → ⊥) → T (agrees (s.clerk e).deal b []))
    → ((e : ℕ) → (e ≡ c → ⊥) → T (bars_none d (s.clerk e).deal) × T (bars_none (s.clerk e).deal d))
    → Apart (set_clerk c d n (record { book = b; clerk = s.clerk }))
apart_set s c d n b i u t f g = grind (arith, cases_eq, eq-eqb, ne_eqb)

-- it's told what it's told, and nobody's deal is in the way of that
pub apart_told : (s : State) (c : ℕ) (o : Op) (a : Answer) (n : Now) → Apart s → told o (s.clerk c).deal s.book ≡ a
    → ((e : ℕ) → (e ≡ c → ⊥) → T (not (barred o a (s.clerk e).deal)))
    → Apart (set_clerk c ((s.clerk c).deal ++ (record { op = o; told = a } ∷ [])) n s)
apart_told s c o a n i e f = grind (arith, apart_set, agrees_push, bars_push, bars_more)

-- a deal is made
pub apart_made : (s : State) (c : ℕ) (n : Now) → Apart s → Apart (set_clerk c [] n (record { book = leaves (s.clerk c).deal s.book []; clerk = s.clerk }))
apart_made s c n i = grind (arith, apart_set, up_leaves, agrees_none, keeps_others, up_rising, nothing_bars, bars_nothing)

-- a deal is undone, by its clerk or by us
pub apart_undone : (s : State) (c : ℕ) (n : Now) → Apart s → Apart (set_clerk c [] n s)
apart_undone s c n i =
    apart_set s c [] n s.book i i.up (agrees_none s.book) (λ j h. i.agree j) (λ j h. (nothing_bars (s.clerk j).deal, bars_nothing (s.clerk j).deal))

-- a deal stays as it was: it's asked, turned away, or told
pub apart_stays : (s : State) (c : ℕ) (n : Now) → Apart s → Apart (set_clerk c (s.clerk c).deal n s)
apart_stays s c n i =
    apart_set s c (s.clerk c).deal n s.book i i.up (i.agree c) (λ j h. i.agree j) (λ j h. (i.apart c j (λ q. h (sym q)), i.apart j c h))

pub apart_aged : (can : Op → Bool) (s : State) → Apart s → Apart (aged can s)
apart_aged can s i = record { up = i.up; agree = i.agree; apart = i.apart }
