-- Runs in which nobody is told what another's deal is in the way of: in these every deal can always be made.
use Rattle.std.proofs.Common.{◌≡◌, ℕ, zero, suc, ◌+◌, ◌*◌, ◌<◌, ◌≤◌, Bool, not, T, List, [], ◌∷◌, ◌++◌, length, sym, refl, ◌∙◌, subst, inl, inr, arith, T_not}
use lib.Dec.{not_T}
use Rattle.std.proofs.lemmas.Bool.{ne_eqb, cases_eq, cases_lt}
use Rattle.deals.specs.declared.Op.{Op}
use Rattle.deals.specs.declared.Op.TheVariants.{Commit, Undo}
use Rattle.deals.specs.declared.Answer.{Answer}
use Rattle.deals.specs.declared.Answer.TheVariants.{Done, No, Full, Clash}
use Rattle.deals.specs.Deals.{Book, Said, Event, Asked, Told, Turned, Cut, Now, Quiet, Under, Over, State, set_clerk, aged, fresh, Run, begin, asks, answers, commits, undoes, full, too_long, not_built, clashes, tells, turns, cuts, leaves, told, barred, longest, ends, is_put, waits_for, waits, some', every, blocked, ring, may_be_full, young, older}
use Rattle.deals.proofs.Books.{Up, and_t, t_and}
use Rattle.deals.proofs.Writes.{or_left, or_right}
use Rattle.deals.proofs.Apart.{Apart, agrees_none, agrees_push, nothing_bars, apart_told, apart_made, apart_undone, apart_stays, apart_aged, barred_none}

is_quiet : Now → Type 0
is_quiet Quiet = Unit {0}
is_quiet (Under o g) = ⊥
is_quiet (Over o a g) = ⊥

pub quiet≢under : (o : Op) (g : ℕ) → Quiet ≡ Under o g → ⊥
unfolding is_quiet
quiet≢under o g e = subst is_quiet e tt

quiet≢over : (o : Op) (a : Answer) (g : ℕ) → Quiet ≡ Over o a g → ⊥
unfolding is_quiet
quiet≢over o a g e = subst is_quiet e tt

-- some below n, and every below n
pub some_at : (n : ℕ) (f : ℕ → Bool) (i : ℕ) → i < n → T (f i) → T (some' n f)
unfolding some'
some_at zero f i h t = absurd (omega arith)
some_at (suc n) f i h t =
    elim (cases_eq i n) [
      | inl e ↦ or_right (some' n f) (f n) (rw e at t)
      | inr d ↦ or_left (some' n f) (f n) (some_at n f i (omega arith) t)
    ]

pub every_all : (n : ℕ) (f : ℕ → Bool) → ((i : ℕ) → i < n → T (f i)) → T (every n f)
unfolding every
every_all zero f h = tt
every_all (suc n) f h = t_and (every n f) (f n) (every_all n f (λ i l. h i (omega arith))) (h n (omega arith))

pub every_at : (n : ℕ) (f : ℕ → Bool) (i : ℕ) → i < n → T (every n f) → T (f i)
unfolding every
every_at zero f i h t = absurd (omega arith)
every_at (suc n) f i h t =
    elim (cases_eq i n) [
      | inl e ↦ rw e (and_t (every n f) (f n) t).1
      | inr d ↦ every_at n f i (omega arith) (and_t (every n f) (f n) t).0
    ]

-- THE CLERKS are few: of 32 and above there's nothing
pub record Still (s : State) (c : ℕ) : Type 0 where
  pub deal : (s.clerk c).deal ≡ []
  pub quiet : (s.clerk c).now' ≡ Quiet

still_set : (s : State) (b : Book) (c e : ℕ) (d : List Said) (n : Now) → Still s c → (c ≡ e → ⊥) → Still (set_clerk e d n (record { book = b; clerk = s.clerk })) c
still_set s b c e d n i h = record { deal = rw (ne_eqb c e h) i.deal; quiet = rw (ne_eqb c e h) i.quiet }

not_now : (s : State) (c e : ℕ) (o : Op) (g : ℕ) → Still s c → (s.clerk e).now' ≡ Under o g → c ≡ e → ⊥
not_now s c e o g i q h = quiet≢under o g (sym i.quiet ∙ (rw h q))

not_over : (s : State) (c e : ℕ) (o : Op) (a : Answer) (g : ℕ) → Still s c → (s.clerk e).now' ≡ Over o a g → c ≡ e → ⊥
not_over s c e o a g i q h = quiet≢over o a g (sym i.quiet ∙ (rw h q))

module _ (can : Op → Bool) (pages : ℕ) (c : ℕ) (many : 32 ≤ c) where
  pub few : (es : List Event) (s : State) → Run can pages es s → Still s c
  unfolding older
  few es s begin = record { deal = refl; quiet = refl }
  few es s (asks {s = s'} e o r h q) = still_set s' s'.book c e _ _ (few _ s' r) (λ i. absurd (omega arith))
  few es s (answers {s = s'} {o} {g} e a r q m n l t) = still_set s' s'.book c e _ _ (few _ s' r) (not_now s' c e o g (few _ s' r) q)
  few es s (commits {s = s'} {g} e r q t) = still_set s' (leaves (s'.clerk e).deal s'.book []) c e _ _ (few _ s' r) (not_now s' c e Commit g (few _ s' r) q)
  few es s (undoes {s = s'} {g} e r q) = still_set s' s'.book c e _ _ (few _ s' r) (not_now s' c e Undo g (few _ s' r) q)
  few es s (full {s = s'} {o} {g} e r q m i f) = still_set s' s'.book c e _ _ (few _ s' r) (not_now s' c e o g (few _ s' r) q)
  few es s (too_long {s = s'} {o} {g} e r q m n l) = still_set s' s'.book c e _ _ (few _ s' r) (not_now s' c e o g (few _ s' r) q)
  few es s (not_built {s = s'} {o} {g} e r q m) = still_set s' s'.book c e _ _ (few _ s' r) (not_now s' c e o g (few _ s' r) q)
  few es s (clashes {s = s'} {o} {g} e r q m) = still_set s' s'.book c e _ _ (few _ s' r) (not_now s' c e o g (few _ s' r) q)
  few es s (tells {s = s'} {o} {a} {g} e r q) = still_set s' s'.book c e _ _ (few _ s' r) (not_over s' c e o a g (few _ s' r) q)
  few es s (turns {s = s'} r y) = let i = few _ s' r in record { deal = i.deal; quiet = rw i.quiet }
  few es s (cuts r) = record { deal = refl; quiet = refl }

-- who would be barred waits
wait_here : (can : Op → Bool) (s : State) (c e : ℕ) (o : Op) (g : ℕ) → (s.clerk c).now' ≡ Under o g → T (can o) → length (s.clerk c).deal < longest → (e ≡ c → ⊥) → T (barred o (told o (s.clerk c).deal s.book) (s.clerk e).deal) → T (waits can s c e)
unfolding waits_for
wait_here can s c e o g q m l d t = grind (arith, t_and, ne_eqb, or_right)

-- who waits for nobody is barred by nobody
pub free : (can : Op → Bool) (pages : ℕ) (es : List Event) (s : State) (c : ℕ) (o : Op) (g : ℕ) → Run can pages es s → (s.clerk c).now' ≡ Under o g → T (can o) → length (s.clerk c).deal < longest → T (not (blocked can s c))
    → (e : ℕ) → (e ≡ c → ⊥) → T (not (barred o (told o (s.clerk c).deal s.book) (s.clerk e).deal))
free can pages es s c o g r q m l n e d =
    elim (cases_lt e 32) [
      | inl h ↦ not_T (barred o (told o (s.clerk c).deal s.book) (s.clerk e).deal) (λ t. T_not (blocked can s c) n (some_at 32 (waits can s c) e h (wait_here can s c e o g q m l d t)))
      | inr h ↦ rw ((few can pages e h es s r).deal, barred_none o (told o (s.clerk c).deal s.book)) tt
    ]

-- RUNS WITH THE DISCIPLINE
pub record Good (can : Op → Bool) (pages : ℕ) (es : List Event) (s : State) : Type 0 where
  pub run : Run can pages es s
  pub apart : Apart s

abbrev no_deal : State → State
no_deal s = record { book = s.book; clerk = λ c. record { deal = []; now' = Quiet } }

apart_none : (s : State) → Up 0 s.book → Apart (no_deal s)
apart_none s u = record { up = u; agree = λ c. agrees_none s.book; apart = λ c e h. nothing_bars [] }

module _ (can : Op → Bool) (pages : ℕ) where
  pub good_begin : Good can pages [] fresh
  good_begin = record { run = begin; apart = apart_none fresh tt }

  pub good_asks : (es : List Event) (s : State) (c : ℕ) (o : Op) → Good can pages es s → c < 32 → (s.clerk c).now' ≡ Quiet → Good can pages (Asked c o ∷ es) (set_clerk c (s.clerk c).deal (Under o 0) s)
  good_asks es s c o i h q = record { run = asks c o i.run h q; apart = apart_stays s c (Under o 0) i.apart }

  -- nobody is in the way: it's told, and all that it was told with this is so
  pub good_answers : (es : List Event) (s : State) (c : ℕ) (o : Op) (g : ℕ) (a : Answer) → Good can pages es s → (s.clerk c).now' ≡ Under o g → T (can o) → T (not (ends o)) → length (s.clerk c).deal < longest
      → T (not (blocked can s c)) → told o (s.clerk c).deal s.book ≡ a
      → Good can pages es (set_clerk c ((s.clerk c).deal ++ (record { op = o; told = a } ∷ [])) (Over o a g) s)
  good_answers es s c o g a i q m n l f e =
      record {
        run = answers c a i.run q m n l (agrees_push (s.clerk c).deal (record { op = o; told = a }) s.book [] (i.apart.agree c) e);
        apart = apart_told s c o a (Over o a g) i.apart e (λ j h. rw e at (free can pages es s c o g i.run q m l f j h));
      }

  -- a deal can be made whenever it's asked
  pub good_commits : (es : List Event) (s : State) (c : ℕ) (g : ℕ) → Good can pages es s → (s.clerk c).now' ≡ Under Commit g
      → Good can pages es (set_clerk c [] (Over Commit Done g) (record { book = leaves (s.clerk c).deal s.book []; clerk = s.clerk }))
  good_commits es s c g i q = record { run = commits c i.run q (i.apart.agree c); apart = apart_made s c (Over Commit Done g) i.apart }

  pub good_undoes : (es : List Event) (s : State) (c : ℕ) (g : ℕ) → Good can pages es s → (s.clerk c).now' ≡ Under Undo g → Good can pages es (set_clerk c [] (Over Undo Done g) s)
  good_undoes es s c g i q = record { run = undoes c i.run q; apart = apart_undone s c (Over Undo Done g) i.apart }

  pub good_clashes : (es : List Event) (s : State) (c : ℕ) (o : Op) (g : ℕ) → Good can pages es s → (s.clerk c).now' ≡ Under o g → T (ring can s c) → Good can pages es (set_clerk c [] (Over o Clash g) s)
  good_clashes es s c o g i q r = record { run = clashes c i.run q r; apart = apart_undone s c (Over o Clash g) i.apart }

  pub good_full : (es : List Event) (s : State) (c : ℕ) (o : Op) (g : ℕ) → Good can pages es s → (s.clerk c).now' ≡ Under o g → T (can o) → T (is_put o) → T (may_be_full pages s) → Good can pages es (set_clerk c (s.clerk c).deal (Over o Full g) s)
  good_full es s c o g i q m p f = record { run = full c i.run q m p f; apart = apart_stays s c (Over o Full g) i.apart }

  pub good_too_long : (es : List Event) (s : State) (c : ℕ) (o : Op) (g : ℕ) → Good can pages es s → (s.clerk c).now' ≡ Under o g → T (can o) → T (not (ends o)) → longest ≤ length (s.clerk c).deal → Good can pages es (set_clerk c (s.clerk c).deal (Over o (No 5) g) s)
  good_too_long es s c o g i q m n l = record { run = too_long c i.run q m n l; apart = apart_stays s c (Over o (No 5) g) i.apart }

  pub good_not_built : (es : List Event) (s : State) (c : ℕ) (o : Op) (g : ℕ) → Good can pages es s → (s.clerk c).now' ≡ Under o g → T (not (can o)) → Good can pages es (set_clerk c (s.clerk c).deal (Over o (No 9) g) s)
  good_not_built es s c o g i q m = record { run = not_built c i.run q m; apart = apart_stays s c (Over o (No 9) g) i.apart }

  pub good_tells : (es : List Event) (s : State) (c : ℕ) (o : Op) (a : Answer) (g : ℕ) → Good can pages es s → (s.clerk c).now' ≡ Over o a g → Good can pages (Told c a ∷ es) (set_clerk c (s.clerk c).deal Quiet s)
  good_tells es s c o a g i q = record { run = tells c i.run q; apart = apart_stays s c Quiet i.apart }

  pub good_turns : (es : List Event) (s : State) → Good can pages es s → ((c : ℕ) → c < 32 → T (young (256 + 2 * length (s.clerk c).deal) (s.clerk c).now')) → Good can pages (Turned ∷ es) (aged can s)
  good_turns es s i y = record { run = turns i.run (every_all 32 (λ (c : ℕ). young (256 + 2 * length (s.clerk c).deal) (s.clerk c).now') y); apart = apart_aged can s i.apart }

  pub good_cuts : (es : List Event) (s : State) → Good can pages es s → Good can pages (Cut ∷ es) (record { book = s.book; clerk = λ c. record { deal = []; now' = Quiet } })
  good_cuts es s i = record { run = cuts i.run; apart = apart_none s i.apart.up }
