-- What a deal was told is told again on any book in which the same is found wherever it looked.
use Rattle.std.proofs.Common.{◌≡◌, ℕ, Bool, true, false, cond, not, ◌||◌, T, ltb, List, [], ◌∷◌, map, length, sym, ap, ◌∙◌, eqb→eq, T_not, arith}
use lib.Dec.{eqb_refl}
use Rattle.std.proofs.lemmas.List.{length-map}
use Rattle.deals.specs.declared.Op.{Op}
use Rattle.deals.specs.declared.Op.TheVariants.{Get, Put, Drop, Next, Mark, Back, Commit, Undo}
use Rattle.deals.specs.declared.Answer.{Answer}
use Rattle.deals.specs.declared.Answer.TheVariants.{Done, Point, No}
use Rattle.deals.specs.Deals.{Book, Said, step, agrees, leaves, same, writes, looked, up_to, some_writes, write_up_to, write_within, barred}
use Rattle.deals.specs.Promise.{bars_none, KeepsOthers}
use Rattle.deals.proofs.Books.{Up, rising_up, find, IsNext, next_by, next_is, next_only, and_t, t_and, same_eq, same_refl}
use Rattle.deals.proofs.Writes.{Write, onto, found, up_onto, find_onto, writes_then, marks_then, step_book, step_marks, up_leaves, leaves_other, or_left}

-- what is told, by what is found at each key and how many marks there are
abbrev pub Tells : Op → (ℕ → Answer) → ℕ → Answer → Type 0
Tells (Get k) f m a = f k ≡ a
Tells (Put k x) f m a = Done ≡ a
Tells (Drop k) f m a = f k ≡ a
Tells (Next k) f m a = IsNext f k a
Tells Mark f m a = Point m ≡ a
Tells (Back j) f m a = cond (ltb j m) Done (No 4) ≡ a
Tells Commit f m a = Done ≡ a
Tells Undo f m a = Done ≡ a

pub tells_is : (o : Op) (b : Book) (ms : List Book) → Up 0 b → Tells o (λ j. find j b) (length ms) (step o b ms).answer
unfolding step
tells_is o b ms u = grind (arith, next_is)

pub tells_only : (o : Op) (f : ℕ → Answer) (m : ℕ) (a c : Answer) → Tells o f m a → Tells o f m c → a ≡ c
tells_only o f m a c h g = grind (arith, next_only)

-- the same is found wherever was looked
pub tells_by : (o : Op) (f g : ℕ → Answer) (m : ℕ) (a : Answer) → ((j : ℕ) → T (looked j o a) → f j ≡ g j) → Tells o f m a → Tells o g m a
unfolding looked
tells_by (Get k) f g m a e h = sym (e k (eqb_refl k)) ∙ h
tells_by (Put k x) f g m a e h = h
tells_by (Drop k) f g m a e h = sym (e k (eqb_refl k)) ∙ h
tells_by (Next k) f g m a e h = next_by f g k a e h
tells_by Mark f g m a e h = h
tells_by (Back j) f g m a e h = h
tells_by Commit f g m a e h = h
tells_by Undo f g m a e h = h

-- who isn't barred finds nothing written wherever it looks
within_one : (j k : ℕ) (a : Answer) (o : Op) → T (up_to j k a) → T (writes j o) → T (write_up_to k a o)
unfolding writes write_up_to
within_one j k a o t w = grind (arith, eqb→eq)

pub or_either : (x y : Bool) (A : Type 0) → T (x || y) → (T x → A) → (T y → A) → A
or_either true y A t f g = f tt
or_either false y A t f g = g t

within_some : (j k : ℕ) (a : Answer) (ss : List Said) → T (up_to j k a) → T (some_writes j ss) → T (write_within k a ss)
unfolding some_writes write_within
within_some j k a [] t w = w
within_some j k a (s ∷ ss) t w = grind (arith, within_one j k a s.op t, within_some j k a ss t)

pub barred_looked : (j : ℕ) (o : Op) (a : Answer) (ss : List Said) → T (looked j o a) → T (some_writes j ss) → T (barred o a ss)
unfolding looked barred
barred_looked j o a ss t w = grind (arith, within_some, or_left, eqb→eq)

-- on two books in which the same is found but where mine writes
module _ (b c : Book) (mine : List Said) (up : Up 0 b) (vp : Up 0 c) (alike : (j : ℕ) → (T (some_writes j mine) → ⊥) → find j b ≡ find j c) where
  one_alike : (o : Op) (a : Answer) (ws : List Write) (ms : List (List Write)) → T (not (barred o a mine)) → T (same (step o (onto b ws) (map (onto b) ms)).answer a) → T (same (step o (onto c ws) (map (onto c) ms)).answer a)
  one_alike o a ws ms n t =
      let f : ℕ → Answer = λ j. find j (onto b ws) in
      let g : ℕ → Answer = λ j. find j (onto c ws) in
      let on_b : Tells o f (length ms) a = rw (length-map ms (onto b), same_eq (step o (onto b ws) (map (onto b) ms)).answer a t) at (tells_is o (onto b ws) (map (onto b) ms) (up_onto b ws up)) in
      let on_c : Tells o g (length ms) (step o (onto c ws) (map (onto c) ms)).answer = rw (length-map ms (onto c)) at (tells_is o (onto c ws) (map (onto c) ms) (up_onto c ws vp)) in
      let moved : Tells o g (length ms) a = tells_by o f g (length ms) a (λ j l. find_onto j b ws up ∙ ap (found j ws) (alike j (λ w. T_not (barred o a mine) n (barred_looked j o a mine l w))) ∙ sym (find_onto j c ws vp)) on_b in
      let eq : (step o (onto c ws) (map (onto c) ms)).answer ≡ a = tells_only o g (length ms) (step o (onto c ws) (map (onto c) ms)).answer a on_c moved in
      rw eq (same_refl a)

  all_alike : (ss : List Said) (ws : List Write) (ms : List (List Write)) → T (bars_none ss mine) → T (agrees ss (onto b ws) (map (onto b) ms)) → T (agrees ss (onto c ws) (map (onto c) ms))
  unfolding agrees bars_none
  all_alike [] ws ms n t = tt
  all_alike (s ∷ ss) ws ms n t =
      let m = and_t (not (barred s.op s.told mine)) (bars_none ss mine) n in
      let here = and_t (same (step s.op (onto b ws) (map (onto b) ms)).answer s.told) (agrees ss (step s.op (onto b ws) (map (onto b) ms)).book (step s.op (onto b ws) (map (onto b) ms)).marks) t in
      t_and (same (step s.op (onto c ws) (map (onto c) ms)).answer s.told) (agrees ss (step s.op (onto c ws) (map (onto c) ms)).book (step s.op (onto c ws) (map (onto c) ms)).marks)
      (one_alike s.op s.told ws ms m.0 here.0)
      (rw (step_book c s.op ws ms, step_marks c s.op ws ms)
      (all_alike ss (writes_then s.op ws ms) (marks_then s.op ws ms) m.1 (rw (step_book b s.op ws ms, step_marks b s.op ws ms) at here.1)))

pub keeps_others : KeepsOthers
keeps_others b mine theirs r am at' n n' =
    let u = rising_up b r in
    all_alike b (leaves mine b []) mine u (up_leaves b mine u) (λ j w. sym (leaves_other j b mine u w)) theirs [] [] n at'
