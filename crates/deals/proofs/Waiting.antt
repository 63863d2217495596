-- For whom a clerk waits, by the tables.
use Rattle.std.proofs.Common.{◌≡◌, ℕ, ◌<◌, Bool, true, false, not, ◌&&◌, ◌||◌, eqb, ltb, List, Option, sym, ap, ap₂, ◌∙◌, inl, inr, arith}
use Rattle.std.proofs.Math.Bool.{and-true}
use Rattle.std.proofs.lemmas.Bool.{cases_lt, le-ltb, and_left, and_right}
use Rattle.locks.specs.Bars.{some_bars}
use Rattle.deals.specs.declared.Op.{Op}
use Rattle.deals.specs.declared.Op.TheVariants.{Next}
use Rattle.deals.specs.declared.Answer.{Answer}
use Rattle.deals.specs.Deals.{State, Under, waits, waits_for, told, ends, comes_to, barred}
use Rattle.deals.specs.Rows.{want_of, Finds}
use Rattle.deals.specs.Tables.{count_at, lines_in, op_at, is_under, Keeps, Desk, Asks}
use Rattle.deals.specs.LineUps.{FindsFor}
use Rattle.deals.proofs.Barring.{lines_barred}

-- only a Next must know what it would find
pub finds_any : (o : Op) (a : Answer) (f : Option ℕ) → ((k : ℕ) → o ≡ Next k → ⊥) → Finds o a f
unfolding Finds
finds_any o a f h = grind arith

-- what is turned away, by the number of lines
pub comes_is : (can : Op → Bool) (room : List ℕ) (s : State) (c : ℕ) (o : Op) → Keeps room c (s.clerk c).deal → (can o && (ends o || ltb (count_at room c) 1024)) ≡ comes_to can o (s.clerk c).deal
comes_is can room s c o i = ap (λ n. can o && (ends o || ltb n 1024)) i.count

-- the test, on what stands in the tables
pub comes_at : (can : Op → Bool) (room : List ℕ) (c : ℕ) (o : Op) (n : ℕ) (b : Bool) → o ≡ op_at room c → n ≡ count_at room c → b ≡ (can o && (ends o || ltb n 1024)) → (can (op_at room c) && (ends (op_at room c) || ltb (count_at room c) 1024)) ≡ b
comes_at can room c o n b is few e = sym (e ∙ ap₂ (λ p m. can p && (ends p || ltb m 1024)) is few)

pub comes_by : (can : Op → Bool) (room : List ℕ) (s : State) (c : ℕ) (o : Op) (n : ℕ) (b : Bool) → Keeps room c (s.clerk c).deal → o ≡ op_at room c → n ≡ count_at room c → b ≡ (can o && (ends o || ltb n 1024)) → comes_to can (op_at room c) (s.clerk c).deal ≡ b
comes_by can room s c o n b i is few e = sym (comes_is can room s c (op_at room c) i) ∙ comes_at can room c o n b is few e

module _ (can : Op → Bool) (room : List ℕ) (s : State) (c : ℕ) (d : Desk room s) (few : c < 32) (asks : Asks room s) (u : is_under (s.clerk c).now' ≡ true) where
  o : Op
  o = op_at room c

  now_is : (g : ℕ) × ((s.clerk c).now' ≡ Under o g)
  unfolding o
  now_is = asks c few u

  waits_by : (k : ℕ) → waits can s c k ≡ ((not (eqb c k) && comes_to can o (s.clerk c).deal) && barred o (told o (s.clerk c).deal s.book) (s.clerk k).deal)
  unfolding waits_for
  waits_by k = rw now_is.1

  pub waits_some : (f : Option ℕ) → FindsFor can room s c f → (can (op_at room c) && (ends (op_at room c) || ltb (count_at room c) 1024)) ≡ true
      → (k : ℕ) → (ltb k 32 && (not (eqb c k) && some_bars (want_of (op_at room c) f) (lines_in room k))) ≡ (ltb k 32 && waits can s c k)
  unfolding o
  waits_some f h e k =
      let comes : comes_to can o (s.clerk c).deal ≡ true = sym (comes_is can room s c o (d c few)) ∙ e in
      elim (cases_lt k 32) [
        | inl l ↦ ap (λ x. ltb k 32 && x)
            (ap (λ x. not (eqb c k) && x) (lines_barred (lines_in room k) (s.clerk k).deal o (told o (s.clerk c).deal s.book) f (d k l).lines (h comes))
            ∙ ap (λ x. x && barred o (told o (s.clerk c).deal s.book) (s.clerk k).deal) (sym (ap (λ x. not (eqb c k) && x) comes ∙ and-true (not (eqb c k)))) ∙ sym (waits_by k))
        | inr l ↦ and_left (ltb k 32) (not (eqb c k) && some_bars (want_of o f) (lines_in room k)) (le-ltb k 32 l) ∙ sym (and_left (ltb k 32) (waits can s c k) (le-ltb k 32 l))
      ]

  pub waits_none : (can (op_at room c) && (ends (op_at room c) || ltb (count_at room c) 1024)) ≡ false → (k : ℕ) → (ltb k 32 && waits can s c k) ≡ false
  unfolding o
  waits_none e k =
      and_right (ltb k 32) (waits can s c k)
      (waits_by k ∙ and_left (not (eqb c k) && comes_to can o (s.clerk c).deal) (barred o (told o (s.clerk c).deal s.book) (s.clerk k).deal) (and_right (not (eqb c k)) (comes_to can o (s.clerk c).deal) (sym (comes_is can room s c o (d c few)) ∙ e)))
