-- Rings and whom to serve by the wait graph: exactly as by the deals.
use Rattle.std.proofs.Common.{◌≡◌, ℕ, zero, suc, ◌<◌, ◌≤◌, Bool, true, false, not, ◌&&◌, ◌||◌, ltb, List, length, get_or, Some, None, Option, sym, refl, ap, ◌∙◌, ap₂, inl, inr, arith}
use mathlib.Core.Path.{fun_ext}
use Rattle.std.proofs.lemmas.Bool.{cases_lt, lt-ltb, le-ltb}
use Rattle.locks.specs.declared.graph.Pick.{Pick}
use Rattle.locks.specs.declared.graph.WaitGraph.{WaitGraph}
use Rattle.locks.specs.Sets.{some_of}
use Rattle.locks.specs.Graphs.{waits_in, spread_by, ring_by, counts_by, spread as spreadW, reached as reachedW}
use Rattle.locks.proofs.Ways.{or_none, or_assoc}
use Rattle.locks.specs.Chosen.{Chosen}
use Rattle.deals.specs.declared.Op.{Op}
use Rattle.deals.specs.Deals.{State, some', waits, blocked, ring, counts}
use Rattle.deals.specs.LineUps.{Graph, Picked}
use Rattle.deals.proofs.Rings.{spread, reached, ring_is}

pub some_is : (n : ℕ) (f g : ℕ → Bool) → ((e : ℕ) → e < n → f e ≡ g e) → some_of n f ≡ some' n g
unfolding some_of some'
some_is zero f g h = refl
some_is (suc n) f g h = ap₂ ◌||◌ (some_is n f g (λ e l. h e (omega arith))) (h n (omega arith))

spread_by_lem : (n : ℕ) (w v : ℕ → ℕ → Bool) (r : ℕ → Bool) (e : ℕ) → ((d : ℕ) → d < n → w d e ≡ v d e) → spread_by n w r e ≡ (r e || some' n (λ (d : ℕ). r d && v d e))
unfolding spread_by some'
spread_by_lem zero w v r e h = sym (or_none (r e))
spread_by_lem (suc n) w v r e h =
    ap₂ ◌||◌ (spread_by_lem n w v r e (λ d l. h d (omega arith))) (ap (λ x. r n && x) (h n (omega arith)))
    ∙ sym (or_assoc (r e) (some' n (λ (d : ℕ). r d && v d e)) (r n && v n e))

spread_past : (n : ℕ) (w : ℕ → ℕ → Bool) (r : ℕ → Bool) (e : ℕ) → ((d : ℕ) → d < n → w d e ≡ false) → spread_by n w r e ≡ r e
unfolding spread_by
spread_past zero w r e h = refl
spread_past (suc n) w r e h = grind (arith, spread_past n w r e (λ d l. h d (omega arith)), h n (omega arith))

Small : (ℕ → Bool) → Type 0
Small r = (e : ℕ) → 32 ≤ e → r e ≡ false

module _ (w v : ℕ → ℕ → Bool) (m : (d : ℕ) → d < 32 → (e : ℕ) → w d e ≡ (ltb e 32 && v d e)) where
  spread_is : (r : ℕ → Bool) → Small r → spreadW w r ≡ spread v r
  unfolding Small
  spread_is r sm = fun_ext (λ e. elim (cases_lt e 32) [
    | inl l ↦ spread_by_lem 32 w v r e (λ d k. m d k e ∙ ap (λ x. x && v d e) (lt-ltb e 32 l)) ∙ sym (ap (λ x. x && (r e || some' 32 (λ (d : ℕ). r d && v d e))) (lt-ltb e 32 l))
    | inr l ↦ spread_past 32 w r e (λ d k. m d k e ∙ ap (λ x. x && v d e) (le-ltb e 32 l)) ∙ sm e l ∙ sym (ap (λ x. x && (r e || some' 32 (λ (d : ℕ). r d && v d e))) (le-ltb e 32 l))
  ])

  spread_small : (r : ℕ → Bool) → Small (spread v r)
  unfolding Small
  spread_small r e l = ap (λ x. x && (r e || some' 32 (λ (d : ℕ). r d && v d e))) (le-ltb e 32 l)

  reached_is : (n : ℕ) (r : ℕ → Bool) → Small r → reachedW n w r ≡ reached n v r
  unfolding reachedW
  reached_is zero r sm = refl
  reached_is (suc n) r sm = ap (reachedW n w) (spread_is r sm) ∙ reached_is n (spread v r) (spread_small r)

  first_small : (c : ℕ) → c < 32 → Small (w c)
  unfolding Small
  first_small c l e h = m c l e ∙ ap (λ x. x && v c e) (le-ltb e 32 h)

  ring_by_lem : (c : ℕ) → c < 32 → ring_by w c ≡ reached 32 v (λ e. ltb e 32 && v c e) c
  ring_by_lem c l = ap (λ f. f c) (reached_is 32 (w c) (first_small c l) ∙ ap (reached 32 v) (fun_ext (m c l)))

  some_by : (c : ℕ) → c < 32 → some_of 32 (w c) ≡ some' 32 (v c)
  some_by c l = some_is 32 (w c) (v c) (λ e k. m c l e ∙ ap (λ x. x && v c e) (lt-ltb e 32 k))

-- BY THE GRAPH
module _ (can : Op → Bool) (g : WaitGraph) (s : State) (m : Graph can g s) where
  pub ring_is_ring : (c : ℕ) → c < 32 → ring_by (waits_in g) c ≡ ring can s c
  ring_is_ring c l = ring_by_lem (waits_in g) (waits can s) m c l ∙ sym (ring_is can s c)

  pub free_is_free : (c : ℕ) → c < 32 → some_of 32 (waits_in g c) ≡ blocked can s c
  free_is_free c l = some_by (waits_in g) (waits can s) m c l

  counts_is_counts : (c : ℕ) → c < 32 → counts_by (waits_in g) c ≡ counts can s c
  unfolding counts_by
  counts_is_counts c l = ap₂ (λ x y. not x || y) (free_is_free c l) (ring_is_ring c l)

  ring_left : (x y : Bool) → (not x || y) ≡ true → x ≡ true → y ≡ true
  ring_left true y e h = e
  ring_left false true e h = refl
  ring_left false false e h = h

  pub chosen_picked : (q : List ℕ) (r : Option Pick) → ((k : ℕ) → k < length q → get_or q k 0 < 32) → Chosen (waits_in g) q r → Picked can s q r
  unfolding Chosen Picked
  chosen_picked q None few c = λ k h. sym (counts_is_counts (get_or q k 0) (few k h)) ∙ c k h
  chosen_picked q (Some p) few c =
      let so : counts can s p.who ≡ true = sym (counts_is_counts p.who c.few) ∙ c.counts in
      let held : p.clash ≡ blocked can s p.who = c.clash ∙ free_is_free p.who c.few in
      record {
        among = c.among;
        there = c.there;
        few = c.few;
        gets = so;
        free = λ e. sym held ∙ e;
        ringed = λ e. ring_left (blocked can s p.who) (ring can s p.who) so (sym held ∙ e);
        before = λ k h. sym (counts_is_counts (get_or q k 0) (few k (omega (arith, c.among)))) ∙ c.before k h;
      }
