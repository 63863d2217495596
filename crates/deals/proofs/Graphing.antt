-- The wait graph, as those in the order are put into it one after the other.
use Rattle.std.proofs.Common.{◌≡◌, ℕ, ◌+◌, ◌<◌, Bool, true, false, not, ◌&&◌, ltb, List, length, get_or, take, drop, Some, None, Option, sym, ap, ◌∙◌, subst, inl, inr, arith}
use Rattle.std.proofs.lemmas.List.{take-take}
use Rattle.std.proofs.lemmas.Bool.{cases_eq, cases_Bool, lt-ltb, and_right, false≢true, not-true, not-false}
use Rattle.locks.specs.declared.graph.WaitGraph.{WaitGraph}
use Rattle.locks.specs.declared.set.ClerkSet.{ClerkSet}
use Rattle.locks.specs.Sets.{is_in, some_of}
use Rattle.locks.specs.Graphs.{waits_in}
use Rattle.deals.specs.declared.Op.{Op}
use Rattle.deals.specs.Deals.{State, Now, waits, waits_for, blocked}
use Rattle.deals.specs.Tables.{is_under, Sound, Desk, Asks, waiting_in, order_of}
use Rattle.deals.specs.LineUps.{LineUp, TablesHold, FindsFor, Graph, GraphTo, Quick}
use Rattle.deals.proofs.Counting.{some_is}
use Rattle.deals.proofs.Orders.{order_long}

-- who isn't under way waits for nobody
waits_idle : (can : Op → Bool) (s : State) (c e : ℕ) (n : Now) → is_under n ≡ false → waits_for can s c e n ≡ false
unfolding waits_for is_under
waits_idle can s c e n h = grind arith

pub graph_none : (can : Op → Bool) (g : WaitGraph) (s : State) (q : List ℕ) → ((d e : ℕ) → waits_in g d e ≡ false) → GraphTo can g s q 0
graph_none can g s q h = record { done = λ k l. absurd (omega arith); left = λ d l e. h d e }

pub graph_more : (can : Op → Bool) (g h : WaitGraph) (s : State) (q : List ℕ) (i c : ℕ) → get_or q i 0 ≡ c
    → ((e : ℕ) → waits_in h c e ≡ (ltb e 32 && waits can s c e)) → ((d e : ℕ) → (d ≡ c → ⊥) → waits_in h d e ≡ waits_in g d e) → GraphTo can g s q i → GraphTo can h s q (i + 1)
graph_more can g h s q i c there new old m = record { done = did; left = rest }
  where
    did : (k : ℕ) → k < i + 1 → (e : ℕ) → waits_in h (get_or q k 0) e ≡ (ltb e 32 && waits can s (get_or q k 0) e)
    did k l e =
        elim (cases_eq (get_or q k 0) c) [
          | inl y ↦ rw y (new e)
          | inr y ↦ elim (cases_eq k i) [
            | inl z ↦ absurd (y (ap (λ j. get_or q j 0) z ∙ there))
            | inr z ↦ old (get_or q k 0) e y ∙ m.done k (omega arith) e
          ]
        ]

    rest : (d : ℕ) → ((k : ℕ) → k < i + 1 → get_or q k 0 ≡ d → ⊥) → (e : ℕ) → waits_in h d e ≡ false
    rest d l e =
        elim (cases_eq d c) [
          | inl y ↦ absurd (l i (omega arith) (there ∙ sym y))
          | inr y ↦ old d e y ∙ m.left d (λ k x. l k (omega arith)) e
        ]

-- all who are under way are in the order
pub graph_all : (can : Op → Bool) (g : WaitGraph) (s : State) (q : List ℕ) (more : Bool) → LineUp can more s q → GraphTo can g s q (length q) → Graph can g s
graph_all can g s q more i m d l e = grind (arith, cases_Bool, false≢true, and_right, waits_idle)

-- the order, as a part of the room
pub order_part : (room : List ℕ) (n k : ℕ) → Sound room → n ≡ waiting_in room → k ≡ n → take k (drop 259712 room) ≡ order_of room
unfolding order_of
order_part room n k i e h = rw (h, e) (sym (take-take (waiting_in room) 32 (drop 259712 room) i.most))

-- THE QUICK WAY
free_is : (can : Op → Bool) (s : State) (c : ℕ) (t : ClerkSet) → ((e : ℕ) → is_in t e ≡ (ltb e 32 && waits can s c e)) → some_of 32 (is_in t) ≡ blocked can s c
free_is can s c t h = some_is 32 (is_in t) (waits can s c) (λ e l. h e ∙ ap (λ x. x && waits can s c e) (lt-ltb e 32 l))

pub quick_free : (can : Op → Bool) (s : State) (q : List ℕ) (c : ℕ) (t : ClerkSet) → 0 < length q → get_or q 0 0 ≡ c → c < 32 → ((e : ℕ) → is_in t e ≡ (ltb e 32 && waits can s c e)) → not (some_of 32 (is_in t)) ≡ true
    → Quick can s q (Some (record { place = 0; who = c; clash = false }))
unfolding Quick
quick_free can s q c t h there few is e = grind (arith, free_is, not-true, false≢true)

pub quick_held : (can : Op → Bool) (s : State) (q : List ℕ) (c : ℕ) (t : ClerkSet) → get_or q 0 0 ≡ c → ((e : ℕ) → is_in t e ≡ (ltb e 32 && waits can s c e)) → not (some_of 32 (is_in t)) ≡ false → Quick can s q None
unfolding Quick
quick_held can s q c t there is e = inr (ap (blocked can s) there ∙ sym (free_is can s c t is) ∙ not-false (some_of 32 (is_in t)) e)

-- for whom the one at a place of the order waits, by what is known of whoever stands there
pub place_waits : (can : Op → Bool) (more : Bool) (room : List ℕ) (s : State) (i who : ℕ) (f : Option ℕ) (t : ClerkSet) → TablesHold can more room s → i < waiting_in room → who ≡ get_or (order_of room) i 0
    → ((r : State) → Desk room r → Asks room r → is_under (r.clerk who).now' ≡ true → FindsFor can room r who f → (k : ℕ) → is_in t k ≡ (ltb k 32 && waits can r who k))
    → FindsFor can room s (get_or (order_of room) i 0) f → (k : ℕ) → is_in t k ≡ (ltb k 32 && waits can s who k)
place_waits can more room s i who f t h l e is finds =
    is s h.desk h.asks (ap (λ x. is_under (s.clerk x).now') e ∙ h.line.under i (omega (arith, order_long room h.sound))) (subst (λ x. FindsFor can room s x f) (sym e) finds)
