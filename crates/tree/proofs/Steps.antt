-- One node: what a write of its page, or of it and a new one, leaves.
use Rattle.std.proofs.Common.{◌≡◌, ℕ, ◌+◌, ◌≤◌, List, Some, Option, sym, ap, ◌∙◌, subst, arith}
use Rattle.std.specs.List.{insert}
use Rattle.node.specs.Pairs.{put_in}
use Rattle.node.specs.Node.{Contents, contents_of, level_of, pairs_of, Shared, Missing}
use Rattle.tree.specs.State.{PageState, Still, Given, Wrote}
use Rattle.tree.specs.Grow.{Entered, Holds, Fresh}
use Rattle.tree.proofs.Spent.{spends_then, spends_given, after_still, one_write}

pub enter_two : (d d1 d2 d3 d4 : PageState) (p q i key : ℕ) (e : ℕ × ℕ) (v : Contents) (b f : List ℕ) → v ≡ contents_of (d.page p) → Still 1 d d1 → Given q d1 d2 → Wrote p b d2 d3 → Wrote q f d3 d4 → 1 ≤ d.taken p →
    Shared b f v.level key (insert v.pairs i e) → Entered 2 d d4 (level_of (d.page p)) p (insert (pairs_of (d.page p)) i e) (Some (key, q))
enter_two d d1 d2 d3 d4 p q i key e v b f is s gi w1 w2 tp sh =
    let t1 : (r : ℕ) → d1.taken r ≡ d.taken r = λ r. ap (λ (t : ℕ → ℕ). t r) s.taken in
    let t3 : (r : ℕ) → d3.taken r ≡ d2.taken r = λ r. ap (λ (t : ℕ → ℕ). t r) w1.taken in
    let t4 : (r : ℕ) → d4.taken r ≡ d3.taken r = λ r. ap (λ (t : ℕ → ℕ). t r) w2.taken in
    let ne : (r : ℕ) → 1 ≤ d.taken r → r ≡ q → ⊥ = λ r h z. omega (arith, h, gi.was, t1 q, ap (λ n. d.taken n) z) in
    let pp : d4.page p ≡ b = w2.others p (ne p tp) ∙ w1.here in
    record {
      holds = subst (λ (v : Contents). Shared (d4.page p) (d4.page q) v.level key (insert v.pairs i e)) is
          (subst (λ y. Shared y (d4.page q) v.level key (insert v.pairs i e)) (sym pp) (subst (λ y. Shared b y v.level key (insert v.pairs i e)) (sym w2.here) sh));
      others = λ r n h. w2.others r (ne r h) ∙ w1.others r n ∙ ap (λ (v : ℕ → List ℕ). v r) gi.page ∙ ap (λ (v : ℕ → List ℕ). v r) s.page;
      taken = λ r. omega (arith, t4 r, t3 r, gi.taken r, t1 r);
      fresh = sym (t1 q) ∙ gi.was;
      room = omega (arith, s.room, gi.room, w1.room, w2.room);
      left = omega (arith, s.left, gi.left, w1.left, w2.left);
      spends = after_still 1 2 d d1 d4 s (spends_then 0 2 2 d1 d2 d4 (omega arith) (spends_given q 0 d1 d2 gi) (spends_then 1 1 2 d2 d3 d4 (omega arith) (one_write p b d2 d3 w1) (one_write q f d3 d4 w2)));
    }

-- over askings before it
pub entered_on : (a n n' : ℕ) (d d1 e : PageState) (l l' p : ℕ) (es es' : List (ℕ × ℕ)) (o : Option (ℕ × ℕ)) → Still a d d1 → l ≡ l' → es ≡ es' → a + n ≤ n' → Entered n d1 e l p es o → Entered n' d e l' p es' o
entered_on a n n' d d1 e l l' p es es' o s le ee h t =
    let tk : (r : ℕ) → d1.taken r ≡ d.taken r = λ r. ap (λ (t : ℕ → ℕ). t r) s.taken in
    record {
      holds = subst (λ l. Holds e.page l p es' o) le (subst (λ es. Holds e.page l p es o) ee t.holds);
      others = λ q ne k. t.others q ne (omega (arith, tk q)) ∙ ap (λ (v : ℕ → List ℕ). v q) s.page;
      taken = λ q. omega (arith, t.taken q, tk q);
      fresh = subst (λ (t : ℕ → ℕ). Fresh t o) s.taken t.fresh;
      room = omega (arith, t.room, s.room);
      left = omega (arith, t.left, s.left);
      spends = after_still a 2 d d1 e s t.spends;
    }

pub leaf_enter : (d d1 e : PageState) (p k x i : ℕ) (o : Option (ℕ × ℕ)) → Still 1 d d1 → level_of (d.page p) ≡ 0 → Missing (pairs_of (d.page p)) k i →
    Entered 2 d1 e (level_of (d1.page p)) p (insert (pairs_of (d1.page p)) i (k, x)) o → Entered 3 d e 0 p (put_in k x (pairs_of (d.page p))) o
leaf_enter d d1 e p k x i o s z f = entered_on 1 2 3 d d1 e (level_of (d1.page p)) 0 p (insert (pairs_of (d1.page p)) i (k, x)) (put_in k x (pairs_of (d.page p))) o s
    (ap (λ (v : ℕ → List ℕ). level_of (v p)) s.page ∙ z)
    (ap (λ (v : ℕ → List ℕ). insert (pairs_of (v p)) i (k, x)) s.page ∙ sym (f.puts x)) (omega arith)
