-- What each step makes of the pages that are changed, and of the room that the batch has left.
use Rattle.std.proofs.Common.{◌≡◌, ℕ, ◌+◌, ◌<◌, true, false, cond, not, eqb, ◌≢◌, List, Some, None, Option, unwrap_or, sym, refl, ap, ◌∙◌, ⊎_elim, arith}
use mathlib.Core.Path.{fun_ext}
use Rattle.std.proofs.lemmas.List.{get_or-set_other, get_or-replicate}
use Rattle.std.proofs.lemmas.Bool.{cases_eq, eq-eqb, ne_eqb}
use Rattle.std.specs.Option.{option_map}
use Rattle.frames.specs.Layout.{Cache}
use Rattle.frames.specs.Frames.{Table, Idle, at, mark_in, page_in, slot_of, changed, spare, fill, list, enter, settle}
use Rattle.frames.proofs.Slots.{Rows, cases_slot, slot_some, slot_none}
use Rattle.frames.proofs.Shown.{at_same, at_other, slot_filled, slot_elsewhere, slot_left, entered_slots, entered_marked}

module _ (c : Cache) (q : ℕ) where
  pub changed_none : slot_of c q ≡ None → changed c q ≡ false
  changed_none e = ap (λ (o : Option ℕ). unwrap_or (option_map (λ i. not (eqb (mark_in c i) 0)) o) false) e

  module _ (i : ℕ) (e : slot_of c q ≡ Some i) where
    changed_by : changed c q ≡ not (eqb (mark_in c i) 0)
    changed_by = ap (λ (o : Option ℕ). unwrap_or (option_map (λ j. not (eqb (mark_in c j) 0)) o) false) e

    pub changed_no : mark_in c i ≡ 0 → changed c q ≡ false
    changed_no z = changed_by ∙ ap not (eq-eqb (mark_in c i) 0 z)

    pub changed_yes : 0 < mark_in c i → changed c q ≡ true
    changed_yes h = changed_by ∙ ap not (ne_eqb (mark_in c i) 0 (omega arith))

module _ (c : Cache) (t : Table c) (r : Rows c) (i p : ℕ) (low : i < 120) where
  -- a page that comes in is not changed
  pub filled_changed : (w : List ℕ) → 0 < p → Idle c i → slot_of c p ≡ None → changed (fill c i p w) ≡ changed c
  filled_changed w pos idle new = fun_ext (λ q. ⊎_elim
      (λ (a : q ≡ p).
      changed_no (fill c i p w) q i (ap (slot_of (fill c i p w)) a ∙ slot_filled c t r i p w low pos new) idle.0
      ∙ sym (changed_none c q (ap (slot_of c) a ∙ new)))
      (λ (a : q ≢ p). ⊎_elim
      (λ (b : slot_of c q ≡ None).
      changed_none (fill c i p w) q (slot_left c t r i p w low pos new q a (λ j l ne u. slot_none c.pages q b u j (omega (arith, r.pages))))
      ∙ sym (changed_none c q b))
      (λ (b : (j : ℕ) × (slot_of c q ≡ Some j)). ⊎_elim
      (λ (z : b.0 ≡ i).
      let g = slot_some c.pages q b.0 b.1 in
      let mine : page_in c i ≡ q = ap (page_in c) (sym z) ∙ g.1 in
      changed_none (fill c i p w) q (slot_left c t r i p w low pos new q a (λ j l ne u e. ne (t.once j i l low (omega arith) (e ∙ sym mine))))
      ∙ sym (changed_no c q b.0 b.1 (ap (mark_in c) z ∙ idle.0)))
      (λ (ne : b.0 ≢ i).
      ap (λ (o : Option ℕ). unwrap_or (option_map (λ j. not (eqb (mark_in c j) 0)) o) false)
      (slot_elsewhere c t r i p w low pos new q b.0 a ne b.1 ∙ sym b.1))
      (cases_eq b.0 i))
      (cases_slot (slot_of c q)))
      (cases_eq q p))

  mark_other : (j : ℕ) → j ≢ i → mark_in (enter c i) j ≡ mark_in c j
  mark_other j ne = elim (eqb (mark_in c i) 0) as (λ b. mark_in (cond b (list c i) c) j ≡ mark_in c j) [
    | true ↦ get_or-set_other c.marks i j (c.count + 1) 0 ne
    | false ↦ refl
  ]

  -- a page whose frame is entered is changed, and the others are as they were
  pub entered_changed : slot_of c p ≡ Some i → changed (enter c i) ≡ at p true (changed c)
  entered_changed e = fun_ext (λ q. ⊎_elim
      (λ (a : q ≡ p).
      changed_yes (enter c i) q i (entered_slots c i q ∙ ap (slot_of c) a ∙ e) (entered_marked c i r low)
      ∙ sym (at_same p true (changed c) q a))
      (λ (a : q ≢ p). ⊎_elim
      (λ (b : slot_of c q ≡ None).
      changed_none (enter c i) q (entered_slots c i q ∙ b) ∙ sym (changed_none c q b) ∙ sym (at_other p true (changed c) q a))
      (λ (b : (j : ℕ) × (slot_of c q ≡ Some j)).
      let ne : b.0 ≢ i = λ z. a (sym (slot_some c.pages q b.0 b.1).1 ∙ ap (page_in c) z ∙ (slot_some c.pages p i e).1) in
      changed_by (enter c i) q b.0 (entered_slots c i q ∙ b.1)
      ∙ ap (λ m. not (eqb m 0)) (mark_other b.0 ne)
      ∙ sym (changed_by c q b.0 b.1) ∙ sym (at_other p true (changed c) q a))
      (cases_slot (slot_of c q)))
      (cases_eq q p))

  -- entering takes one place of the batch, unless the frame has one
  pub entered_spare : mark_in c i ≡ 0 → c.count < 64 → spare (enter c i) + 1 ≡ spare c
  entered_spare z h = rw (eq-eqb (mark_in c i) 0 z) (omega arith)

  pub entered_again : 0 < mark_in c i → enter c i ≡ c
  entered_again h = rw (ne_eqb (mark_in c i) 0 (omega arith))

-- once the batch was taken, no page is changed
pub settled_changed : (c : Cache) → Rows c → (q : ℕ) → changed (settle c) q ≡ false
settled_changed c r q = ⊎_elim
    (λ (a : slot_of c q ≡ None). changed_none (settle c) q a)
    (λ (a : (j : ℕ) × (slot_of c q ≡ Some j)).
    changed_no (settle c) q a.0 a.1
    (get_or-replicate {A = ℕ} 120 a.0 0 0 (omega (arith, (slot_some c.pages q a.0 a.1).0, r.pages))))
    (cases_slot (slot_of c q))
