-- The pages of the head's batch are put where they belong, from its slots, after a seal or after the power came back.
use Rattle.std.proofs.Common.{◌≡◌, ℕ, ◌+◌, ◌<◌, Bool, true, not, T, List, length, sym, ap, ◌∙◌, subst, arith}
use Rattle.store.specs.Medium.{Medium, Stays, Wrote, WroteAll}
use Rattle.store.specs.Head.{Head, head_of, Sound, slot, target}
use Rattle.store.specs.State.{state_of, Same, Relies, Safe, Kept}
use Rattle.store.specs.Store.{Lost}
use Rattle.store.proofs.Over.{over_miss, wrote_more}
use Rattle.store.proofs.Media.{agree, by_head, same_trans, cut_old, safe_like}

module _ (a e : Medium) (c : ℕ) (ok : Bool) (s : Safe a) (wr : WroteAll c (length (head_of (a.shown 0)).targets) (target (head_of (a.shown 0))) (λ j. a.shown (slot (head_of (a.shown 0)) j)) a ok e) where
  abbrev h : Head
  h = head_of (a.shown 0)

  -- a page that the head counts on is no target
  unmet : (p : ℕ) → Relies a.pages h p → (j : ℕ) → j < length h.targets → p ≡ target h j → ⊥
  unmet p (Relies.image i l z) j b q = absurd (omega (arith, s.head.far j b, s.head.few, s.head.side))
  unmet p (Relies.ring i l z) j b q = absurd (omega (arith, s.head.far j b))
  unmet p (Relies.plain l n no') j b q = no' j b q

  low : (p : ℕ) → p < 393 → (j : ℕ) → j < length h.targets → p ≡ target h j → ⊥
  low p l j b z = absurd (omega (arith, s.head.far j b))

  stays : (p : ℕ) → ((j : ℕ) → j < length h.targets → p ≡ target h j → ⊥) → (b : List ℕ) → Stays a p b → Stays e p b
  stays p no' b y x i = y x (wr.other p no' x i)

  pub installs_cut : T (not ok) → Lost a e
  installs_cut no' = cut_old a e s (wr.on no') wr.pages (stays 0 (low 0 (omega arith)) _ s.first) (λ p r. stays p (unmet p r) _ (s.firm p r))

  module _ (yes' : T ok) where
    missed : (p : ℕ) → ((j : ℕ) → j < length h.targets → p ≡ target h j → ⊥) → e.shown p ≡ a.shown p
    missed p no' = ap (λ f. f p) (wr.shown yes') ∙ over_miss (length h.targets) (target h) (λ j. a.shown (slot h j)) a.shown p no'

    pub installs_low : (p : ℕ) → p < 393 → e.shown p ≡ a.shown p
    installs_low p l = missed p (low p l)

    pub installs_state : Same a.pages (state_of e.shown) (state_of a.shown)
    installs_state = same_trans (by_head e.shown (ap head_of (installs_low 0 (omega arith)))) (agree a.pages h e.shown a.shown (λ p r. missed p (unmet p r)))

    pub installs_kept : Kept e
    installs_kept = record {
      safe = safe_like a e s wr.pages (installs_low 0 (omega arith)) (stays 0 (low 0 (omega arith)) _ s.first) (λ p r. (stays p (unmet p r) _ (s.firm p r), missed p (unmet p r)));
      put = λ p l b. installs_state.page p l (subst (λ z. p < z) wr.pages b) ∙ sym (ap (λ f. f p) (wr.shown yes'));
    }

-- one page more of the batch of h is copied from its slot
pub copied_more : (m a e : Medium) (h : Head) (c k from to : ℕ) (ok : Bool) → Sound m.pages h → k < length h.targets → from ≡ slot h k → to ≡ target h k →
    WroteAll c k (target h) (λ j. m.shown (slot h j)) m true a → Wrote 2 a to (a.shown from) ok e → WroteAll (c + 2) (k + 1) (target h) (λ j. m.shown (slot h j)) m ok e
copied_more m a e h c k from to ok s l pf pt w y = wrote_more w y pt
    (ap a.shown pf ∙ ap (λ f. f (slot h k)) (w.shown tt)
    ∙ over_miss k (target h) (λ j. m.shown (slot h j)) m.shown (slot h k) (λ j b z. absurd (omega (arith, s.far j (omega arith), s.few, s.side))))
