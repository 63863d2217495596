-- Images are written to the region that the head doesn't name.
use Rattle.std.proofs.Common.{◌≡◌, ℕ, ◌-◌, ◌<◌, ◌≤◌, Bool, true, false, not, T, List, sym, refl, ap, ◌∙◌, subst, arith}
use Rattle.frames.specs.Frames.{batch_words}
use Rattle.store.specs.declared.Store.{Store}
use Rattle.store.specs.Medium.{Medium, Stays, WroteAll}
use Rattle.store.specs.Head.{Head, head_of, Sound, slot_in}
use Rattle.store.specs.State.{state_of, Same, Relies, Safe}
use Rattle.store.specs.Store.{next, cache, Next, Ready, Intact, Lost, Shot}
use Rattle.store.proofs.Over.{over_miss, over_hit}
use Rattle.store.proofs.Media.{agree, by_head, same_trans, cut_old, safe_like}
use Rattle.store.proofs.Grows.{intact_after}

-- a page that a head counts on isn't in the other region
pub unshot : (n : ℕ) (h : Head) (p : ℕ) → Sound n h → Relies n h p → (j : ℕ) → j < 64 → p ≡ slot_in (1 - h.region) j → ⊥
unshot n h p s (Relies.image k l e) j b z = absurd (omega (arith, s.few, s.side))
unshot n h p s (Relies.ring i l e) j b z = absurd (omega arith)
unshot n h p s (Relies.plain l m t) j b z = absurd (omega arith)

module _ (m e : Medium) (part : List ℕ) (s : Store) (ok : Bool) (i : Intact m part s)
    (wr : WroteAll (cache part).count (cache part).count (slot_in (1 - (next part).region)) (batch_words (cache part)) m ok e) where
  abbrev h : Head
  h = head_of (m.shown 0)

  abbrev g : Head
  g = next part

  abbrev n : ℕ
  n = (cache part).count

  few : n ≤ 64
  few = i.table.table.few

  safe : Safe m
  safe = i.ready.kept.safe

  -- in neither head's way
  old : (p : ℕ) → Relies m.pages h p → (j : ℕ) → j < n → p ≡ slot_in (1 - g.region) j → ⊥
  old p r j b z = unshot m.pages h p safe.head r j (omega (arith, few)) (z ∙ ap (λ x. slot_in (1 - x) j) i.ready.follows.region)

  new : (p : ℕ) → Relies m.pages g p → (j : ℕ) → j < n → p ≡ slot_in (1 - g.region) j → ⊥
  new p r j b z = unshot m.pages g p i.ready.follows.ok r j (omega (arith, few)) z

  zero' : (j : ℕ) → j < n → 0 ≡ slot_in (1 - g.region) j → ⊥
  zero' j b z = absurd (omega arith)

  stays : (p : ℕ) → ((j : ℕ) → j < n → p ≡ slot_in (1 - g.region) j → ⊥) → (b : List ℕ) → Stays m p b → Stays e p b
  stays p no' b y x q = y x (wr.other p no' x q)

  pub shot_lost : T (not ok) → Lost m e
  shot_lost no' = cut_old m e safe (wr.on no') wr.pages (stays 0 zero' _ safe.first) (λ p r. stays p (old p r) _ (safe.firm p r))

  module _ (yes' : T ok) where
    same : (p : ℕ) → ((j : ℕ) → j < n → p ≡ slot_in (1 - g.region) j → ⊥) → e.shown p ≡ m.shown p
    same p no' = ap (λ f. f p) (wr.shown yes') ∙ over_miss n (slot_in (1 - g.region)) (batch_words (cache part)) m.shown p no'

    plain : (p : ℕ) → 393 ≤ p → e.shown p ≡ m.shown p
    plain p l = same p (λ j b z. absurd (omega (arith, few)))

    state : Same m.pages (state_of e.shown) (state_of m.shown)
    state = same_trans (by_head e.shown (ap head_of (same 0 zero'))) (agree m.pages h e.shown m.shown (λ p r. same p (old p r)))

    ready : Ready e g s.fresh
    ready = record {
      kept = record {
        safe = safe_like m e safe wr.pages (same 0 zero') (stays 0 zero' _ safe.first) (λ p r. (stays p (old p r) _ (safe.firm p r), same p (old p r)));
        put = λ p l b. let b' : p < m.pages = subst (λ x. p < x) wr.pages b in state.page p l b' ∙ i.ready.kept.put p l b' ∙ sym (plain p l);
      };
      follows = subst (λ z. Next e.pages (head_of z) g) (sym (same 0 zero')) (subst (λ x. Next x h g) (sym wr.pages) i.ready.follows);
      last = λ t p r. let q = subst (λ x. Relies x g p) wr.pages r in subst (Stays e p) (sym (same p (new p q))) (stays p (new p q) _ (i.ready.last t p q));
    }

    pub shot : Shot m part s e (record { fresh = s.fresh; imaged = true; lasted = false; root = s.root; worked = s.worked })
    shot = record {
      intact = intact_after m e part part s _ i ready wr.pages i.long refl plain (λ _. record {
        few = few;
        there = λ k l. ap (λ f. f (slot_in (1 - g.region) k)) (wr.shown yes') ∙ over_hit n (slot_in (1 - g.region)) (batch_words (cache part)) m.shown k l (λ j b z. omega arith);
        last = λ z. absurd z;
        plain = λ z. absurd z;
      });
      pages = wr.pages;
      head = same 0 zero';
      state = state;
      queue = (agree m.pages g e.shown m.shown (λ p r. same p (new p r))).queue;
      plain = plain;
      store = refl;
      left = wr.left yes';
    }
