-- What lasts by a sync, and by a head that is written.
use Rattle.std.proofs.Common.{◌≡◌, ℕ, ◌-◌, ◌<◌, ◌≤◌, Bool, true, false, not, ◌&&◌, ◌||◌, T, List, length, get_or, sym, refl, ap, ◌∙◌, subst, inl, inr, ⊎_elim, arith}
use mathlib.Core.List.{Memᴰ}
use Rattle.store.specs.declared.Store.{Store}
use Rattle.store.specs.Medium.{Medium, over, Stays, Wrote, Synced}
use Rattle.store.specs.Head.{Head, head_of, Sound, slot_in, target}
use Rattle.store.specs.State.{State, page_by, state_by, state_of, Same, Firm, Kept}
use Rattle.store.specs.Store.{next_of, next, Next, Ready, Imaged, Lost, Either, Intact, Settled, Moved, Moves, Sealed}
use Rattle.store.proofs.Over.{at_other}
use Rattle.store.proofs.Grows.{intact_after}
use Rattle.store.proofs.Media.{agree, by_head, same_trans, relies_near, cut_old, cut_either, safe_like}

all_kept : (m e : Medium) → Kept m → e.pages ≡ m.pages → e.shown ≡ m.shown → ((q : ℕ) → Stays e q (m.shown q)) → Kept e
all_kept m e k n s all = record {
  safe = safe_like m e k.safe n (ap (λ f. f 0) s) (all 0) (λ p _. (all p, ap (λ f. f p) s));
  put = λ p l b. subst (λ f. page_by (head_of (f 0)) f p ≡ f p) (sym s) (k.put p l (subst (λ z. p < z) n b));
}

next_like : (m e : Medium) (g : Head) → e.pages ≡ m.pages → e.shown ≡ m.shown → Next m.pages (head_of (m.shown 0)) g → Next e.pages (head_of (e.shown 0)) g
next_like m e g n s x = subst (λ z. Next z (head_of (e.shown 0)) g) (sym n) (subst (λ f. Next m.pages (head_of (f 0)) g) (sym s) x)

pub settled_synced : (m e : Medium) (g : Head) (s : Store) (images : Bool) → Ready m g s.fresh → Synced m true e →
    Settled m g s images e (record { fresh = false; imaged = s.imaged; lasted = true; root = s.root; worked = s.worked })
settled_synced m e g s images y b = record {
  pages = b.pages;
  shown = b.shown;
  ready = record {
    kept = all_kept m e y.kept b.pages b.shown (b.all tt);
    follows = next_like m e g b.pages b.shown y.follows;
    last = λ _ p r. stay p;
  };
  images = λ region n w i. record {
    few = i.few;
    there = λ k l. ap (λ f. f (slot_in (1 - region) k)) b.shown ∙ i.there k l;
    last = λ _ k l x q. b.all tt (slot_in (1 - region) k) x q ∙ i.there k l;
    plain = λ _ p _ _. stay p;
  };
  lasted = λ _. tt;
  store = refl;
  left = b.left tt;
}
  where
    stay : (p : ℕ) → Stays e p (e.shown p)
    stay p = subst (λ f. Stays e p (f p)) (sym b.shown) (b.all tt p)

pub settled_before : (m : Medium) (g : Head) (s : Store) (images : Bool) → (s.fresh || (images && not s.lasted)) ≡ false → Ready m g s.fresh → Settled m g s images m s
settled_before m g s images none y = record {
  pages = refl;
  shown = refl;
  ready = record { kept = y.kept; follows = y.follows; last = λ _. y.last (subst (λ b. T (not b)) (sym (dry s.fresh _ none)) tt) };
  images = λ _ _ _ i. i;
  lasted = λ t. firm s.fresh images s.lasted none t;
  store = same (dry s.fresh _ none);
  left = omega arith;
}
  where
    dry : (a b : Bool) → (a || b) ≡ false → a ≡ false
    dry true b e = e
    dry false b e = refl

    firm : (a b l : Bool) → (a || (b && not l)) ≡ false → T b → T l
    firm a b true e t = tt
    firm true b false e t = absurd (subst (λ z. T z) e tt)
    firm false true false e t = absurd (subst (λ z. T z) e tt)
    firm false false false e t = absurd t

    same : s.fresh ≡ false → s ≡ record { fresh = false; imaged = s.imaged; lasted = s.lasted; root = s.root; worked = s.worked }
    same e = ap (λ b. record { fresh = b; imaged = s.imaged; lasted = s.lasted; root = s.root; worked = s.worked }) e

pub settle_lost : (m e : Medium) (g : Head) (fresh : Bool) → Ready m g fresh → Synced m false e → Lost m e
settle_lost m e g fresh y b = let k = y.kept.safe in
    cut_old m e k b.on b.pages (λ x i. k.first x (b.less tt 0 x i)) (λ p r x i. k.firm p r x (b.less tt p x i))

-- the head w is written and synced
module _ (m e : Medium) (w : List ℕ) (k : Kept m) (ok : Sound m.pages (head_of w)) (f : Firm m (head_of w)) where
  -- whatever is left of e is left of a disk on which w was written
  module _ (a : Medium) (b : Bool) (wr : Wrote 1 m 0 w b a) (n : e.pages ≡ a.pages) (off : e.on ≡ false) (less : (q : ℕ) (x : List ℕ) → Memᴰ x (e.may q) → Memᴰ x (a.may q)) where
    pub moves_cut : Either m (head_of w) e
    moves_cut = cut_either m e w k.safe ok off (n ∙ wr.pages)
        (λ x i. ⊎_elim inl (λ (q : Memᴰ x (m.may 0)). inr (k.safe.first x q)) (wr.here x (less 0 x i)))
        (λ p r x i. k.safe.firm p r x (wr.other p (λ z. absurd (omega (arith, (relies_near k.safe.big k.safe.head r).0))) x (less p x i)))
        (λ p r x i. f p r x (wr.other p (λ z. absurd (omega (arith, (relies_near k.safe.big ok r).0))) x (less p x i)))

pub moves_sync : (m a e : Medium) (w : List ℕ) (b : Bool) → Kept m → Sound m.pages (head_of w) → Firm m (head_of w) → Wrote 1 m 0 w true a → Synced a b e → Moves m w b e
moves_sync m a e w true k ok f wr y = record
    { pages = y.pages ∙ wr.pages; shown = y.shown ∙ wr.shown tt; all = λ q. subst (λ z. Stays e q (z q)) (sym y.shown) (y.all tt q); left = omega (arith, wr.left tt, y.left tt) }
moves_sync m a e w false k ok f wr y = moves_cut m e w k ok f a true wr y.pages y.on (y.less tt)

-- a head that names the same batch shows the same pages
pub batch_next : (n : ℕ) (h g : Head) (s : ℕ → List ℕ) (p : ℕ) → Next n h g → page_by g s p ≡ page_by h s p
batch_next n h g s p x = ap (λ t. over (length t) (λ k. get_or t k 0) (λ k. s (slot_in g.region k)) s p) x.targets
    ∙ ap (λ r. over (length h.targets) (target h) (λ k. s (slot_in r k)) s p) x.region

-- the next head has lasted: its batch stands where it belongs, as before
module _ (m e : Medium) (w : List ℕ) (y : Ready m (head_of w) false) (v : Moved m w e) where
  at0 : e.shown 0 ≡ w
  at0 = ap (λ s. s 0) v.shown

  there : (p : ℕ) → 0 < p → e.shown p ≡ m.shown p
  there p l = ap (λ s. s p) v.shown ∙ at_other 0 p w m.shown (λ z. absurd (omega arith))

  pub moved_state : Same m.pages (state_of e.shown) (state_by (head_of w) m.shown)
  moved_state = same_trans (by_head e.shown (ap head_of at0)) (agree m.pages (head_of w) e.shown m.shown (λ p r. there p (relies_near y.kept.safe.big y.follows.ok r).0))

  pub moved_ready : Ready e (head_of w) false
  moved_ready = record {
    kept = record {
      safe = record {
        big = rw v.pages y.kept.safe.big;
        head = subst (λ n. Sound n (head_of (e.shown 0))) (sym v.pages) (subst (λ z. Sound m.pages (head_of z)) (sym at0) y.follows.ok);
        first = v.all 0;
        firm = λ p _. v.all p;
      };
      put = λ p l b. let b' : p < m.pages = subst (λ z. p < z) v.pages b in moved_state.page p l b' ∙ batch_next m.pages _ _ m.shown p y.follows ∙ y.kept.put p l b' ∙ sym (there p (omega arith));
    };
    follows = subst (λ z. Next e.pages (head_of z) (head_of w)) (sym at0) (record {
      ok = subst (λ n. Sound n (head_of w)) (sym v.pages) y.follows.ok;
      format = y.follows.format;
      region = refl;
      targets = refl;
      root = refl;
      first = refl;
      full = omega arith;
      done = refl;
    });
    last = λ _ p _. v.all p;
  }

-- the row of steps of a seal
pub sealed : (m a e : Medium) (part : List ℕ) (s z : Store) → Intact m part s → Settled m (next part) s false a z → Moved a (next_of part) e →
    Sealed m part s e (record { fresh = z.fresh; imaged = z.imaged; lasted = true; root = z.root; worked = z.worked })
sealed m a e part s z i x v = record {
  intact = intact_after m e part part s _ i (subst (Ready e (next part)) (sym (ap (λ (q : Store). q.fresh) x.store)) (moved_ready a e (next_of part) x.ready v)) (v.pages ∙ x.pages) i.long refl same
      (λ t. images (x.images _ _ _ (i.images (subst T (ap (λ (q : Store). q.imaged) x.store) t))));
  pages = v.pages ∙ x.pages;
  head = at0 a e (next_of part) x.ready v;
  state = subst (λ f. Same m.pages (state_of e.shown) (state_by (next part) f)) x.shown (subst (λ n. Same n (state_of e.shown) (state_by (next part) a.shown)) x.pages (moved_state a e (next_of part) x.ready v));
  plain = same;
  store = ap (λ (q : Store). record { fresh = q.fresh; imaged = q.imaged; lasted = true; root = q.root; worked = q.worked }) x.store;
  left = omega (arith, v.left, x.left);
}
  where
    on : (p : ℕ) → 0 < p → e.shown p ≡ a.shown p
    on = there a e (next_of part) x.ready v

    same : (p : ℕ) → 393 ≤ p → e.shown p ≡ m.shown p
    same p l = on p (omega arith) ∙ ap (λ f. f p) x.shown

    images : {region n : ℕ} {b : Bool} {w : ℕ → List ℕ} → Imaged a region n b w → Imaged e region n true w
    images {region} j = record {
      few = j.few;
      there = λ k l. on (slot_in (1 - region) k) (omega arith) ∙ j.there k l;
      last = λ _ k l y q. v.all (slot_in (1 - region) k) y q ∙ on (slot_in (1 - region) k) (omega arith) ∙ j.there k l;
      plain = λ _ p _ _. v.all p;
    }

-- a cut, told from the disk before a sync
pub either_like : (m a e : Medium) (g : Head) → a.pages ≡ m.pages → a.shown ≡ m.shown → Either a g e → Either m g e
either_like m a e g n s x = record {
  off = x.off;
  pages = x.pages ∙ n;
  back = λ f b. let r = x.back f b in (
    r.0,
    ⊎_elim
        (λ (h : Same a.pages (state_of f.shown) (state_of a.shown)). inl (to (state_of f.shown) (λ z. state_of z) h))
        (λ (h : Same a.pages (state_of f.shown) (state_by g a.shown)). inr (to (state_of f.shown) (λ z. state_by g z) h)) r.1,
  );
}
  where
    to : (y : State) (F : (ℕ → List ℕ) → State) → Same a.pages y (F a.shown) → Same m.pages y (F m.shown)
    to y F h = subst (λ k. Same k y (F m.shown)) n (subst (λ z. Same a.pages y (F z)) s h)

pub lost_either : (m e : Medium) (g : Head) → Lost m e → Either m g e
lost_either m e g x = record { off = x.off; pages = x.pages; back = λ f b. let r = x.back f b in (r.0, inl r.1) }
