-- What a disk means stays the same, whatever a cut leaves of pages that its head doesn't count on.
use Rattle.std.proofs.Common.{◌≡◌, ℕ, zero, suc, ◌<◌, ◌≤◌, false, ◌⊎◌, List, ◌++◌, length, drop, sym, refl, ap, ◌∙◌, subst, inl, inr, ⊎_elim, arith}
use mathlib.Core.List.{Memᴰ}
use Rattle.store.specs.Medium.{Medium, over, Stays, Back, Blank}
use Rattle.store.specs.Head.{Head, head_of, Sound, records_in, slot, ring_page, target}
use Rattle.store.specs.State.{State, rows, state_by, state_of, Same, Relies, Safe, Rested, Cut, empty}
use Rattle.store.proofs.Over.{over_agree}

pub same_refl : {n : ℕ} (x : State) → Same n x x
same_refl x = record { root = refl; queue = refl; page = λ p _ _. refl }

pub same_sym : {n : ℕ} {x y : State} → Same n x y → Same n y x
same_sym s = record { root = sym s.root; queue = sym s.queue; page = λ p l m. sym (s.page p l m) }

pub same_trans : {n : ℕ} {x y z : State} → Same n x y → Same n y z → Same n x z
same_trans s t = record { root = s.root ∙ t.root; queue = s.queue ∙ t.queue; page = λ p l m. s.page p l m ∙ t.page p l m }

-- a head counts on no page past the end, and not on its own
pub relies_near : {n : ℕ} {h : Head} {p : ℕ} → 393 ≤ n → Sound n h → Relies n h p → (0 < p) × (p < n)
relies_near b s (Relies.image k l e) = (omega arith, omega (arith, s.few, s.side))
relies_near {n} {h} b s (Relies.ring i l e) = (omega arith, omega arith)
relies_near b s (Relies.plain l m t) = (omega arith, m)

pub rows_agree : (k : ℕ) (f g : ℕ → List ℕ) → ((i : ℕ) → i < k → f i ≡ g i) → rows k f ≡ rows k g
unfolding rows
rows_agree zero f g e = refl
rows_agree (suc k) f g e = ap (λ r. r ++ records_in 128 (f k)) (rows_agree k f g (λ i l. e i (omega arith))) ∙ ap (λ w. rows k g ++ records_in 128 w) (e k (omega arith))

-- two disks that agree on what h counts on mean the same by it
pub agree : (n : ℕ) (h : Head) (f s : ℕ → List ℕ) → ((p : ℕ) → Relies n h p → f p ≡ s p) → Same n (state_by h f) (state_by h s)
agree n h f s e = record {
  root = refl;
  queue = ap (λ r. drop h.done (r ++ h.own)) (rows_agree h.full (λ i. f (ring_page h i)) (λ i. s (ring_page h i)) (λ i l. e _ (Relies.ring i l refl)));
  page = λ p l m. over_agree (length h.targets) (target h) (target h) (λ k. f (slot h k)) (λ k. s (slot h k)) f s p (λ k _. refl) (λ k q. e _ (Relies.image k q refl)) (λ t. e p (Relies.plain l m t));
}

pub by_head : {n : ℕ} {g h : Head} (s : ℕ → List ℕ) → g ≡ h → Same n (state_by g s) (state_by h s)
by_head {n} {g} s e = subst (λ h. Same n (state_by g s) (state_by h s)) e (same_refl _)

-- what comes back of a disk whose head, of all that a cut may leave of page 0, is one of two that it can rely on
back_means : (m e f : Medium) (h : Head) → 393 ≤ m.pages → e.pages ≡ m.pages → Sound m.pages h → ((p : ℕ) → Relies m.pages h p → Stays e p (m.shown p)) → Back e f →
    head_of (f.shown 0) ≡ h → Rested f × Same m.pages (state_of f.shown) (state_by h m.shown)
back_means m e f h big n ok firm b z = (
  record {
    big = rw (b.same ∙ n) big;
    head = subst (λ k. Sound k (head_of (f.shown 0))) (sym (b.same ∙ n)) (subst (Sound m.pages) (sym z) ok);
    all = λ p _. b.only p;
  },
  same_trans (by_head f.shown z) (agree m.pages h f.shown m.shown (λ p r. firm p r _ (b.each p (rw n (relies_near big ok r).1)))),
)

-- a cut while only pages are written that the head doesn't count on
pub cut_old : (m e : Medium) → Safe m → e.on ≡ false → e.pages ≡ m.pages → Stays e 0 (m.shown 0) →
    ((p : ℕ) → Relies m.pages (head_of (m.shown 0)) p → Stays e p (m.shown p)) → Cut m.pages (λ x. Same m.pages x (state_of m.shown)) e
cut_old m e s off n first firm = record { off = off; pages = n; back = λ f b. back_means m e f _ s.big n s.head firm b (ap head_of (first _ (b.each 0 (omega (arith, s.big))))) }

-- a cut while the head w is written
pub cut_either : (m e : Medium) (w : List ℕ) → Safe m → Sound m.pages (head_of w) → e.on ≡ false → e.pages ≡ m.pages →
    ((x : List ℕ) → Memᴰ x (e.may 0) → (x ≡ w) ⊎ (x ≡ m.shown 0)) →
    ((p : ℕ) → Relies m.pages (head_of (m.shown 0)) p → Stays e p (m.shown p)) → ((p : ℕ) → Relies m.pages (head_of w) p → Stays e p (m.shown p)) →
    Cut m.pages (λ x. Same m.pages x (state_of m.shown) ⊎ Same m.pages x (state_by (head_of w) m.shown)) e
cut_either m e w s ok off n zero' old new = record { off = off; pages = n; back = back }
  where
    back : (f : Medium) → Back e f → Rested f × (Same m.pages (state_of f.shown) (state_of m.shown) ⊎ Same m.pages (state_of f.shown) (state_by (head_of w) m.shown))
    back f b = ⊎_elim
        (λ (z : f.shown 0 ≡ w). let r = back_means m e f _ s.big n ok new b (ap head_of z) in (r.0, inr r.1))
        (λ (z : f.shown 0 ≡ m.shown 0). let r = back_means m e f _ s.big n s.head old b (ap head_of z) in (r.0, inl r.1))
        (zero' _ (b.each 0 (omega (arith, s.big))))

-- a disk differs from one that is safe only in pages that the head doesn't count on
pub safe_like : (m e : Medium) → Safe m → e.pages ≡ m.pages → e.shown 0 ≡ m.shown 0 → Stays e 0 (m.shown 0) →
    ((p : ℕ) → Relies m.pages (head_of (m.shown 0)) p → Stays e p (m.shown p) × (e.shown p ≡ m.shown p)) → Safe e
safe_like m e s n z first firm = record {
  big = rw n s.big;
  head = subst (λ k. Sound k (head_of (e.shown 0))) (sym n) (subst (λ w. Sound m.pages (head_of w)) (sym z) s.head);
  first = subst (Stays e 0) (sym z) first;
  firm = λ p r. let q : Relies m.pages (head_of (m.shown 0)) p = subst (λ w. Relies m.pages (head_of w) p) z (subst (λ k. Relies k (head_of (e.shown 0)) p) n r) in
      subst (Stays e p) (sym (firm p q).1) (firm p q).0;
}

-- at rest, a disk is safe
pub rested_safe : {m : Medium} → Rested m → Safe m
rested_safe {m} r = record { big = r.big; head = r.head; first = r.all 0 (omega (arith, r.big)); firm = λ p q. r.all p (relies_near r.big r.head q).1 }

-- whatever comes back of a disk that is safe is at rest, and means what it did
pub safe_back : (m f : Medium) → Safe m → Back m f → Rested f × Same m.pages (state_of f.shown) (state_of m.shown)
safe_back m f s b = back_means m m f _ s.big refl s.head s.firm b (ap head_of (s.first _ (b.each 0 (omega (arith, s.big)))))

-- a blank disk is at rest, and means the empty state
pub blank_rested : (m : Medium) → Blank m → Rested m
unfolding head_of records_in
blank_rested m b = record {
  big = omega (arith, b.big);
  head = subst (λ w. Sound m.pages (head_of w)) (sym (b.shown 0 (omega (arith, b.big)))) (record
      { few = omega arith; side = omega arith; far = λ k l. absurd (omega arith); near = λ k l. absurd (omega arith); turn = omega arith; room = omega arith; brim = omega arith; done = omega arith; less = omega arith });
  all = λ p l x i. b.may p x i ∙ sym (b.shown p l);
}

pub blank_empty : (m : Medium) → Blank m → Same m.pages (state_of m.shown) empty
unfolding head_of records_in rows over
blank_empty m b = same_trans (by_head m.shown (ap head_of (b.shown 0 (omega (arith, b.big))))) (record { root = refl; queue = refl; page = λ p _ l. b.shown p l })
