-- A batch is taken: the head that names it, and its pages put where they belong.
use Rattle.std.proofs.Common.{◌≡◌, ℕ, zero, suc, ◌+◌, ◌-◌, ◌*◌, ◌%◌, ◌<◌, ◌≤◌, Bool, true, false, List, ◌++◌, length, get_or, drop, sym, refl, ap, ◌∙◌, subst, append_assoc, append-nil, add-zero, add-suc, arith, drop-drop}
use lib.Seq.{drop-append-add}
use Rattle.store.specs.declared.head.Root.{Root}
use Rattle.store.specs.Medium.{Medium, Stays, WroteAll}
use Rattle.store.specs.Head.{Head, head_of, Sound, records_in, slot, slot_in, ring_page, target, wholly, freed, taken}
use Rattle.store.specs.State.{rows, queue_by, state_by, state_of, Same, Relies, Firm, Safe}
use Rattle.store.specs.Store.{Ready, Imaged, Moved, took}
use Rattle.store.proofs.Over.{at_other, over_agree, wrote_same}
use Rattle.store.proofs.Media.{agree, by_head, same_trans, relies_near, rows_agree}
use Rattle.store.proofs.Grows.{length_rows, length_queue}

rows_split : (q j : ℕ) (f : ℕ → List ℕ) → rows (q + j) f ≡ rows q f ++ rows j (λ i. f (q + i))
unfolding rows
rows_split q zero f = ap (λ n. rows n f) (add-zero q) ∙ sym (append-nil (rows q f))
rows_split q (suc j) f = ap (λ n. rows n f) (add-suc q j) ∙ ap (λ l. l ++ records_in 128 (f (q + j))) (rows_split q j f) ∙ append_assoc (rows q f) (rows j (λ i. f (q + i))) (records_in 128 (f (q + j)))

-- the page of the ring i pages on
ring_on : (f q i : ℕ) → ((f + q) % 264 + i) % 264 ≡ (f + (q + i)) % 264
ring_on f q i = omega arith

whole_few : (k : ℕ) (h : Head) → (wholly k h ≤ h.full) × (128 * wholly k h ≤ h.done + k)
whole_few k h = (omega arith, omega arith)

-- what is done goes off the front
pub freed_queue : (k : ℕ) (h : Head) (s : ℕ → List ℕ) → queue_by (freed k h) s ≡ drop k (queue_by h s)
freed_queue k h s =
    let q = wholly k h in
    let f : ℕ → List ℕ = λ i. s (ring_page h i) in
    let b = whole_few k h in
    let e : h.full ≡ wholly k h + (h.full - wholly k h) = omega (arith, b.0) in
    let d : h.done + k ≡ length (rows (wholly k h) (λ i. s (ring_page h i))) + (h.done + k - 128 * wholly k h) = omega (arith, b.1, length_rows (wholly k h) (λ i. s (ring_page h i))) in
    ap (λ r. drop (h.done + k - 128 * q) (r ++ h.own)) (rows_agree (h.full - q) (λ i. s (ring_page (freed k h) i)) (λ i. f (q + i)) (λ i l. ap (λ n. s (129 + n)) (ring_on h.first q i)))
    ∙ sym (drop-append-add (rows q f) (rows (h.full - q) (λ i. f (q + i)) ++ h.own) (h.done + k - 128 * q))
    ∙ ap (λ n. drop n (rows q f ++ (rows (h.full - q) (λ i. f (q + i)) ++ h.own))) (sym d)
    ∙ ap (drop (h.done + k)) (sym (append_assoc (rows q f) (rows (h.full - q) (λ i. f (q + i))) h.own))
    ∙ ap (λ r. drop (h.done + k) (r ++ h.own)) (sym (rows_split q (h.full - q) f) ∙ ap (λ n. rows n f) (sym e))
    ∙ sym (drop-drop k h.done (rows h.full f ++ h.own))

-- the batch t with the pages w is imaged and has lasted, k records are done
module _ (m : Medium) (g : Head) (t : List ℕ) (w : ℕ → List ℕ) (r : Root) (k : ℕ) (y : Ready m g false) (im : Imaged m g.region (length t) true w)
    (far : (j : ℕ) → j < length t → (393 ≤ get_or t j 0) × (get_or t j 0 < m.pages)) (few : k ≤ length (queue_by g m.shown)) where
  abbrev new : Head
  new = taken t r k g

  pub taken_sound : Sound m.pages (taken t r k g)
  taken_sound = let s = y.follows.ok in let l = length_queue g m.shown in record {
    few = im.few;
    side = omega (arith, s.side);
    far = λ j b. (far j b).0;
    near = λ j b. (far j b).1;
    turn = omega arith;
    room = omega (arith, s.room);
    brim = s.brim;
    done = omega (arith, s.brim, s.less, l, few);
    less = omega (arith, s.less, l, few, (whole_few k g).1, (whole_few k g).0);
  }

  pub taken_firm : Firm m (taken t r k g)
  taken_firm p (Relies.image j l e) = subst (λ x. Stays m x (m.shown x)) (sym e) (λ x i. im.last tt j l x i ∙ sym (im.there j l))
  taken_firm p (Relies.ring i l e) = y.last tt p (Relies.ring (wholly k g + i) (omega (arith, (whole_few k g).0)) (e ∙ ap (λ n. 129 + n) (ring_on g.first (wholly k g) i)))
  taken_firm p (Relies.plain l b n) = im.plain tt p l b

  -- what the disk will mean
  pub taken_state : Same m.pages (state_by (taken t r k g) m.shown) (took m g t w r k)
  taken_state = record {
    root = refl;
    queue = freed_queue k g m.shown;
    page = λ p _ _. over_agree (length t) (λ j. get_or t j 0) (λ j. get_or t j 0) (λ j. m.shown (slot_in (1 - g.region) j)) w m.shown m.shown p (λ _ _. refl) (λ j l. im.there j l) (λ _. refl);
  }

  -- the head has lasted on a
  module _ (a : Medium) (head : List ℕ) (hd : head_of head ≡ taken t r k g) (v : Moved m head a) where
    at0 : a.shown 0 ≡ head
    at0 = ap (λ s. s 0) v.shown

    there : (p : ℕ) → 0 < p → a.shown p ≡ m.shown p
    there p l = ap (λ s. s p) v.shown ∙ at_other 0 p head m.shown (λ z. absurd (omega arith))

    by : head_of (a.shown 0) ≡ taken t r k g
    by = ap head_of at0 ∙ hd

    pub took_safe : Safe a
    took_safe = record {
      big = rw v.pages y.kept.safe.big;
      head = subst (Sound a.pages) (sym by) (subst (λ z. Sound z (taken t r k g)) (sym v.pages) taken_sound);
      first = v.all 0;
      firm = λ p _. v.all p;
    }

    pub took_state : Same m.pages (state_of a.shown) (took m g t w r k)
    took_state = same_trans (same_trans (by_head a.shown by) (agree m.pages (taken t r k g) a.shown m.shown (λ p q. there p (relies_near y.kept.safe.big taken_sound q).0))) taken_state

    -- the row in which the batch is put in place is the one that the head tells
    pub took_row : (e : Medium) (c : ℕ) (ok : Bool) → WroteAll c (length t) (λ j. get_or t j 0) w a ok e →
        WroteAll c (length (head_of (a.shown 0)).targets) (target (head_of (a.shown 0))) (λ j. a.shown (slot (head_of (a.shown 0)) j)) a ok e
    took_row e c ok wr = subst (λ (h : Head). WroteAll c (length h.targets) (target h) (λ j. a.shown (slot h j)) a ok e) (sym by)
        (wrote_same (λ j l. refl) (λ j l. sym (there (slot_in (1 - g.region) j) (omega arith) ∙ im.there j l)) wr)
