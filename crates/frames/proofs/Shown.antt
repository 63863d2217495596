-- What each step makes of the pages that are shown.
use Rattle.std.proofs.Common.{◌≡◌, ℕ, ◌+◌, ◌-◌, ◌<◌, true, false, cond, eqb, ◌≢◌, List, length, get_or, set, replicate, Some, None, Option, unwrap_or, sym, refl, ap, ◌∙◌, ⊎_elim, arith}
use mathlib.Core.Path.{fun_ext}
use Rattle.std.proofs.lemmas.List.{get_or-set_same, get_or-set_other, get_or-replicate, length-set}
use Rattle.std.proofs.lemmas.Bool.{cases_eq, eq-eqb, ne_eqb}
use Rattle.std.specs.Option.{option_map}
use Rattle.frames.specs.Layout.{Cache, cleared, frame_in, placed}
use Rattle.frames.specs.Frames.{Table, Idle, Clean, InPlace, at, page_in, mark_in, entry_in, slot_of, shown_by, batch_page, fill, list, enter, write, settle}
use Rattle.frames.proofs.Slots.{Rows, cases_slot, frame_same, frame_other, slot_first, slot_absent, slot_some, slot_none}

module _ {A : Type 0} (p : ℕ) (x : A) (f : ℕ → A) where
  pub at_same : (q : ℕ) → q ≡ p → at p x f q ≡ x
  at_same q e = rw (eq-eqb q p e)

  pub at_other : (q : ℕ) → q ≢ p → at p x f q ≡ f q
  at_other q ne = rw (ne_eqb q p ne)

-- what is written where it stands already
pub at_self : {A : Type 0} (p : ℕ) (x : A) (f : ℕ → A) → f p ≡ x → at p x f ≡ f
at_self p x f e = fun_ext (λ q. ⊎_elim
    (λ (a : q ≡ p). at_same p x f q a ∙ sym e ∙ ap f (sym a))
    (λ (a : q ≢ p). at_other p x f q a)
    (cases_eq q p))

-- a page in a frame, and a page in none
module _ (c : Cache) (s : ℕ → List ℕ) (q : ℕ) where
  pub shown_frame : (i : ℕ) → slot_of c q ≡ Some i → shown_by c s q ≡ frame_in c.frames i
  shown_frame i e = ap (λ (o : Option ℕ). unwrap_or (option_map (frame_in c.frames) o) (s q)) e

  pub shown_disk : slot_of c q ≡ None → shown_by c s q ≡ s q
  shown_disk e = ap (λ (o : Option ℕ). unwrap_or (option_map (frame_in c.frames) o) (s q)) e

module _ (c : Cache) (t : Table c) (r : Rows c) where
  -- the page of a frame stands there alone
  pub slot_is : (i : ℕ) → i < 120 → 0 < page_in c i → slot_of c (page_in c i) ≡ Some i
  slot_is i l u = slot_first c.pages (page_in c i) u i (omega (arith, r.pages)) refl
      (λ k h e. omega (arith, t.once i k l (omega arith) u (sym e)))

  -- page p comes to frame i
  module _ (i p : ℕ) (w : List ℕ) (low : i < 120) (pos : 0 < p) (new : slot_of c p ≡ None) where
    pub page_filled : page_in (fill c i p w) i ≡ p
    page_filled = get_or-set_same c.pages i p 0 (omega (arith, r.pages))

    there : (j : ℕ) → j ≢ i → page_in (fill c i p w) j ≡ page_in c j
    there j ne = get_or-set_other c.pages i j p 0 ne

    rowed : length (fill c i p w).pages ≡ 120
    rowed = length-set c.pages i p ∙ r.pages

    strange : (j : ℕ) → j < 120 → j ≢ i → page_in (fill c i p w) j ≢ p
    strange j l ne e = slot_none c.pages p new pos j (omega (arith, r.pages)) (sym (there j ne) ∙ e)

    pub slot_filled : slot_of (fill c i p w) p ≡ Some i
    slot_filled = slot_first (fill c i p w).pages p pos i (omega (arith, rowed)) page_filled (λ k h. strange k (omega arith) (omega arith))

    -- another page stands where it stood, unless it stood in frame i
    pub slot_elsewhere : (q j : ℕ) → q ≢ p → j ≢ i → slot_of c q ≡ Some j → slot_of (fill c i p w) q ≡ Some j
    slot_elsewhere q j a ne e =
        let b = slot_some c.pages q j e in
        slot_first (fill c i p w).pages q b.2 j (omega (arith, rowed, b.0, r.pages)) (there j ne ∙ b.1)
        (λ k h f. ⊎_elim
        (λ (z : k ≡ i). a (sym f ∙ ap (page_in (fill c i p w)) z ∙ page_filled))
        (λ (z : k ≢ i).
        let g : page_in c k ≡ q = sym (there k z) ∙ f in
        omega (arith, t.once j k (omega (arith, b.0, r.pages)) (omega (arith, b.0, r.pages)) (omega (arith, b.1, b.2)) (b.1 ∙ sym g)))
        (cases_eq k i))

    pub slot_left : (q : ℕ) → q ≢ p → ((j : ℕ) → j < 120 → j ≢ i → 0 < q → page_in c j ≢ q) → slot_of (fill c i p w) q ≡ None
    slot_left q a f = slot_absent (fill c i p w).pages q (λ k h u e. ⊎_elim
        (λ (z : k ≡ i). a (sym e ∙ ap (page_in (fill c i p w)) z ∙ page_filled))
        (λ (z : k ≢ i). f k (omega (arith, rowed)) z u (sym (there k z) ∙ e))
        (cases_eq k i))

  module _ (s : ℕ → List ℕ) (i p : ℕ) (w : List ℕ) (low : i < 120) (long : length w ≡ 512) where
    -- a frame's words are changed, and so is the page that stands there
    pub written_shown : slot_of c p ≡ Some i → shown_by (write c i w) s ≡ at p w (shown_by c s)
    written_shown e = fun_ext (λ q. ⊎_elim
        (λ (a : q ≡ p).
        let b : slot_of c q ≡ Some i = ap (λ n. slot_of c n) a ∙ e in
        shown_frame (write c i w) s q i b ∙ frame_same c.frames i w r.frames low long ∙ sym (at_same p w (shown_by c s) q a))
        (λ (a : q ≢ p). ⊎_elim
        (λ (b : slot_of c q ≡ None). shown_disk (write c i w) s q b ∙ sym (shown_disk c s q b) ∙ sym (at_other p w (shown_by c s) q a))
        (λ (b : (j : ℕ) × (slot_of c q ≡ Some j)).
        let ne : b.0 ≢ i = λ z. a (sym (slot_some c.pages q b.0 b.1).1 ∙ ap (page_in c) z ∙ (slot_some c.pages p i e).1) in
        shown_frame (write c i w) s q b.0 b.1
        ∙ frame_other c.frames i w r.frames low long b.0 ne
        ∙ sym (shown_frame c s q b.0 b.1) ∙ sym (at_other p w (shown_by c s) q a))
        (cases_slot (slot_of c q)))
        (cases_eq q p))

  module _ (s : ℕ → List ℕ) (clean : Clean c s) (i p : ℕ) (w : List ℕ) (low : i < 120) (long : length w ≡ 512) where
    -- only a changed frame may be written
    pub written_clean : 0 < mark_in c i → Clean (write c i w) s
    written_clean m = record {
      same = λ j l u z.
          let ne : j ≢ i = λ e. omega (arith, ap (mark_in c) e) in
          frame_other c.frames i w r.frames low long j ne ∙ clean.same j l u z;
    }

    module _ (pos : 0 < p) (idle : Idle c i) (new : slot_of c p ≡ None) where
      pub filled_shown : shown_by (fill c i p w) s ≡ at p w (shown_by c s)
      filled_shown = fun_ext (λ q. ⊎_elim
          (λ (a : q ≡ p).
          shown_frame (fill c i p w) s q i (ap (λ n. slot_of (fill c i p w) n) a ∙ slot_filled i p w low pos new)
          ∙ frame_same c.frames i w r.frames low long ∙ sym (at_same p w (shown_by c s) q a))
          (λ (a : q ≢ p). ⊎_elim
          (λ (b : slot_of c q ≡ None).
          shown_disk (fill c i p w) s q (slot_left i p w low pos new q a (λ j l ne u. slot_none c.pages q b u j (omega (arith, r.pages))))
          ∙ sym (shown_disk c s q b) ∙ sym (at_other p w (shown_by c s) q a))
          (λ (b : (j : ℕ) × (slot_of c q ≡ Some j)). ⊎_elim
          (λ (z : b.0 ≡ i).
          let g = slot_some c.pages q b.0 b.1 in
          let mine : page_in c i ≡ q = ap (page_in c) (sym z) ∙ g.1 in
          shown_disk (fill c i p w) s q (slot_left i p w low pos new q a (λ j l ne u e. ne (t.once j i l low (omega arith) (e ∙ sym mine))))
          ∙ ap s (sym mine) ∙ sym (clean.same i low (omega (arith, g.2)) idle.0)
          ∙ ap (frame_in c.frames) (sym z) ∙ sym (shown_frame c s q b.0 b.1) ∙ sym (at_other p w (shown_by c s) q a))
          (λ (ne : b.0 ≢ i).
          shown_frame (fill c i p w) s q b.0 (slot_elsewhere i p w low pos new q b.0 a ne b.1)
          ∙ frame_other c.frames i w r.frames low long b.0 ne
          ∙ sym (shown_frame c s q b.0 b.1) ∙ sym (at_other p w (shown_by c s) q a))
          (cases_eq b.0 i))
          (cases_slot (slot_of c q)))
          (cases_eq q p))

      -- filled with what the disk shows, nothing changes
      pub filled_same : w ≡ s p → shown_by (fill c i p w) s ≡ shown_by c s
      filled_same e = filled_shown ∙ at_self p w (shown_by c s) (shown_disk c s p new ∙ sym e)

      -- all frames but this one are as clean as they were
      filled_others : (j : ℕ) → j < 120 → j ≢ i → 0 < page_in (fill c i p w) j → mark_in c j ≡ 0 → frame_in (placed c.frames i w) j ≡ s (page_in (fill c i p w) j)
      filled_others j l ne u z =
          frame_other c.frames i w r.frames low long j ne
          ∙ clean.same j l (omega (arith, there i p w low pos new j ne)) z ∙ ap s (sym (there i p w low pos new j ne))

      pub filled_clean : w ≡ s p → Clean (fill c i p w) s
      filled_clean e = record {
        same = λ j l u z. ⊎_elim
            (λ (a : j ≡ i).
            ap (frame_in (placed c.frames i w)) a ∙ frame_same c.frames i w r.frames low long
            ∙ e ∙ ap s (sym (page_filled i p w low pos new)) ∙ ap (λ n. s (page_in (fill c i p w) n)) (sym a))
            (λ (a : j ≢ i). filled_others j l a u z)
            (cases_eq j i);
      }

      -- a page that is new to the frames, with words of its own, is entered at once
      pub staged_clean : Clean (enter (fill c i p w) i) s
      staged_clean = rw (eq-eqb (mark_in c i) 0 idle.0) (record {
        same = λ j l u z. ⊎_elim
            (λ (a : j ≡ i). absurd (omega (arith, ap (λ n. get_or (set c.marks i (c.count + 1)) n 0) a, get_or-set_same c.marks i (c.count + 1) 0 (omega (arith, r.marks)))))
            (λ (a : j ≢ i). filled_others j l a u (sym (get_or-set_other c.marks i j (c.count + 1) 0 a) ∙ z))
            (cases_eq j i);
      })

-- where every frame is free, the disk's pages are shown
module _ (fs : List ℕ) (s : ℕ → List ℕ) where
  pub cleared_shown : shown_by (cleared fs) s ≡ s
  cleared_shown = fun_ext (λ q. shown_disk (cleared fs) s q
      (slot_absent (replicate 120 0) q (λ k h u e. omega (arith, get_or-replicate {A = ℕ} 120 k 0 0 h))))

  pub cleared_clean : Clean (cleared fs) s
  cleared_clean = record { same = λ i l u z. absurd (omega (arith, get_or-replicate {A = ℕ} 120 i 0 0 l)) }

-- entering a frame moves no page
pub entered_slots : (c : Cache) (i p : ℕ) → slot_of (enter c i) p ≡ slot_of c p
entered_slots c i p = elim (eqb (mark_in c i) 0) as (λ b. slot_of (cond b (list c i) c) p ≡ slot_of c p) [ true ↦ refl | false ↦ refl ]

pub entered_page : (c : Cache) (i j : ℕ) → page_in (enter c i) j ≡ page_in c j
entered_page c i j = elim (eqb (mark_in c i) 0) as (λ b. page_in (cond b (list c i) c) j ≡ page_in c j) [ true ↦ refl | false ↦ refl ]

-- and changes none
module _ (c : Cache) (s : ℕ → List ℕ) (i : ℕ) where
  pub entered_shown : shown_by (enter c i) s ≡ shown_by c s
  entered_shown = elim (eqb (mark_in c i) 0) as (λ b. shown_by (cond b (list c i) c) s ≡ shown_by c s) [ true ↦ refl | false ↦ refl ]

  pub entered_clean : Clean c s → Rows c → i < 120 → Clean (enter c i) s
  entered_clean k r l = elim (eqb (mark_in c i) 0) as (λ b. Clean (cond b (list c i) c) s) [
    | true ↦ record {
      same = λ j h u z. k.same j h u (⊎_elim
          (λ (a : j ≡ i). absurd (omega (arith, ap (λ n. get_or (set c.marks i (c.count + 1)) n 0) a, get_or-set_same c.marks i (c.count + 1) 0 (omega (arith, r.marks)))))
          (λ (a : j ≢ i). sym (get_or-set_other c.marks i j (c.count + 1) 0 a) ∙ z)
          (cases_eq j i));
    }
    | false ↦ k
  ]

pub entered_marked : (c : Cache) (i : ℕ) → Rows c → i < 120 → 0 < mark_in (enter c i) i
entered_marked c i r l = ⊎_elim
    (λ (z : mark_in c i ≡ 0). rw (eq-eqb (mark_in c i) 0 z) (omega (arith, get_or-set_same c.marks i (c.count + 1) 0 (omega (arith, r.marks)))))
    (λ (nz : mark_in c i ≢ 0). rw (ne_eqb (mark_in c i) 0 nz) (omega arith))
    (cases_eq (mark_in c i) 0)

-- the batch was taken: the disk now shows it in place
module _ (c : Cache) (t : Table c) (r : Rows c) (s d : ℕ → List ℕ) (put : InPlace c s d) where
  pub settled_clean : Clean c s → Clean (settle c) d
  settled_clean clean = record {
    same = λ i l u z. ⊎_elim
        (λ (a : mark_in c i ≡ 0).
        clean.same i l u a
        ∙ sym (put.rest (page_in c i) (λ k h e.
        let b = t.entered k h in
        omega (arith, b.1, ap (mark_in c) (t.once i (entry_in c k) l b.0 u e)))))
        (λ (a : mark_in c i ≢ 0).
        let m = t.marked i l (omega arith) in
        ap (frame_in c.frames) (sym m.1) ∙ sym (put.put (mark_in c i - 1) (omega (arith, m.0))) ∙ ap (λ n. d (page_in c n)) m.1)
        (cases_eq (mark_in c i) 0);
  }

  pub settled_shown : shown_by (settle c) d ≡ shown_by c s
  settled_shown = fun_ext (λ q. ⊎_elim
      (λ (a : slot_of c q ≡ None).
      shown_disk (settle c) d q a
      ∙ put.rest q (λ k h e.
      let b = t.entered k h in
      let u = t.used (entry_in c k) b.0 (omega (arith, b.1)) in
      slot_none c.pages q a (omega (arith, u)) (entry_in c k) (omega (arith, b.0, r.pages)) (sym e))
      ∙ sym (shown_disk c s q a))
      (λ (a : (j : ℕ) × (slot_of c q ≡ Some j)). shown_frame (settle c) d q a.0 a.1 ∙ sym (shown_frame c s q a.0 a.1))
      (cases_slot (slot_of c q)))

-- no page stands twice in the batch
module _ (c : Cache) (t : Table c) where
  pub batch_once : (i j : ℕ) → i < c.count → j < c.count → batch_page c i ≡ batch_page c j → i ≡ j
  batch_once i j h l e =
      let a = t.entered i h in
      let b = t.entered j l in
      let u = t.used (entry_in c i) a.0 (omega (arith, a.1)) in
      omega (arith, a.1, b.1, ap (mark_in c) (t.once (entry_in c i) (entry_in c j) a.0 b.0 u e))
