-- The batch as a list, and which pages are changed.
use Rattle.std.proofs.Common.{◌≡◌, ℕ, ◌-◌, ◌<◌, true, ◌≢◌, [], ◌∷◌, ◌++◌, map, length, get_or, Some, None, sym, ap, ◌∙◌, ⊎_elim, arith}
use Rattle.std.proofs.lemmas.List.{length-take-le, take_more_set, map_push, get_or-map, get_or-take}
use Rattle.std.proofs.lemmas.Bool.{cases_eq, false≢true}
use Rattle.frames.specs.Layout.{Cache}
use Rattle.frames.specs.Frames.{Table, page_in, mark_in, entry_in, slot_of, batch, batch_page, batch_pages, changed, list}
use Rattle.frames.proofs.Slots.{Rows, cases_slot, slot_some}
use Rattle.frames.proofs.Shown.{slot_is}
use Rattle.frames.proofs.Changed.{changed_none, changed_no, changed_yes}

module _ (c : Cache) (t : Table c) (r : Rows c) where
  pub batch_long : length (batch c) ≡ c.count
  batch_long = length-take-le c.count c.entries (omega (arith, t.few, r.entries))

  pub batch_page_lem : (k : ℕ) → k < c.count → get_or (batch_pages c) k 0 ≡ batch_page c k
  batch_page_lem k h =
      get_or-map (page_in c) (batch c) k 0 0 (omega (arith, batch_long)) ∙ ap (page_in c) (get_or-take c.count c.entries k 0 h)

  -- a frame that is entered comes last
  pub listed_batch : (i : ℕ) → c.count < 64 → batch (list c i) ≡ batch c ++ (i ∷ [])
  listed_batch i h = take_more_set c.entries c.count i (omega (arith, r.entries))

  pub listed_pages : (i : ℕ) → c.count < 64 → batch_pages (list c i) ≡ batch_pages c ++ (page_in c i ∷ [])
  listed_pages i h = ap (map (page_in c)) (listed_batch i h) ∙ map_push (page_in c) (batch c) i

  -- the pages of the batch are those that are changed
  pub batch_changed : (k : ℕ) → k < c.count → changed c (batch_page c k) ≡ true
  batch_changed k h =
      let a = t.entered k h in
      let u = t.used (entry_in c k) a.0 (omega (arith, a.1)) in
      changed_yes c (batch_page c k) (entry_in c k) (slot_is c t r (entry_in c k) a.0 u) (omega (arith, a.1))

  pub changed_batch : (p : ℕ) → changed c p ≡ true → (k : ℕ) × (k < c.count) × (batch_page c k ≡ p)
  changed_batch p e = ⊎_elim
      (λ (n : slot_of c p ≡ None). absurd (false≢true (sym (changed_none c p n) ∙ e)))
      (λ (s : (i : ℕ) × (slot_of c p ≡ Some i)).
      let i = s.0 in
      let at = slot_some c.pages p i s.1 in
      let low : i < 120 = omega (arith, at.0, r.pages) in
      ⊎_elim
      (λ (z : mark_in c i ≡ 0). absurd (false≢true (sym (changed_no c p i s.1 z) ∙ e)))
      (λ (nz : mark_in c i ≢ 0).
      let m = t.marked i low (omega arith) in
      (mark_in c i - 1, omega (arith, m.0), ap (page_in c) m.1 ∙ at.1))
      (cases_eq (mark_in c i) 0))
      (cases_slot (slot_of c p))
