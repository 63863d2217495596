-- The batch of the frames as the head names it.
use Rattle.std.proofs.Common.{◌≡◌, ℕ, ◌+◌, ◌<◌, ◌≤◌, List, [], ◌∷◌, ◌++◌, length, get_or, take, Some, None, sym, ap, ◌∙◌, ⊎_elim, arith}
use Rattle.std.proofs.lemmas.List.{take_more, length-map, take_all, get_or-replicate}
use Rattle.store.specs.Medium.{over}
use Rattle.store.proofs.Over.{over_hit, over_miss}
use Rattle.frames.specs.Layout.{Cache, cache_of}
use Rattle.frames.specs.Frames.{Sound as Framed, Clean, page_in, mark_in, entry_in, batch, batch_page, batch_pages, batch_words, shown_by, slot_of, settle, InPlace}
use Rattle.frames.proofs.Slots.{rows, cases_slot, slot_some}
use Rattle.frames.proofs.Shown.{shown_frame, shown_disk, settled_clean, settled_shown, batch_once}
use Rattle.frames.proofs.Batch.{batch_long, batch_page_lem}

-- where no frame is changed, the pages are those of the disk
pub all_clean : (c : Cache) (s : ℕ → List ℕ) (p : ℕ) → length c.pages ≡ 120 → ((i : ℕ) → i < 120 → mark_in c i ≡ 0) → Clean c s → shown_by c s p ≡ s p
all_clean c s p l none cl = ⊎_elim
    (λ (a : slot_of c p ≡ None). shown_disk c s p a)
    (λ (a : (i : ℕ) × (slot_of c p ≡ Some i)). let b = slot_some c.pages p a.0 a.1 in let i : a.0 < 120 = omega (arith, b.0) in
    shown_frame c s p a.0 a.1 ∙ cl.same a.0 i (omega (arith, b.1, b.2)) (none a.0 i) ∙ ap s b.1)
    (cases_slot (slot_of c p))

module _ (f : List ℕ) (s : Framed f) where
  abbrev c : Cache
  c = cache_of f

  pub length_pages : length (batch_pages (cache_of f)) ≡ (cache_of f).count
  length_pages = length-map (batch c) (page_in c) ∙ batch_long c s.table (rows f s.sized)

  pub page_at_lem : (k : ℕ) → k < (cache_of f).count → get_or (batch_pages (cache_of f)) k 0 ≡ batch_page (cache_of f) k
  page_at_lem = batch_page_lem c s.table (rows f s.sized)

  pub pages_more : (k : ℕ) → k < (cache_of f).count → take (k + 1) (batch_pages (cache_of f)) ≡ take k (batch_pages (cache_of f)) ++ batch_page (cache_of f) k ∷ []
  pages_more k l = take_more (batch_pages c) k 0 (omega (arith, length_pages)) ∙ ap (λ p. take k (batch_pages c) ++ p ∷ []) (page_at_lem k l)

  pub pages_all : (k : ℕ) → (cache_of f).count ≤ k → take k (batch_pages (cache_of f)) ≡ batch_pages (cache_of f)
  pages_all k l = take_all k (batch_pages c) (omega (arith, length_pages))

  -- a page of the batch is the page of a frame that is in use
  pub batch_used : (k : ℕ) → k < (cache_of f).count → (entry_in (cache_of f) k < 120) × (0 < batch_page (cache_of f) k)
  batch_used k l = let a = s.table.entered k l in (a.0, s.table.used (entry_in c k) a.0 (omega (arith, a.1)))

  -- the batch written in place, by the row in which the code writes it
  pub row_in_place : (d : ℕ → List ℕ) → InPlace (cache_of f) d (over (cache_of f).count (batch_page (cache_of f)) (batch_words (cache_of f)) d)
  row_in_place d = record {
    put = λ k l. over_hit c.count (batch_page c) (batch_words c) d k l (λ j b. batch_once c s.table k j l b);
    rest = λ q n. over_miss c.count (batch_page c) (batch_words c) d q n;
  }

  -- what the row shows is what the frames show
  pub row_shown : (d : ℕ → List ℕ) (p : ℕ) → Clean (cache_of f) d → over (cache_of f).count (batch_page (cache_of f)) (batch_words (cache_of f)) d p ≡ shown_by (cache_of f) d p
  row_shown d p cl =
      let r = rows f s.sized in
      let d' = over c.count (batch_page c) (batch_words c) d in
      sym (all_clean (settle c) d' p r.pages (λ i l. get_or-replicate 120 i 0 0 l) (settled_clean c s.table r d d' (row_in_place d) cl)) ∙ ap (λ z. z p) (settled_shown c s.table r d d' (row_in_place d))
