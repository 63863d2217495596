-- The steps by which a batch is taken, one after the other.
use Rattle.std.proofs.Common.{◌≡◌, ℕ, ◌<◌, ◌≤◌, Bool, true, false, not, T, ◌⊎◌, List, length, get_or, drop, unwrap_or, sym, refl, ap, ◌∙◌, subst, inl, inr, ⊎_elim, arith}
use Rattle.frames.specs.Layout.{Cache, cache_of}
use Rattle.frames.specs.Frames.{Sound as Framed, Clean, InPlace, page_in, pinned, entry_in, batch_page, batch_pages, batch_words, shown_by, settle, held}
use Rattle.store.specs.declared.Store.{Store}
use Rattle.store.specs.Medium.{Medium, over, WroteAll}
use Rattle.store.specs.Head.{Head, head_of, Sound, taken, target, slot}
use Rattle.store.specs.State.{queue_by, state_by, state_of, Same, Firm, Safe, Kept, Cut}
use Rattle.store.specs.Store.{next_of, next, frames_of, cache, Next, Ready, Imaged, Intact, Either, Settled, Moved, took, worked, Taken}
use Rattle.store.proofs.Over.{at_other, over_same, wrote_same}
use Rattle.store.proofs.Media.{by_head, same_trans}
use Rattle.store.proofs.Installs.{installs_cut, installs_low, installs_state, installs_kept}
use Rattle.store.proofs.Takes.{taken_sound, taken_firm, taken_state, took_safe, took_state, took_row}
use Rattle.store.proofs.Cached.{length_pages, page_at_lem, batch_used, row_in_place, row_shown}

-- the images have lasted on a, by a sync or before
module _ (m a : Medium) (part : List ℕ) (s z : Store) (i : Intact m part s) (im : T s.imaged) (wk : s.worked ≤ length (queue_by (next part) m.shown))
    (x : Settled m (next part) s true a z) where
  abbrev c : Cache
  c = cache part

  abbrev g : Head
  g = next part

  abbrev t : List ℕ
  t = batch_pages (cache part)

  abbrev w : ℕ → List ℕ
  w = batch_words (cache part)

  sure : (b : Bool) → T b → b ≡ true
  sure true y = refl
  sure false y = absurd y

  shots : Imaged a g.region (length t) true w
  shots = subst (λ n. Imaged a g.region n true w) (sym (length_pages (frames_of part) i.table)) (subst (λ b. Imaged a g.region c.count b w) (sure z.lasted (x.lasted tt)) (x.images _ _ _ (i.images im)))

  far : (j : ℕ) → j < length t → (393 ≤ get_or t j 0) × (get_or t j 0 < a.pages)
  far j l =
      let k : j < c.count = omega (arith, length_pages (frames_of part) i.table) in
      let e = page_at_lem (frames_of part) i.table j k in
      let u = batch_used (frames_of part) i.table j k in
      let p = i.plain (entry_in c j) u.0 u.1 in
      (omega (arith, e, p.0), omega (arith, e, p.1, x.pages))

  few : s.worked ≤ length (queue_by g a.shown)
  few = subst (λ f. s.worked ≤ length (queue_by g f)) (sym x.shown) wk

  pub over_sound : Sound a.pages (taken (batch_pages (cache part)) s.root s.worked (next part))
  over_sound = taken_sound a g t w s.root s.worked x.ready shots far few

  pub over_firm : Firm a (taken (batch_pages (cache part)) s.root s.worked (next part))
  over_firm = taken_firm a g t w s.root s.worked x.ready shots far few

  -- the row of the batch, as the head names it and as the frames do
  row_same : over (length t) (λ j. get_or t j 0) w a.shown ≡ over c.count (batch_page c) w a.shown
  row_same = ap (λ n. over n (λ j. get_or t j 0) w a.shown) (length_pages (frames_of part) i.table) ∙ over_same c.count (λ j. get_or t j 0) (batch_page c) w w a.shown (page_at_lem (frames_of part) i.table) (λ _ _. refl)

  meant : Same m.pages (took a g t w s.root s.worked) (worked m part s)
  meant = record {
    root = refl;
    queue = ap (λ f. drop s.worked (queue_by g f)) x.shown;
    page = λ p _ _. ap (λ f. f p) row_same ∙ ap (λ f. over c.count (batch_page c) w f p) x.shown ∙ row_shown (frames_of part) i.table m.shown p i.clean;
  }

  -- the power went while the head was written
  pub over_cut : (e : Medium) (h : Head) → h ≡ taken (batch_pages (cache part)) s.root s.worked (next part) → Either a h e →
      Cut m.pages (λ y. Same m.pages y (state_of m.shown) ⊎ Same m.pages y (worked m part s)) e
  over_cut e h eh y = record {
    off = y.off;
    pages = y.pages ∙ x.pages;
    back = λ f b. let r = y.back f b in (
      r.0,
      ⊎_elim
          (λ (q : Same a.pages (state_of f.shown) (state_of a.shown)). inl (subst (λ v. Same m.pages (state_of f.shown) (state_of v)) x.shown (subst (λ n. Same n (state_of f.shown) (state_of a.shown)) x.pages q)))
          (λ (q : Same a.pages (state_of f.shown) (state_by h a.shown)). inr (same_trans (subst (λ n. Same n (state_of f.shown) (took a g t w s.root s.worked)) x.pages
          (same_trans (same_trans q (by_head a.shown eh)) (taken_state a g t w s.root s.worked x.ready shots far few))) meant))
          r.1,
    );
  }

  -- the head has lasted on b; the pages are put in place
  module _ (b e : Medium) (mid : List ℕ) (ok : Bool) (hd : next mid ≡ taken (batch_pages (cache part)) s.root s.worked (next part)) (v : Moved a (next_of mid) b)
      (wr : WroteAll c.count c.count (batch_page (cache part)) (batch_words (cache part)) b ok e) where
    safe : Safe b
    safe = took_safe a g t w s.root s.worked x.ready shots far few b (next_of mid) hd v

    row : WroteAll c.count (length t) (λ j. get_or t j 0) w b ok e
    row = subst (λ n. WroteAll c.count n (λ j. get_or t j 0) w b ok e) (sym (length_pages (frames_of part) i.table)) (wrote_same (λ j l. sym (page_at_lem (frames_of part) i.table j l)) (λ _ _. refl) wr)

    headed : WroteAll c.count (length (head_of (b.shown 0)).targets) (target (head_of (b.shown 0))) (λ j. b.shown (slot (head_of (b.shown 0)) j)) b ok e
    headed = took_row a g t w s.root s.worked x.ready shots far few b (next_of mid) hd v e c.count ok row

    n : b.pages ≡ m.pages
    n = v.pages ∙ x.pages

    bstate : Same m.pages (state_of b.shown) (worked m part s)
    bstate = same_trans (subst (λ k. Same k (state_of b.shown) (took a g t w s.root s.worked)) x.pages (took_state a g t w s.root s.worked x.ready shots far few b (next_of mid) hd v)) meant

    pub put_cut : T (not ok) → Cut m.pages (λ y. Same m.pages y (state_of m.shown) ⊎ Same m.pages y (worked m part s)) e
    put_cut no' = let y = installs_cut b e c.count ok safe headed no' in record
        { off = y.off; pages = y.pages ∙ n; back = λ f q. let r = y.back f q in (r.0, inr (same_trans (subst (λ k. Same k (state_of f.shown) (state_of b.shown)) n r.1) bstate)) }

    module _ (yes' : T ok) (after : List ℕ) (fr : frames_of mid ≡ frames_of part) (nx : next_of after ≡ next_of mid) (long : length after ≡ 62976) (table : Framed (frames_of after)) (ca : cache after ≡ settle (cache mid))
        (shown : (u v' : ℕ → List ℕ) → InPlace (cache mid) u v' → shown_by (cache after) v' ≡ shown_by (cache mid) u)
        (clean : (u v' : ℕ → List ℕ) → InPlace (cache mid) u v' → Clean (cache mid) u → Clean (cache after) v') where
      cm : cache mid ≡ c
      cm = ap cache_of fr

      cs : cache after ≡ settle c
      cs = ca ∙ ap settle cm

      bs : (p : ℕ) → 0 < p → b.shown p ≡ m.shown p
      bs p l = ap (λ f. f p) v.shown ∙ at_other 0 p (next_of mid) a.shown (λ y. absurd (omega arith)) ∙ ap (λ f. f p) x.shown

      in_place : InPlace (cache mid) b.shown e.shown
      in_place = subst (λ y. InPlace y b.shown e.shown) (sym cm) (subst (InPlace c b.shown) (sym (wr.shown yes')) (row_in_place (frames_of part) i.table b.shown))

      bclean : Clean (cache mid) b.shown
      bclean = subst (λ y. Clean y b.shown) (sym cm) (record { same = λ k l u y. i.clean.same k l u y ∙ sym (bs (page_in c k) u) })

      head : e.shown 0 ≡ next_of after
      head = installs_low b e c.count ok safe headed yes' 0 (omega arith) ∙ ap (λ f. f 0) v.shown ∙ sym nx

      kept : Kept e
      kept = installs_kept b e c.count ok safe headed yes'

      ep : e.pages ≡ m.pages
      ep = wr.pages ∙ n

      ready : Ready e (next after) false
      ready = record {
        kept = kept;
        follows = subst (λ y. Next e.pages (head_of y) (next after)) (sym head) (record {
          ok = subst (λ y. Sound e.pages (head_of y)) head kept.safe.head;
          format = ap (λ (y : Head). y.format) (ap head_of nx ∙ hd) ∙ x.ready.follows.format;
          region = refl;
          targets = refl;
          root = refl;
          first = refl;
          full = omega arith;
          done = refl;
        });
        last = λ _. subst (λ y. Firm e (head_of y)) head kept.safe.firm;
      }

      estate : Same m.pages (state_of e.shown) (worked m part s)
      estate = same_trans (subst (λ k. Same k (state_of e.shown) (state_of b.shown)) n (installs_state b e c.count ok safe headed yes')) bstate

      pub put_done : Taken m part s e after (record { fresh = z.fresh; imaged = false; lasted = z.lasted; root = z.root; worked = 0 })
      put_done = record {
        intact = record {
          long = long;
          ready = subst (Ready e (next after)) (sym (ap (λ (q : Store). q.fresh) x.store)) ready;
          table = table;
          clean = clean b.shown e.shown in_place bclean;
          plain = subst (λ y. (k : ℕ) → k < 120 → 0 < page_in y k → (393 ≤ page_in y k) × (page_in y k < e.pages)) (sym cs) (λ k l u. ((i.plain k l u).0, subst (λ y. page_in c k < y) (sym ep) (i.plain k l u).1));
          pins = subst (λ y. pinned y ≡ 0) (sym cs) i.pins;
          images = λ y. absurd y;
        };
        pages = ep;
        state = estate;
        queue = ap (λ y. queue_by (head_of y) e.shown) (sym head) ∙ estate.queue;
        view = λ p l. ap (λ f. f p) (shown b.shown e.shown in_place) ∙ ap (λ y. shown_by y b.shown p) cm ∙ view_like c b.shown m.shown p (bs p (omega arith));
        empty = ap (λ (y : Cache). y.count) cs;
        store = store_is (sure z.lasted (x.lasted tt)) x.store;
        left = omega (arith, x.left, v.left, wr.left yes');
      }
        where
          view_like : (y : Cache) (f h' : ℕ → List ℕ) (p : ℕ) → f p ≡ h' p → shown_by y f p ≡ shown_by y h' p
          view_like y f h' p q = ap (λ o. unwrap_or (held y p) o) q

          store_is : z.lasted ≡ true → z ≡ record { fresh = false; imaged = s.imaged; lasted = z.lasted; root = s.root; worked = s.worked } →
              ◌≡◌ {A = Store} (record { fresh = z.fresh; imaged = false; lasted = z.lasted; root = z.root; worked = 0 }) (record { fresh = false; imaged = false; lasted = true; root = s.root; worked = 0 })
          store_is l q = ap (λ (y : Store). record { fresh = y.fresh; imaged = false; lasted = y.lasted; root = y.root; worked = 0 }) q ∙ ap (λ (o : Bool). record { fresh = false; imaged = false; lasted = o; root = s.root; worked = 0 }) l
