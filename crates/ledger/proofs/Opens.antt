-- Coming up: what stands once the store is open, page by page of the queue, and line by line.
use Rattle.std.proofs.Common.{◌≡◌, ℕ, ◌+◌, ◌-◌, ◌*◌, ◌<◌, ◌≤◌, List, ◌++◌, length, get_or, take, drop, map, sym, refl, ap, ◌∙◌, subst, ⊎_elim, arith, cond, ◌⊎◌, inl, inr}
use Rattle.std.specs.List.{range_with_len}
use Rattle.std.specs.declared.ops.Range.{Range}
use Rattle.std.proofs.lemmas.Bool.{cases_eq, eq-eqb, ne_eqb, lt-ltb, le-ltb}
use Rattle.std.proofs.lemmas.List.{ext_get_or, get_or-take, get_or-drop, length-take-le, take_all, length-drop}
use Rattle.std.proofs.lemmas.List.FromFn.{length-map-range_with_len, get_or-map-range_with_len}
use Rattle.std.proofs.Math.Seq.{take-add}
use Rattle.frames.specs.Layout.{cache_of}
use Rattle.frames.specs.Frames.{shown_by}
use Rattle.store.specs.declared.head.Record.TheVariants.{Drop}
use Rattle.store.specs.declared.Store.{Store}
use Rattle.store.specs.Medium.{Medium}
use Rattle.store.specs.Head.{Head, head_of, Sound, record_at}
use Rattle.store.specs.State.{State, state_of, queue_by, Same}
use Rattle.store.specs.Store.{Intact, Opened, Lost, next, next_of, cache}
use Rattle.store.specs.Queue.{QueuePage, Loaded}
use Rattle.store.proofs.Grows.{length_queue}
use Rattle.pager.specs.Ground.{pairs_by, Grounded}
use Rattle.pager.specs.Volume.{view_of, pairs_in, Paged, Leaves}
use Rattle.pager.proofs.Grounds.{ground_same}
use Rattle.ledger.specs.Ledger.{Pairs, lasting, book_pairs, Lasts, Rests, Cut}
use Rattle.ledger.specs.Opens.{Raised, records_at}
use Rattle.ledger.proofs.Means.{Means, means_same, means_lasts, lasts_means, cut_means}

-- the power went, and nothing has changed
pub lasts_lost : (p : ℕ) (m : Medium) (b : Pairs) → Lasts p m → book_pairs m ≡ b → (e : Medium) → Lost m e → Cut p b e
lasts_lost p m b l k e c = cut_means p m.pages _ e l.pages l.big l.small c b (λ x y. means_same p b x (lasting m) (subst (λ n. Same n x (lasting m)) l.pages y) (means_lasts p b m l k))

-- the store has come up
pub opened_raised : (p : ℕ) (m : Medium) (b : Pairs) → Rests p m b → (e : Medium) (q : List ℕ) (z : Store) → Opened m e q z → Raised p e q z b
opened_raised p m b r e q z o =
    let same : Same p (lasting e) (lasting m) = subst (λ n. Same n (lasting e) (lasting m)) r.lasts.pages o.state in
    let k : Means p b (lasting e) = means_same p b (lasting e) (lasting m) same (means_lasts p b m r.lasts r.book) in
    let root : z.root ≡ (lasting e).root = ap (λ (x : Store). x.root) o.store ∙ sym o.state.root in
    let seen : (x : ℕ) → 393 ≤ x → x < p → view_of e q x ≡ (lasting e).page x =
    λ x l h. ap (λ f. f x) o.view ∙ sym (o.intact.ready.kept.put x l (subst (λ n. x < n) (sym (o.pages ∙ r.lasts.pages)) h)) in
    let g = ground_same p (lasting e).root (lasting e).page (view_of e q) seen k.ground in
    record {
      lasts = lasts_means p b e (o.pages ∙ r.lasts.pages) r.lasts.big r.lasts.small k;
      book = k.book;
      intact = o.intact;
      sealed = o.queue;
      ground = subst (λ t. Grounded p t (view_of e q)) (sym root) g.ground;
      tree = ap (λ t. pairs_by t (view_of e q)) root ∙ g.pairs;
      none = ap (λ (x : Store). x.worked) o.store;
      plain = ap (λ (x : Store). x.imaged) o.store;
    }

-- it stands on
module _ (p : ℕ) (m : Medium) (part : List ℕ) (s : Store) (b : Pairs) (h : Raised p m part s b) where
  raised_on : (e : Medium) (q : List ℕ) (z : Store) → e.pages ≡ m.pages → e.shown ≡ m.shown → Intact e q z → next_of q ≡ next_of part → Grounded p z.root (view_of e q) →
      pairs_by z.root (view_of e q) ≡ pairs_by s.root (view_of m part) → z.worked ≡ s.worked → z.imaged ≡ s.imaged → Raised p e q z b
  raised_on e q z pages shown intact head ground pairs worked imaged =
      let st : lasting e ≡ lasting m = ap state_of shown in
      let k : Means p b (lasting e) = subst (λ x. Means p b x) (sym st) (means_lasts p b m h.lasts h.book) in
      record {
        lasts = lasts_means p b e (pages ∙ h.lasts.pages) h.lasts.big h.lasts.small k;
        book = k.book;
        intact = intact;
        sealed = ap (λ w. queue_by (head_of w) e.shown) head ∙ ap (queue_by (next part)) shown ∙ h.sealed ∙ ap (λ (x : State). x.queue) (sym st);
        ground = ground;
        tree = pairs ∙ h.tree ∙ ap (λ (x : State). pairs_by x.root x.page) (sym st);
        none = worked ∙ h.none;
        plain = imaged ∙ h.plain;
      }

  pub raised_loaded : (i : ℕ) (r : Range ℕ) (e : Medium) (q : List ℕ) → Loaded m part s i r e q → Raised p e q s b
  raised_loaded i r e q k =
      let v : view_of e q ≡ view_of m part = ap (λ f. shown_by (cache_of f) e.shown) k.frames ∙ ap (shown_by (cache part)) k.shown in
      raised_on e q s k.pages k.shown k.intact k.head (subst (λ f. Grounded p s.root f) (sym v) h.ground) (ap (pairs_by s.root) v) refl refl

  pub raised_asked : (t : Pairs) (n c : ℕ) (e : Medium) (q : List ℕ) (z : Store) → t ≡ pairs_in m part s → Leaves t n c m part s e q z → Raised p e q z b
  raised_asked t n c e q z is k =
      raised_on e q z k.pages k.shown k.paged.intact k.head (subst (λ o. Grounded o z.root (view_of e q)) (k.pages ∙ h.lasts.pages) k.paged.ground) (k.pairs ∙ is)
      (ap (λ (x : Store). x.worked) k.store) (ap (λ (x : Store). x.imaged) k.store)

  pub raised_paged : Paged m part s
  raised_paged = record { intact = h.intact; ground = subst (λ o. Grounded o s.root (view_of m part)) (sym h.lasts.pages) h.ground; small = omega (arith, h.lasts.pages, h.lasts.small) }

  pub raised_lost : (e : Medium) → Lost m e → Cut p b e
  raised_lost e l = lasts_lost p m b h.lasts h.book e l

-- a stretch of a list, where each item is known
stretch : {X : Type 0} (f : ℕ → X) (xs : List X) (d : X) (s n : ℕ) → n ≤ length xs → ((j : ℕ) → j < n → get_or xs j d ≡ f (s + j)) → take n xs ≡ map f (range_with_len s n)
stretch f xs d s n l each =
    ext_get_or d (take n xs) (map f (range_with_len s n)) (length-take-le n xs l ∙ sym (length-map-range_with_len f s n))
    (λ j h. let g : j < n = omega (arith, h, length-take-le n xs l) in get_or-take n xs j d g ∙ each j g ∙ sym (get_or-map-range_with_len f s n j (s + j) d g refl))

-- page i of the queue
module _ (n : ℕ) (h : Head) (s : ℕ → List ℕ) (ok : Sound n h) (i : ℕ) (r : Range ℕ) (w : List ℕ) (k : QueuePage h s i r w) (l : i ≤ h.full) where
  -- how many records stand on the pages before, and on it
  abbrev pub before : ℕ
  before = 128 * i - h.done

  abbrev pub count : ℕ
  count = r.end - r.start

  place : (j : ℕ) → 128 * i + (r.start + j) - h.done ≡ before + j
  place j = ⊎_elim
      (λ (e : i ≡ 0). omega (arith, ok.done, e, k.start ∙ ap (λ b. cond b h.done 0) (eq-eqb i 0 e)))
      (λ (ne : i ≡ 0 → ⊥). omega (arith, ok.done, ne, k.start ∙ ap (λ b. cond b h.done 0) (ne_eqb i 0 ne)))
      (cases_eq i 0)

  low : h.done ≤ 128 * i + r.start
  low = ⊎_elim
      (λ (e : i ≡ 0). omega (arith, e, k.start ∙ ap (λ b. cond b h.done 0) (eq-eqb i 0 e)))
      (λ (ne : i ≡ 0 → ⊥). omega (arith, ok.done, ne))
      (cases_eq i 0)

  ends : ((i < h.full) × (r.end ≡ 128)) ⊎ ((i ≡ h.full) × (r.end ≡ length h.own))
  ends = ⊎_elim
      (λ (e : i ≡ h.full). inr (e, k.end ∙ ap (λ b. cond b 128 (length h.own)) (le-ltb i h.full (omega (arith, e)))))
      (λ (ne : i ≡ h.full → ⊥). let g : i < h.full = omega (arith, ne, l) in inl (g, k.end ∙ ap (λ b. cond b 128 (length h.own)) (lt-ltb i h.full g)))
      (cases_eq i h.full)

  pub page_room : before + count ≤ length (queue_by h s)
  page_room = ⊎_elim
      (λ (e : (i < h.full) × (r.end ≡ 128)). omega (arith, e.0, e.1, place 0, low, ok.done, ok.less, k.within.0, length_queue h s))
      (λ (e : (i ≡ h.full) × (r.end ≡ length h.own)). omega (arith, e.0, e.1, place 0, low, ok.done, ok.less, k.within.0, length_queue h s))
      ends

  reach : take (128 * (i + 1) - h.done) (queue_by h s) ≡ take (before + count) (queue_by h s)
  reach = ⊎_elim
      (λ (e : (i < h.full) × (r.end ≡ 128)). ap (λ x. take x (queue_by h s)) (let z : 128 * (i + 1) - h.done ≡ (128 * i - h.done) + (r.end - r.start) = omega (arith, e.1, place 0, low, ok.done, k.within.0) in z))
      (λ (e : (i ≡ h.full) × (r.end ≡ length h.own)).
      take_all _ (queue_by h s) (omega (arith, e.0, ok.brim, ok.done, length_queue h s))
      ∙ sym (take_all _ (queue_by h s) (omega (arith, e.0, e.1, place 0, low, ok.done, ok.less, k.within.0, length_queue h s))))
      ends

  pub page_more : take (128 * (i + 1) - h.done) (queue_by h s) ≡ take (128 * i - h.done) (queue_by h s) ++ records_at w r
  page_more =
      let q = queue_by h s in
      reach ∙ take-add before count q
      ∙ ap (λ x. take before q ++ x) (stretch (record_at w) (drop before q) (Drop 0) r.start count (omega (arith, page_room, length-drop before q))
      (λ j g. get_or-drop before q j (Drop 0) ∙ ap (λ x. get_or q x (Drop 0)) (sym (place j)) ∙ k.each (r.start + j) (omega arith) (omega (arith, g, k.within.0)) (Drop 0)))
