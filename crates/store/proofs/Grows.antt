-- The next head gains records, and a page of the ring.
use Rattle.std.proofs.Common.{◌≡◌, ℕ, zero, suc, ◌+◌, ◌-◌, ◌*◌, ◌%◌, ◌<◌, ◌≤◌, Bool, true, false, not, T, ◌⊎◌, List, [], ◌∷◌, ◌++◌, length, drop, sym, refl, ap, ◌∙◌, subst, inl, inr, append_assoc, append-nil, add-one, arith, length-append, length-drop}
use mathlib.Core.List.{Memᴰ}
use lib.Seq.{drop-append-le}
use Rattle.store.specs.declared.head.Record.{Record}
use Rattle.store.specs.declared.Store.{Store}
use Rattle.frames.specs.Layout.{cache_of}
use Rattle.frames.specs.Frames.{Sound as Framed, Clean, page_in, pinned, batch_words}
use Rattle.store.specs.Medium.{Medium, Stays, Wrote}
use Rattle.store.specs.Head.{Head, head_of, Sound, records_in, slot_in, ring_page, joined, turned}
use Rattle.store.specs.State.{rows, queue_by, state_of, Same, Relies, Kept}
use Rattle.store.specs.Store.{next_of, next, frames_of, cache, Intact, Next, Ready, Imaged, Held, Lost, with_fresh, Roomy, Appended}
use Rattle.store.proofs.Words.{length_records_in, own_words}
use Rattle.store.proofs.Over.{at_here, at_other}
use Rattle.store.proofs.Media.{same_refl, agree, by_head, same_trans, rows_agree, cut_old, safe_like}

pub length_rows : (k : ℕ) (f : ℕ → List ℕ) → length (rows k f) ≡ 128 * k
unfolding rows
length_rows zero f = refl
length_rows (suc k) f = length-append (rows k f) (records_in 128 (f k)) ∙ omega (arith, length_rows k f, length_records_in 128 (f k))

pub rows_more : (k : ℕ) (f : ℕ → List ℕ) → rows (k + 1) f ≡ rows k f ++ records_in 128 (f k)
unfolding rows
rows_more k f = ap (λ n. rows n f) (add-one k)

-- how long the queue is by a head
pub length_queue : (h : Head) (s : ℕ → List ℕ) → length (queue_by h s) ≡ 128 * h.full + length h.own - h.done
length_queue h s = length-drop h.done _ ∙ ap (λ n. n - h.done) (length-append (rows h.full (λ i. s (ring_page h i))) h.own ∙ omega (arith, length_rows h.full (λ i. s (ring_page h i))))

-- the frames are as they were, and so are the data pages
pub intact_after : (m e : Medium) (part after : List ℕ) (s z : Store) → Intact m part s → Ready e (next after) z.fresh → e.pages ≡ m.pages → length after ≡ 62976 → frames_of after ≡ frames_of part →
    ((p : ℕ) → 393 ≤ p → e.shown p ≡ m.shown p) → (T z.imaged → Imaged e (next after).region (cache part).count z.lasted (batch_words (cache part))) → Intact e after z
intact_after m e part after s z i rd n l fr same im = record {
  long = l;
  ready = rd;
  table = subst Framed (sym fr) i.table;
  clean = subst (λ f. Clean (cache_of f) e.shown) (sym fr) (record { same = λ k b u c. i.clean.same k b u c ∙ sym (same (page_in (cache part) k) (i.plain k b u).0) });
  plain = subst (λ f. (k : ℕ) → k < 120 → 0 < page_in (cache_of f) k → (393 ≤ page_in (cache_of f) k) × (page_in (cache_of f) k < e.pages)) (sym fr) (λ k b u. ((i.plain k b u).0, subst (λ x. page_in (cache part) k < x) (sym n) (i.plain k b u).1));
  pins = subst (λ f. pinned (cache_of f) ≡ 0) (sym fr) i.pins;
  images = λ t. subst (λ f. Imaged e (next after).region (cache_of f).count z.lasted (batch_words (cache_of f))) (sym fr) (im t);
}

-- a record joins
pub queue_joined : (n : ℕ) (h : Head) (s : ℕ → List ℕ) (r : Record) → Sound n h → queue_by (joined r h) s ≡ queue_by h s ++ r ∷ []
queue_joined n h s r ok =
    let q = rows h.full (λ i. s (ring_page h i)) in
    let l : length (rows h.full (λ i. s (ring_page h i)) ++ h.own) ≡ 128 * h.full + length h.own = length-append q h.own ∙ omega (arith, length_rows h.full (λ i. s (ring_page h i))) in
    ap (drop h.done) (sym (append_assoc q h.own (r ∷ []))) ∙ drop-append-le h.done (q ++ h.own) (r ∷ []) (omega (arith, l, ok.less))

relies_joined : {n p : ℕ} (r : Record) (h : Head) → Relies n (joined r h) p → Relies n h p
relies_joined r h (Relies.image k l e) = Relies.image k l e
relies_joined r h (Relies.ring i l e) = Relies.ring i l e
relies_joined r h (Relies.plain l m t) = Relies.plain l m t

pub ready_joined : (m : Medium) (g : Head) (fresh : Bool) (r : Record) → Ready m g fresh → length g.own < 128 → Ready m (joined r g) fresh
ready_joined m g fresh r y b = let f = y.follows in record {
  kept = y.kept;
  follows = record {
    ok = record {
      few = f.ok.few;
      side = f.ok.side;
      far = f.ok.far;
      near = f.ok.near;
      turn = f.ok.turn;
      room = f.ok.room;
      brim = rw (length-append g.own (r ∷ [])) (omega arith);
      done = f.ok.done;
      less = rw (length-append g.own (r ∷ [])) (omega (arith, f.ok.less));
    };
    format = f.format;
    region = f.region;
    targets = f.targets;
    root = f.root;
    first = f.first;
    full = f.full;
    done = f.done;
  };
  last = λ z p q. y.last z p (relies_joined r g q);
}

-- the pages outside the ring are as they were
abbrev Outside : Medium → Medium → Type 0
Outside m e = (p : ℕ) → (p < 129) ⊎ (393 ≤ p) → (e.shown p ≡ m.shown p) × ((x : List ℕ) → Memᴰ x (e.may p) → Memᴰ x (m.may p))

-- the region that a head doesn't name lies below the ring
other_low : (region k : ℕ) → k < 64 → slot_in (1 - region) k < 129
other_low region k l = omega arith

images_held : (m e : Medium) → e.pages ≡ m.pages → Outside m e → (region n : ℕ) (lasted : Bool) (w : ℕ → List ℕ) → region ≤ 1 → Imaged m region n lasted w → Imaged e region n lasted w
images_held m e n o region k lasted w b i = record {
  few = i.few;
  there = λ j l. (o (slot_in (1 - region) j) (low j l)).0 ∙ i.there j l;
  last = λ t j l x q. i.last t j l x ((o (slot_in (1 - region) j) (low j l)).1 x q);
  plain = λ t p l q x r. i.plain t p l (subst (λ z. p < z) n q) x ((o p (inr l)).1 x r) ∙ sym (o p (inr l)).0;
}
  where
    low : (j : ℕ) → j < k → (slot_in (1 - region) j < 129) ⊎ (393 ≤ slot_in (1 - region) j)
    low j l = inl (other_low region j (omega (arith, i.few)))

-- a page of the ring behind the full ones isn't one of them
apart : (f u i : ℕ) → f < 264 → u < 264 → i < u → 129 + (f + u) % 264 ≡ 129 + (f + i) % 264 → ⊥
apart f u i a b c e = omega arith

-- page p, in the ring, was written with w, and no lasting head counts on it
module _ (m e : Medium) (h g : Head) (w : List ℕ) (ok : Bool) (k : Kept m) (hs : h ≡ head_of (m.shown 0)) (nx : Next m.pages h g)
    (wr : Wrote 1 m (ring_page g g.full) w ok e) (room : g.full < 263) where
  abbrev p : ℕ
  p = ring_page g g.full

  unmet : (q : ℕ) → Relies m.pages h q → q ≡ p → ⊥
  unmet q (Relies.image j l e') z = let s = k.safe.head in absurd (omega (arith, subst (λ x. length x.targets ≤ 64) (sym hs) s.few, subst (λ x. x.region ≤ 1) (sym hs) s.side))
  unmet q (Relies.ring i l e') z = apart g.first g.full i nx.ok.turn (omega arith) (omega (arith, nx.full)) (sym z ∙ e' ∙ ap (λ f. 129 + (f + i) % 264) (sym nx.first))
  unmet q (Relies.plain l n t) z = absurd (omega arith)

  out : (q : ℕ) → (q < 129) ⊎ (393 ≤ q) → q ≡ p → ⊥
  out q (inl l) z = absurd (omega arith)
  out q (inr l) z = absurd (omega arith)

  stay : (q : ℕ) → (q ≡ p → ⊥) → (b : List ℕ) → Stays m q b → Stays e q b
  stay q ne b s x i = s x (wr.other q ne x i)

  firm' : (q : ℕ) → Relies m.pages (head_of (m.shown 0)) q → (q ≡ p → ⊥) × Stays e q (m.shown q)
  firm' q r = let ne = unmet q (subst (λ x. Relies m.pages x q) (sym hs) r) in (ne, stay q ne _ (k.safe.firm q r))

  pub spill_cut : T (not ok) → Lost m e
  spill_cut z = cut_old m e k.safe (wr.on ∙ off ok z) wr.pages (stay 0 (λ z'. absurd (omega arith)) _ k.safe.first) (λ q r. (firm' q r).1)
    where
      off : (b : Bool) → T (not b) → b ≡ false
      off true t = absurd t
      off false t = refl

  module _ (t : T ok) where
    there : (q : ℕ) → (q ≡ p → ⊥) → e.shown q ≡ m.shown q
    there q ne = ap (λ s. s q) (wr.shown t) ∙ at_other p q w m.shown ne

    outside : Outside m e
    outside q l = (there q (out q l), λ x i. wr.other q (out q l) x i)

    means : Same m.pages (state_of e.shown) (state_of m.shown)
    means = same_trans (by_head e.shown (ap head_of (outside 0 (inl (omega arith))).0)) (agree m.pages (head_of (m.shown 0)) e.shown m.shown (λ q r. there q (firm' q r).0))

    pub spill_held : Held m e
    spill_held = record {
      pages = wr.pages;
      head = (outside 0 (inl (omega arith))).0;
      state = means;
      plain = λ q l. (outside q (inr l)).0;
      images = images_held m e wr.pages outside;
    }

    pub spill_kept : Kept e
    spill_kept = record {
      safe = safe_like m e k.safe wr.pages (outside 0 (inl (omega arith))).0 (stay 0 (λ z. absurd (omega arith)) _ k.safe.first) (λ q r. ((firm' q r).1, there q (firm' q r).0));
      put = λ q l b. let b' : q < m.pages = subst (λ n. q < n) wr.pages b in means.page q l b' ∙ k.put q l b' ∙ sym (outside q (inr l)).0;
    }

    -- the queue is the same by the head whose own records this page holds
    pub spill_queue : records_in 128 w ≡ g.own → queue_by (turned g) e.shown ≡ queue_by g m.shown
    spill_queue o = ap (drop g.done) (append-nil _ ∙ rows_more g.full (λ i. e.shown (ring_page g i))
        ∙ ap (λ r. r ++ records_in 128 (e.shown p)) (rows_agree g.full (λ i. e.shown (ring_page g i)) (λ i. m.shown (ring_page g i))
        (λ i l. there (ring_page g i) (λ z. apart g.first g.full i nx.ok.turn (omega arith) l (sym z))))
        ∙ ap (λ v. rows g.full (λ i. m.shown (ring_page g i)) ++ v) (ap (records_in 128) (ap (λ s. s p) (wr.shown t) ∙ at_here p w m.shown) ∙ o))

    pub spill_ready : records_in 128 w ≡ g.own → length g.own ≡ 128 → Ready e (turned g) true
    spill_ready o b = record {
      kept = spill_kept;
      follows = subst (λ z. Next e.pages z (turned g)) (hs ∙ sym (ap head_of (outside 0 (inl (omega arith))).0)) (subst (λ n. Next n h (turned g)) (sym wr.pages) (record {
        ok = record {
          few = nx.ok.few;
          side = nx.ok.side;
          far = nx.ok.far;
          near = nx.ok.near;
          turn = nx.ok.turn;
          room = omega arith;
          brim = omega arith;
          done = nx.ok.done;
          less = omega (arith, nx.ok.less);
        };
        format = nx.format;
        region = nx.region;
        targets = nx.targets;
        root = nx.root;
        first = nx.first;
        full = omega (arith, nx.full);
        done = nx.done;
      }));
      last = λ z. absurd z;
    }

-- the same, of the lent slice
pub spilled : (m e : Medium) (part after : List ℕ) (s : Store) (x : ℕ) → Ready m (next part) s.fresh → length (next part).own ≡ 128 → (next part).full < 263 →
    x ≡ ring_page (next part) (next part).full → Wrote 1 m x (next_of part) true e → next after ≡ turned (next part) → frames_of after ≡ frames_of part → Roomy m part s e after (with_fresh s true)
spilled m e part after s x y b room px wr t fr =
    let g = next part in
    let w : Wrote 1 m (ring_page (next part) (next part).full) (next_of part) true e = subst (λ z. Wrote 1 m z (next_of part) true e) px wr in
    let o = own_words (next_of part) b in
    record {
      held = spill_held m e _ g (next_of part) true y.kept refl y.follows w room tt;
      ready = subst (λ z. Ready e z true) (sym t) (spill_ready m e _ g (next_of part) true y.kept refl y.follows w room tt o b);
      queue = ap (λ z. queue_by z e.shown) t ∙ spill_queue m e _ g (next_of part) true y.kept refl y.follows w room tt o;
      room = rw (ap (λ (z : Head). length z.own) t) (omega arith);
      frames = fr;
      store = refl;
      left = omega (arith, wr.left tt, ap (λ (z : Head). z.full) t);
    }

pub spill_lost : (m e : Medium) (part : List ℕ) (fresh : Bool) (x : ℕ) → Ready m (next part) fresh → (next part).full < 263 →
    x ≡ ring_page (next part) (next part).full → Wrote 1 m x (next_of part) false e → Lost m e
spill_lost m e part fresh x y room px wr = spill_cut m e _ (next part) (next_of part) false y.kept refl y.follows (subst (λ z. Wrote 1 m z (next_of part) false e) px wr) room tt

pub held_refl : (m : Medium) → Held m m
held_refl m = record { pages = refl; head = refl; state = same_refl _; plain = λ p l. refl; images = λ _ _ _ _ _ i. i }

-- a queue of so few records leaves room in the ring
pub ring_room : (n : ℕ) (h : Head) (s : ℕ → List ℕ) → Sound n h → length (queue_by h s) < 32768 → length h.own ≡ 128 → h.full < 263
ring_room n h s ok l b = omega (arith, length_queue h s, ok.done)

pub appended : (m e : Medium) (part mid after : List ℕ) (s z : Store) (r : Record) → Intact m part s → Roomy m part s e mid z → next after ≡ joined r (next mid) → frames_of after ≡ frames_of mid →
    length after ≡ 62976 → Appended m part s (r ∷ []) e after z
appended m e part mid after s z r i y j fr l =
    let rd : Ready e (next after) z.fresh = subst (λ h. Ready e h z.fresh) (sym j) (ready_joined e (next mid) z.fresh r y.ready y.room) in
    let same : (next after).region ≡ (next part).region = rd.follows.region ∙ ap (λ w. (head_of w).region) y.held.head ∙ sym i.ready.follows.region in
    record {
      intact = intact_after m e part after s z i rd y.held.pages l (fr ∙ y.frames) y.held.plain
          (λ t. let u : T s.imaged = subst T (ap (λ (x : Store). x.imaged) y.store) t in
          subst (λ b. Imaged e (next after).region (cache part).count b (batch_words (cache part))) (sym (ap (λ (x : Store). x.lasted) y.store))
          (subst (λ g. Imaged e g (cache part).count s.lasted (batch_words (cache part))) (sym same) (y.held.images (next part).region _ _ _ i.ready.follows.ok.side (i.images u))));
      held = y.held;
      queue = ap (λ h. queue_by h e.shown) j ∙ queue_joined e.pages (next mid) e.shown r y.ready.follows.ok ∙ ap (λ q. q ++ r ∷ []) y.queue;
      frames = fr ∙ y.frames;
      store = y.store;
      left = omega (arith, y.left, ap (λ (h : Head). h.full) j);
    }

pub held_on : {m e f : Medium} → Held m e → Held e f → Held m f
held_on {m} {e} {f} a b = record {
  pages = b.pages ∙ a.pages;
  head = b.head ∙ a.head;
  state = same_trans (subst (λ n. Same n (state_of f.shown) (state_of e.shown)) a.pages b.state) a.state;
  plain = λ p l. b.plain p l ∙ a.plain p l;
  images = λ region n lasted w l i. b.images region n lasted w l (a.images region n lasted w l i);
}

-- records after others
pub appended_none : {m : Medium} {p : List ℕ} {s : Store} → Intact m p s → Appended m p s [] m p s
appended_none i = record { intact = i; held = held_refl _; queue = sym (append-nil _); frames = refl; store = refl; left = omega arith }

pub appended_on : {m e f : Medium} {p q r : List ℕ} {s z y : Store} {rs ts : List Record} → Appended m p s rs e q z → Appended e q z ts f r y → Appended m p s (rs ++ ts) f r y
appended_on {y} {rs} {ts} a b = record {
  intact = b.intact;
  held = held_on a.held b.held;
  queue = b.queue ∙ ap (λ l. l ++ ts) a.queue ∙ append_assoc _ rs ts;
  frames = b.frames ∙ a.frames;
  store = b.store ∙ ap (λ x. with_fresh x y.fresh) a.store;
  left = omega (arith, a.left, b.left);
}

-- and where the power goes after them
pub lost_after : {m e f : Medium} → Held m e → Lost e f → Lost m f
lost_after {m} {e} {f} a l = record {
  off = l.off;
  pages = l.pages ∙ a.pages;
  back = λ g b. let r = l.back g b in (r.0, same_trans (subst (λ n. Same n (state_of g.shown) (state_of e.shown)) a.pages r.1) a.state);
}
