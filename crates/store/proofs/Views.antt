-- Reading leaves the store as it is.
use Rattle.std.proofs.Common.{◌≡◌, ℕ, ◌+◌, ◌<◌, ◌≤◌, Bool, true, false, not, T, List, length, get_or, set, Some, None, sym, refl, ap, ◌∙◌, subst, ⊎_elim, arith, get_or-set_other, get_or-set_same}
use Rattle.std.proofs.lemmas.Bool.{cases_eq, eq-eqb, ne_eqb}
use Rattle.frames.specs.Layout.{Cache, cache_of}
use Rattle.frames.specs.Frames.{Sound as Framed, Clean, Idle, page_in, mark_in, entry_in, pinned, batch_words, shown_by, slot_of, fill, enter}
use Rattle.frames.specs.Layout.{frame_in}
use Rattle.frames.proofs.Slots.{rows, frame_other}
use Rattle.frames.proofs.Shown.{shown_frame, shown_disk}
use Rattle.store.specs.declared.Store.{Store}
use Rattle.store.specs.declared.head.Root.{Root}
use Rattle.store.specs.Medium.{Medium, Reads}
use Rattle.store.specs.Head.{head_of}
use Rattle.store.specs.Store.{next_of, next, frames_of, cache, Ready, Imaged, Intact, Looked, Got, Given, with_free, with_used}

-- a disk that differs only in whether it's on, and how often it may be asked
module _ (m : Medium) (on' : Bool) (left' : ℕ) where
  abbrev m' : Medium
  m' = record { pages = m.pages; shown = m.shown; may = m.may; on = on'; left = left' }

  pub intact_on : (part : List ℕ) (s : Store) → Intact m part s → Intact (record { pages = m.pages; shown = m.shown; may = m.may; on = on'; left = left' }) part s
  intact_on part s i = let k = i.ready.kept in record {
    long = i.long;
    ready = record {
      kept = record { safe = record { big = k.safe.big; head = k.safe.head; first = k.safe.first; firm = k.safe.firm }; put = k.put };
      follows = i.ready.follows;
      last = i.ready.last;
    };
    table = i.table;
    clean = i.clean;
    plain = i.plain;
    pins = i.pins;
    images = λ t. let j = i.images t in record { few = j.few; there = j.there; last = j.last; plain = j.plain };
  }

pub intact_read : (m e : Medium) (part : List ℕ) (s : Store) (p : ℕ) (b : List ℕ) (ok : Bool) → Reads m p b ok e → Intact m part s → Intact e part s
intact_read m e part s p b ok r i =
    subst (λ n. Intact (record { pages = n; shown = e.shown; may = e.may; on = e.on; left = e.left }) part s) (sym r.pages)
    (subst (λ f. Intact (record { pages = m.pages; shown = f; may = e.may; on = e.on; left = e.left }) part s) (sym r.shown)
    (subst (λ f. Intact (record { pages = m.pages; shown = m.shown; may = f; on = e.on; left = e.left }) part s) (sym r.may) (intact_on m e.on e.left part s i)))

-- the frames and the next head are as they were
pub intact_part : (m : Medium) (part after : List ℕ) (s : Store) → length after ≡ 62976 → frames_of after ≡ frames_of part → next_of after ≡ next_of part → Intact m part s → Intact m after s
intact_part m part after s l f n i = record {
  long = l;
  ready = subst (λ w. Ready m (head_of w) s.fresh) (sym n) i.ready;
  table = subst Framed (sym f) i.table;
  clean = subst (λ w. Clean (cache_of w) m.shown) (sym f) i.clean;
  plain = subst (λ w. (k : ℕ) → k < 120 → 0 < page_in (cache_of w) k → (393 ≤ page_in (cache_of w) k) × (page_in (cache_of w) k < m.pages)) (sym f) i.plain;
  pins = subst (λ w. pinned (cache_of w) ≡ 0) (sym f) i.pins;
  images = λ t. subst (λ w. Imaged m (head_of w).region (cache after).count s.lasted (batch_words (cache after))) (sym n) (subst (λ w. Imaged m (next part).region (cache_of w).count s.lasted (batch_words (cache_of w))) (sym f) (i.images t));
}

-- a page was brought into an idle frame
pub intact_filled : (m : Medium) (part after : List ℕ) (s : Store) (k p : ℕ) (w : List ℕ) → Intact m part s → length after ≡ 62976 → next_of after ≡ next_of part → Framed (frames_of after) → cache after ≡ fill (cache part) k p w →
    Clean (cache after) m.shown → Idle (cache part) k → k < 120 → length w ≡ 512 → 393 ≤ p → p < m.pages → Intact m after s
intact_filled m part after s k p w i l n t ca cl idle low lw far near = record {
  long = l;
  ready = subst (λ v. Ready m (head_of v) s.fresh) (sym n) i.ready;
  table = t;
  clean = cl;
  plain = subst (λ c. (j : ℕ) → j < 120 → 0 < page_in c j → (393 ≤ page_in c j) × (page_in c j < m.pages)) (sym ca) (λ j b u. ⊎_elim
      (λ (e : j ≡ k). let q : page_in (fill (cache part) k p w) j ≡ p = ap (λ x. get_or (set (cache part).pages k p) x 0) e ∙ get_or-set_same (cache part).pages k p 0 (omega (arith, (rows (frames_of part) i.table.sized).pages)) in (omega (arith, q), omega (arith, q)))
      (λ (ne : j ≡ k → ⊥). let q = get_or-set_other (cache part).pages k j p 0 ne in let o = i.plain j b (subst (λ x. 0 < x) q u) in (subst (λ x. 393 ≤ x) (sym q) o.0, subst (λ x. x < m.pages) (sym q) o.1))
      (cases_eq j k));
  pins = ap pinned ca ∙ i.pins;
  images = λ y. subst (λ v. Imaged m (head_of v).region (cache after).count s.lasted (batch_words (cache after))) (sym n) (subst (λ c. Imaged m (next part).region c.count s.lasted (batch_words c)) (sym ca) (shots (i.images y)));
}
  where
    same : (j : ℕ) → j < (cache part).count → batch_words (fill (cache part) k p w) j ≡ batch_words (cache part) j
    same j b = let a = i.table.table.entered j b in
        frame_other (cache part).frames k w (rows (frames_of part) i.table.sized).frames low lw (entry_in (cache part) j) (λ e. absurd (omega (arith, a.1, idle.0, ap (mark_in (cache part)) e)))

    shots : Imaged m (next part).region (cache part).count s.lasted (batch_words (cache part)) → Imaged m (next part).region (cache part).count s.lasted (batch_words (fill (cache part) k p w))
    shots j = record { few = j.few; there = λ x b. j.there x b ∙ sym (same x b); last = λ o x b y q. j.last o x b y q ∙ sym (same x b); plain = j.plain }

pub looked_same : (m : Medium) (part : List ℕ) (s : Store) → Intact m part s → Looked m part s part
looked_same m part s i = record { intact = i; head = refl; view = refl; changes = refl; count = refl }

-- from a frame
pub got_frame : (m : Medium) (part : List ℕ) (s : Store) (x k : ℕ) (b : List ℕ) → Intact m part s → slot_of (cache part) x ≡ Some k → b ≡ frame_in (cache part).frames k → Got m part s x b m part
got_frame m part s x k b i e w = record
    { words = w ∙ sym (shown_frame (cache part) m.shown x k e); pages = refl; shown = refl; intact = i; head = refl; view = refl; changes = refl; count = refl; left = omega arith }

-- from the disk
pub got_disk : (m e : Medium) (part after : List ℕ) (s : Store) (x : ℕ) (b : List ℕ) → slot_of (cache part) x ≡ None → Reads m x b true e → Looked e part s after → Got m part s x b e after
got_disk m e part after s x b n r l = record {
  words = r.got tt ∙ sym (shown_disk (cache part) m.shown x n);
  pages = r.pages;
  shown = r.shown;
  intact = l.intact;
  head = l.head;
  view = l.view ∙ ap (λ f. shown_by (cache part) f) r.shown;
  changes = l.changes;
  count = l.count;
  left = r.left;
}

-- to enter a frame in the batch leaves the pages and the pins as they are
pub entered_like : (c : Cache) (i : ℕ) → ((enter c i).pages ≡ c.pages) × ((enter c i).pins ≡ c.pins) × ((enter c i).count ≤ c.count + 1)
entered_like c i = ⊎_elim
    (λ (z : mark_in c i ≡ 0). rw (eq-eqb (mark_in c i) 0 z) (refl, refl, omega arith))
    (λ (nz : mark_in c i ≡ 0 → ⊥). rw (ne_eqb (mark_in c i) 0 nz) (refl, refl, omega arith))
    (cases_eq (mark_in c i) 0)

-- frames were changed, and no images stand
pub intact_changed : (m : Medium) (part after : List ℕ) (s : Store) → Intact m part s → T (not s.imaged) → length after ≡ 62976 → next_of after ≡ next_of part → Framed (frames_of after) → Clean (cache after) m.shown →
    ((j : ℕ) → j < 120 → 0 < page_in (cache after) j → (393 ≤ page_in (cache after) j) × (page_in (cache after) j < m.pages)) → pinned (cache after) ≡ 0 → Intact m after s
intact_changed m part after s i no' l n t cl pl pi = record
    { long = l; ready = subst (λ v. Ready m (head_of v) s.fresh) (sym n) i.ready; table = t; clean = cl; plain = pl; pins = pi; images = λ y. absurd (both s.imaged y no') }
  where
    both : (b : Bool) → T b → T (not b) → ⊥
    both true y z = z
    both false y z = y

-- the pages of the frames with page p in frame k
pub plain_set : (m : Medium) (ps : List ℕ) (k p : ℕ) → length ps ≡ 120 → k < 120 → 393 ≤ p → p < m.pages → ((j : ℕ) → j < 120 → 0 < get_or ps j 0 → (393 ≤ get_or ps j 0) × (get_or ps j 0 < m.pages)) →
    (j : ℕ) → j < 120 → 0 < get_or (set ps k p) j 0 → (393 ≤ get_or (set ps k p) j 0) × (get_or (set ps k p) j 0 < m.pages)
plain_set m ps k p l low far near old j b u = ⊎_elim
    (λ (e : j ≡ k). let q : get_or (set ps k p) j 0 ≡ p = ap (λ x. get_or (set ps k p) x 0) e ∙ get_or-set_same ps k p 0 (omega arith) in (omega (arith, q), omega (arith, q)))
    (λ (ne : j ≡ k → ⊥). let q = get_or-set_other ps k j p 0 ne in let o = old j b (subst (λ x. 0 < x) q u) in (subst (λ x. 393 ≤ x) (sym q) o.0, subst (λ x. x < m.pages) (sym q) o.1))
    (cases_eq j k)

-- the root and what is worked in don't matter to it
pub intact_root : (m : Medium) (part : List ℕ) (s : Store) (r : Root) → Intact m part s → Intact m part (record { fresh = s.fresh; imaged = s.imaged; lasted = s.lasted; root = r; worked = s.worked })
intact_root m part s r i = record { long = i.long; ready = i.ready; table = i.table; clean = i.clean; plain = i.plain; pins = i.pins; images = i.images }

pub given_new : (m : Medium) (part : List ℕ) (s : Store) → Intact m part s → s.root.free ≡ 0 → Given m part s (393 + s.root.used) m part (with_used s (s.root.used + 1))
given_new m part s i z = record
    { pages = refl; shown = refl; intact = intact_root m part s _ i; head = refl; view = refl; changes = refl; count = refl; new = λ _. (refl, refl); old = λ no'. absurd (no' z); left = omega arith }

pub given_old : (m e : Medium) (part after : List ℕ) (s : Store) (b : List ℕ) (f : ℕ) → (s.root.free ≡ 0 → ⊥) → Got m part s s.root.free b e after → f ≡ get_or b 0 0 → Given m part s s.root.free e after (with_free s f)
given_old m e part after s b f nz y ef = record {
  pages = y.pages;
  shown = y.shown;
  intact = intact_root e after s _ y.intact;
  head = y.head;
  view = y.view;
  changes = y.changes;
  count = y.count;
  new = λ z. absurd (nz z);
  old = λ _. (refl, ap (with_free s) (ef ∙ ap (λ w. get_or w 0 0) y.words));
  left = y.left;
}
