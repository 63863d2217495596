-- The queue's records, where they stand.
use Rattle.std.proofs.Common.{◌≡◌, ℕ, zero, suc, ◌+◌, ◌-◌, ◌*◌, ◌<◌, ◌≤◌, ◌==◌, true, cond, nat_lt, List, [], ◌∷◌, ◌++◌, length, get_or, sym, refl, ap, subst, ◌∙◌, ⊎_elim, arith}
use Rattle.std.proofs.lemmas.Bool.{cases_eq, eq-eqb, ne_eqb, lt-ltb, le-ltb}
use Rattle.std.proofs.lemmas.List.{get_or-drop, get_or_append_left, get_or-append_right}
use Rattle.std.specs.declared.ops.Range.{Range}
use Rattle.store.specs.declared.head.Record.{Record}
use Rattle.store.specs.declared.Store.{Store}
use Rattle.store.specs.Medium.{Medium, Reads}
use Rattle.store.specs.Head.{Head, head_of, Sound, records_in, record_at, ring_page}
use Rattle.store.specs.State.{rows, queue_by}
use Rattle.store.specs.Store.{next_of, next, frames_of, scratch_of, Intact}
use Rattle.store.specs.Queue.{QueuePage, Loaded}
use Rattle.store.proofs.Words.{length_records_in}
use Rattle.store.proofs.Grows.{length_rows}
use Rattle.store.proofs.Views.{intact_part}

pub record_in : (n j : ℕ) (w : List ℕ) (d : Record) → j < n → get_or (records_in n w) j d ≡ record_at w j
unfolding records_in
record_in zero j w d l = absurd (omega arith)
record_in (suc n) j w d l = ⊎_elim
    (λ (e : j ≡ n). get_or-append_right (records_in n w) _ n j d (length_records_in n w) (omega arith) ∙ ap (λ k. get_or (record_at w n ∷ []) k d) (let z : j - n ≡ 0 = omega arith in z) ∙ ap (record_at w) (sym e))
    (λ (ne : j ≡ n → ⊥). get_or_append_left (records_in n w) _ d j (omega (arith, length_records_in n w)) ∙ record_in n j w d (omega arith))
    (cases_eq j n)

pub row_at : (k i j : ℕ) (f : ℕ → List ℕ) (d : Record) → i < k → j < 128 → get_or (rows k f) (128 * i + j) d ≡ record_at (f i) j
unfolding rows
row_at zero i j f d l b = absurd (omega arith)
row_at (suc k) i j f d l b = ⊎_elim
    (λ (e : i ≡ k). get_or-append_right (rows k f) _ (128 * k) (128 * i + j) d (length_rows k f) (omega arith) ∙ ap (λ n. get_or (records_in 128 (f k)) n d) (let z : 128 * i + j - 128 * k ≡ j = omega arith in z) ∙ record_in 128 j (f k) d b ∙ ap (λ n. record_at (f n) j) (sym e))
    (λ (ne : i ≡ k → ⊥). get_or_append_left (rows k f) _ d (128 * i + j) (omega (arith, length_rows k f)) ∙ row_at k i j f d (omega arith) b)
    (cases_eq i k)

-- page i of the queue, whose records stand at the places r
module _ (n : ℕ) (h : Head) (s : ℕ → List ℕ) (ok : Sound n h) (i : ℕ) (r : Range ℕ) (st : r.start ≡ cond (i == 0) h.done 0) (en : r.end ≡ cond (nat_lt i h.full) 128 (length h.own)) where
  abbrev all : List Record
  all = rows h.full (λ k. s (ring_page h k)) ++ h.own

  -- none of them is done
  low : (j : ℕ) → r.start ≤ j → h.done ≤ 128 * i + j
  low j l = ⊎_elim
      (λ (e : i ≡ 0). omega (arith, st ∙ ap (λ b. cond b h.done 0) (eq-eqb i 0 e)))
      (λ (ne : i ≡ 0 → ⊥). omega (arith, ok.done))
      (cases_eq i 0)

  -- and where they begin is on the page
  high : (r.start ≤ 128) × (i ≡ h.full → r.start ≤ length h.own)
  high = ⊎_elim
      (λ (e : i ≡ 0). let z : r.start ≡ h.done = st ∙ ap (λ b. cond b h.done 0) (eq-eqb i 0 e) in (omega (arith, z, ok.done), λ f. omega (arith, z, ok.less)))
      (λ (ne : i ≡ 0 → ⊥). let z : r.start ≡ 0 = st ∙ ap (λ b. cond b h.done 0) (ne_eqb i 0 ne) in (omega arith, λ f. omega arith))
      (cases_eq i 0)

  from : (j : ℕ) (d : Record) → r.start ≤ j → get_or (queue_by h s) (128 * i + j - h.done) d ≡ get_or all (128 * i + j) d
  from j d l = get_or-drop h.done all (128 * i + j - h.done) d ∙ ap (λ k. get_or all k d) (let z : h.done + (128 * i + j - h.done) ≡ 128 * i + j = omega (arith, low j l) in z)

  pub ring_paged : (w : List ℕ) → i < h.full → w ≡ s (ring_page h i) → QueuePage h s i r w
  ring_paged w l e =
      let z : r.end ≡ 128 = en ∙ ap (λ b. cond b 128 (length h.own)) (lt-ltb i h.full l) in
      record {
        start = st;
        end = en;
        within = (omega (arith, high.0), omega arith);
        each = λ j b c d. from j d b ∙ get_or_append_left (rows h.full (λ k. s (ring_page h k))) h.own d (128 * i + j) (omega (arith, length_rows h.full (λ k. s (ring_page h k)))) ∙ row_at h.full i j (λ k. s (ring_page h k)) d l (omega arith) ∙ ap (λ v. record_at v j) (sym e);
      }

  pub head_paged : (w : List ℕ) → i ≡ h.full → head_of w ≡ h → QueuePage h s i r w
  unfolding head_of
  head_paged w l e =
      let z : r.end ≡ length h.own = en ∙ ap (λ b. cond b 128 (length h.own)) (le-ltb i h.full (omega arith)) in
      let o : h.own ≡ records_in (get_or w 75 0) w = sym (ap (λ (g : Head). g.own) e) in
      record {
        start = st;
        end = en;
        within = (omega (arith, high.1 l), omega (arith, ok.brim));
        each = λ j b c d. from j d b ∙ get_or-append_right (rows h.full (λ k. s (ring_page h k))) h.own (128 * h.full) (128 * i + j) d (length_rows h.full (λ k. s (ring_page h k))) (omega arith) ∙ ap (λ k. get_or h.own k d) (let y : 128 * i + j - 128 * h.full ≡ j = omega arith in y)
            ∙ ap (λ q. get_or q j d) o ∙ record_in (get_or w 75 0) j w d (omega (arith, ap length o, length_records_in (get_or w 75 0) w));
      }

-- a page of the ring was read
pub loaded_ring : (m e : Medium) (part after : List ℕ) (s : Store) (i : ℕ) (r : Range ℕ) → r.start ≡ cond (i == 0) (next after).done 0 → r.end ≡ cond (nat_lt i (next after).full) 128 (length (next after).own) →
    i < (next part).full → Intact m part s → Reads m (ring_page (next part) i) (scratch_of after) true e → Intact e after s → next_of after ≡ next_of part → frames_of after ≡ frames_of part → Loaded m part s i r e after
loaded_ring m e part after s i r st en l o y n h f = record {
  page = ring_paged m.pages (next part) m.shown o.ready.follows.ok i r (subst (λ w. r.start ≡ cond (i == 0) (head_of w).done 0) h st) (subst (λ w. r.end ≡ cond (nat_lt i (head_of w).full) 128 (length (head_of w).own)) h en) (scratch_of after) l (y.got tt);
  pages = y.pages;
  shown = y.shown;
  intact = n;
  head = h;
  frames = f;
  left = y.left;
}

-- the next head was copied
pub loaded_head : (m : Medium) (part after : List ℕ) (s : Store) (i : ℕ) (r : Range ℕ) → r.start ≡ cond (i == 0) (next after).done 0 → r.end ≡ cond (nat_lt i (next after).full) 128 (length (next after).own) →
    i ≡ (next part).full → Intact m part s → scratch_of after ≡ next_of part → length after ≡ 62976 → next_of after ≡ next_of part → frames_of after ≡ frames_of part → Loaded m part s i r m after
loaded_head m part after s i r st en l o c z h f = record {
  page = head_paged m.pages (next part) m.shown o.ready.follows.ok i r (subst (λ w. r.start ≡ cond (i == 0) (head_of w).done 0) h st) (subst (λ w. r.end ≡ cond (nat_lt i (head_of w).full) 128 (length (head_of w).own)) h en) (scratch_of after) l (ap head_of c);
  pages = refl;
  shown = refl;
  intact = intact_part m part after s z f h o;
  head = h;
  frames = f;
  left = omega arith;
}
