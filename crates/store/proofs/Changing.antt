-- What becomes of the set of changed pages, and of the batch's length.
use Rattle.std.proofs.Common.{◌≡◌, ℕ, ◌+◌, ◌*◌, ◌<◌, ◌≤◌, true, cond, List, length, Some, None, ap, sym, ◌∙◌, subst, ⊎_elim, arith, length-set}
use Rattle.std.proofs.lemmas.Bool.{cases_eq, ne_eqb}
use Rattle.frames.specs.Layout.{Cache, placed}
use Rattle.frames.specs.Frames.{Table, Idle, at, mark_in, slot_of, changed, fill, enter}
use Rattle.frames.proofs.Slots.{Rows}
use Rattle.frames.proofs.Tables.{filled_table}
use Rattle.frames.proofs.Shown.{slot_filled}
use Rattle.frames.proofs.Changed.{changed_no, changed_none, filled_changed, entered_changed}
use Rattle.pages.proofs.Mid.{length_put_mid}
use Rattle.store.proofs.Views.{entered_like}

-- a page with words of its own comes into an idle frame, which joins the batch
module _ (c : Cache) (t : Table c) (r : Rows c) (i p : ℕ) (w : List ℕ) (low : i < 120) (long : length w ≡ 512) (pos : 0 < p) (idle : Idle c i) (new : slot_of c p ≡ None) where
  filled_rows : Rows (fill c i p w)
  unfolding placed
  filled_rows = record {
    frames = length_put_mid (512 * i) 512 c.frames w (omega (arith, r.frames)) long ∙ r.frames;
    pages = length-set c.pages i p ∙ r.pages;
    marks = r.marks;
    pins = r.pins;
    entries = r.entries;
  }

  pub staged_changed : changed (enter (fill c i p w) i) ≡ at p true (changed c)
  staged_changed =
      entered_changed (fill c i p w) (filled_table c t r i low p w pos idle new) filled_rows i p low (slot_filled c t r i p w low pos new)
      ∙ ap (λ (f : ℕ → _). at p true f) (filled_changed c t r i p low w pos idle new)

-- it takes a place of the batch
pub staged_count : (c d : Cache) (p : ℕ) → slot_of c p ≡ None → d.count ≤ c.count + 1 → d.count ≤ c.count + cond (changed c p) 0 1
staged_count c d p e l = subst (λ b. d.count ≤ c.count + cond b 0 1) (sym (changed_none c p e)) l

-- and a page that stands in a frame takes one unless its frame has one
pub entered_count : (c : Cache) (i p : ℕ) → slot_of c p ≡ Some i → (enter c i).count ≤ c.count + cond (changed c p) 0 1
entered_count c i p e = ⊎_elim
    (λ (z : mark_in c i ≡ 0). subst (λ b. (enter c i).count ≤ c.count + cond b 0 1) (sym (changed_no c p i e z)) (entered_like c i).2)
    (λ (nz : mark_in c i ≡ 0 → ⊥). rw (ne_eqb (mark_in c i) 0 nz) (omega arith))
    (cases_eq (mark_in c i) 0)
