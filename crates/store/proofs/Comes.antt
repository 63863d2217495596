-- The store comes up.
use Rattle.std.proofs.Common.{◌≡◌, ℕ, ◌<◌, ◌≤◌, Bool, true, false, not, T, List, length, sym, refl, ap, ◌∙◌, subst, arith}
use mathlib.Core.List.{Memᴰ}
use Rattle.std.proofs.lemmas.List.{get_or-replicate}
use Rattle.frames.specs.Layout.{Cache, cleared}
use Rattle.frames.specs.Frames.{Sound as Framed, Clean, page_in, pinned, shown_by}
use Rattle.store.specs.declared.Store.{Store}
use Rattle.store.specs.Medium.{Medium, Reads, WroteAll}
use Rattle.store.specs.Head.{Head, head_of, Sound, slot, target, stamped}
use Rattle.store.specs.State.{State, queue_by, state_of, Same, Relies, Safe, Kept, Rested}
use Rattle.store.specs.Store.{next_of, next, frames_of, cache, Next, Ready, Intact, Lost, Opened}
use Rattle.store.proofs.Media.{cut_old, rested_safe}
use Rattle.store.proofs.Installs.{installs_cut, installs_low, installs_state, installs_kept}

-- a read leaves a disk at rest as it is
pub rested_read : (m a : Medium) (p : ℕ) (b : List ℕ) (ok : Bool) → Reads m p b ok a → Rested m → Rested a
rested_read m a p b ok y r = record {
  big = rw y.pages r.big;
  head = subst (λ n. Sound n (head_of (a.shown 0))) (sym y.pages) (subst (λ s. Sound m.pages (head_of (s 0))) (sym y.shown) r.head);
  all = λ q n x i. subst (λ s. x ≡ s q) (sym y.shown) (r.all q (subst (λ z. q < z) y.pages n) x (subst (λ z. Memᴰ x (z q)) y.may i));
}

pub read_lost : (m a : Medium) (p : ℕ) (b : List ℕ) → Safe m → Reads m p b false a → Lost m a
read_lost m a p b s y = cut_old m a s y.on y.pages (λ x i. s.first x (subst (λ z. Memᴰ x (z 0)) y.may i)) (λ q r x i. s.firm q r x (subst (λ z. Memᴰ x (z q)) y.may i))

-- the head was read, and the row of its batch is written again
module _ (m a e : Medium) (part : List ℕ) (ok : Bool) (r : Rested m) (y : Reads m 0 (next_of part) true a)
    (wr : WroteAll 128 (length (next part).targets) (target (next part)) (λ j. a.shown (slot (next part) j)) a ok e) where
  first : next_of part ≡ a.shown 0
  first = y.got tt ∙ sym (ap (λ s. s 0) y.shown)

  safe : Safe a
  safe = rested_safe (rested_read m a 0 (next_of part) true y r)

  row : WroteAll 128 (length (head_of (a.shown 0)).targets) (target (head_of (a.shown 0))) (λ j. a.shown (slot (head_of (a.shown 0)) j)) a ok e
  row = subst (λ w. WroteAll 128 (length (head_of w).targets) (target (head_of w)) (λ j. a.shown (slot (head_of w) j)) a ok e) first wr

  to : (x : State) → Same a.pages x (state_of a.shown) → Same m.pages x (state_of m.shown)
  to x s = subst (λ f. Same m.pages x (state_of f)) y.shown (subst (λ n. Same n x (state_of a.shown)) y.pages s)

  pub redo_lost : T (not ok) → Lost m e
  redo_lost no' = let c = installs_cut a e 128 ok safe row no' in record { off = c.off; pages = c.pages ∙ y.pages; back = λ f b. let z = c.back f b in (z.0, to _ z.1) }

  module _ (yes' : T ok) (after : List ℕ) (fs : List ℕ) (long : length after ≡ 62976) (nx : next after ≡ stamped (next part)) (table : Framed (frames_of after)) (ca : cache after ≡ cleared fs)
      (shown : (s : ℕ → List ℕ) → shown_by (cache after) s ≡ s) (clean : (s : ℕ → List ℕ) → Clean (cache after) s) (pins : pinned (cache after) ≡ 0) where
    kept : Kept e
    kept = installs_kept a e 128 ok safe row yes'

    same : head_of (e.shown 0) ≡ next part
    same = ap head_of (installs_low a e 128 ok safe row yes' 0 (omega arith) ∙ sym first)

    relies : (p : ℕ) → Relies e.pages (next after) p → Relies e.pages (head_of (e.shown 0)) p
    relies p q = stamp_back (subst (λ h. Relies e.pages h p) (nx ∙ ap stamped (sym same)) q)
      where
        stamp_back : {n x : ℕ} {h : Head} → Relies n (stamped h) x → Relies n h x
        stamp_back (Relies.image k l z) = Relies.image k l z
        stamp_back (Relies.ring k l z) = Relies.ring k l z
        stamp_back (Relies.plain l b z) = Relies.plain l b z

    ready : Ready e (next after) false
    ready = record {
      kept = kept;
      follows = subst (Next e.pages (head_of (e.shown 0))) (sym (nx ∙ ap stamped (sym same))) (let k = kept.safe.head in record {
        ok = record { few = k.few; side = k.side; far = k.far; near = k.near; turn = k.turn; room = k.room; brim = k.brim; done = k.done; less = k.less };
        format = refl;
        region = refl;
        targets = refl;
        root = refl;
        first = refl;
        full = omega arith;
        done = refl;
      });
      last = λ _ p q. kept.safe.firm p (relies p q);
    }

    pub opened : (z : Store) → z ≡ record { fresh = false; imaged = false; lasted = false; root = (next after).root; worked = 0 } → Opened m e after z
    opened z ez = record {
      intact = subst (Intact e after) (sym ez) (record {
        long = long;
        ready = ready;
        table = table;
        clean = clean e.shown;
        plain = subst (λ c. (i : ℕ) → i < 120 → 0 < page_in c i → (393 ≤ page_in c i) × (page_in c i < e.pages)) (sym ca) (λ i l u. absurd (omega (arith, get_or-replicate {A = ℕ} 120 i 0 0 l)));
        pins = pins;
        images = λ t. absurd t;
      });
      pages = wr.pages ∙ y.pages;
      state = to _ (installs_state a e 128 ok safe row yes');
      queue = ap (λ h. queue_by h e.shown) (nx ∙ ap stamped (sym same));
      view = shown e.shown;
      empty = ap (λ (c : Cache). c.count) ca;
      store = ez ∙ ap (λ o. record { fresh = false; imaged = false; lasted = false; root = o; worked = 0 }) (ap (λ (h : Head). h.root) nx ∙ ap (λ w. (head_of w).root) (y.got tt));
      left = omega (arith, wr.left yes', y.left);
    }
