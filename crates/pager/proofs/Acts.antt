-- What the store's acts are, as the tree sees them.
use Rattle.std.proofs.Common.{◌≡◌, ℕ, ◌+◌, ◌-◌, ◌<◌, ◌≤◌, ◌≢◌, Bool, true, false, not, T, cond, eqb, List, get_or, set, replicate, get_or-set_same, Result, Ok, Err, refl, sym, ap, ◌∙◌, subst, ⊎_elim, arith}
use Rattle.std.specs.Result.{is_ok, OnOk, IfOk, MatchResult}
use mathlib.Core.Path.{fun_ext}
use Rattle.std.proofs.lemmas.Bool.{cases_eq}
use Rattle.std.proofs.lemmas.List.{length-replicate}
use Rattle.frames.specs.Layout.{Cache}
use Rattle.frames.specs.Frames.{at, changed}
use Rattle.frames.proofs.Shown.{at_same, at_other}
use Rattle.store.specs.declared.Store.{Store}
use Rattle.store.specs.Medium.{Medium}
use Rattle.store.specs.State.{Cut, Same, state_of}
use Rattle.store.specs.Store.{Intact, Lost, Got, Gets, Staged, cache, next_of, with_free, with_used}
use Rattle.store.specs.Store as store
use Rattle.tree.specs.State.{PageState, Still, Wrote, Freed, Spends}
use Rattle.tree.specs.State as tree
use Rattle.pager.specs.Ground.{Frees, taken_by, room_by}
use Rattle.pager.specs.Volume.{view_of, dirty_in, spare_in, pages_of, with_frees, Came, Onto, came, went}
use Rattle.pager.proofs.Frees.{Handed, SameFree, Returned, frees_pop, frees_new, frees_write, frees_return}

pub came_of : {m : Medium} {p : List ℕ} {s : Store} {e : Medium} {q : List ℕ} {z : Store} → Onto m p s true e q z → Came m p s e q z
came_of (came c) = c

-- one act after others
came_on : {m : Medium} {p : List ℕ} {s : Store} {e : Medium} {q : List ℕ} {z : Store} {f : Medium} {r : List ℕ} {y : Store} → Came m p s e q z → Came e q z f r y → Came m p s f r y
came_on {y} a b = record {
  pages = b.pages ∙ a.pages;
  shown = b.shown ∙ a.shown;
  intact = b.intact;
  frees = b.frees;
  small = b.small;
  head = b.head ∙ a.head;
  store = b.store ∙ ap (λ x. with_frees x y.root.free y.root.used) a.store;
}

lost_on : {m : Medium} {p : List ℕ} {s : Store} {e : Medium} {q : List ℕ} {z : Store} {f : Medium} → Came m p s e q z → Lost e f → Lost m f
lost_on {m} {e} {f} a l =
    subst (λ n. Cut n (λ x. Same n x (state_of m.shown)) f) a.pages (subst (λ g. Cut e.pages (λ x. Same e.pages x (state_of g)) f) a.shown l)

pub onto_came : {m : Medium} {p : List ℕ} {s : Store} {e : Medium} {q : List ℕ} {z : Store} {f : Medium} {r : List ℕ} {y : Store} → Came e q z f r y → Onto m p s true e q z → Onto m p s true f r y
onto_came c o = came (came_on (came_of o) c)

onto_lost : {m : Medium} {p : List ℕ} {s : Store} {e : Medium} {q : List ℕ} {z : Store} {f : Medium} {r : List ℕ} {y : Store} → Lost e f → Onto m p s true e q z → Onto m p s false f r y
onto_lost l o = went (lost_on (came_of o) l)

-- the batch
dirty_same : (i : Bool) (c d : Cache) → changed d ≡ changed c → dirty_in i d ≡ dirty_in i c
dirty_same true c d e = refl
dirty_same false c d e = fun_ext (λ q. ap (λ b. cond b 1 0) (ap (λ f. f q) e))

spare_same : (i : Bool) (c d : Cache) → d.count ≡ c.count → spare_in i d ≡ spare_in i c
spare_same true c d e = refl
spare_same false c d e = ap (λ n. 64 - n) e

-- the first word of a page that is given back
pub first_word : (f : ℕ) → get_or (set (replicate 512 0) 0 f) 0 0 ≡ f
first_word f = get_or-set_same (replicate 512 0) 0 f 0 (omega (arith, length-replicate {A = ℕ} 512 0))

-- a page can only be changed while no images stand
pub can_change : (i : Bool) (c : Cache) (x : ℕ) → 1 ≤ spare_in i c + dirty_in i c x → T (not i)
can_change true c x l = absurd (omega arith)
can_change false c x l = tt

costs_by : (b : Bool) (n k : ℕ) → k ≤ n + cond b 0 1 → 64 - n ≤ (64 - k) + (1 - cond b 1 0)
costs_by true n k l = omega arith
costs_by false n k l = omega arith

up_to_one : (b : Bool) → cond b 1 0 ≤ 1
up_to_one true = omega arith
up_to_one false = omega arith

-- page x has joined it
module _ (c d : Cache) (x : ℕ) (ch : changed d ≡ at x true (changed c)) where
  here : changed d x ≡ true
  here = ap (λ f. f x) ch ∙ at_same x true (changed c) x refl

  marked_by : (i : Bool) → T (not i) → 1 ≤ dirty_in i d x
  marked_by true t = absurd t
  marked_by false t = subst (λ b. 1 ≤ cond b 1 0) (sym here) (omega arith)

  grows_by : (i : Bool) (q : ℕ) → dirty_in i c q ≤ dirty_in i d q
  grows_by true q = omega arith
  grows_by false q = ⊎_elim
      (λ (e : q ≡ x). subst (λ b. cond (changed c q) 1 0 ≤ cond b 1 0) (sym (ap (changed d) e ∙ here)) (up_to_one (changed c q)))
      (λ (ne : q ≢ x). subst (λ b. cond (changed c q) 1 0 ≤ cond b 1 0) (sym (ap (λ f. f q) ch ∙ at_other x true (changed c) q ne)) (omega arith))
      (cases_eq q x)

  costs : d.count ≤ c.count + cond (changed c x) 0 1 → (i : Bool) → T (not i) → spare_in i c ≤ spare_in i d + (1 - dirty_in i c x)
  costs l true t = absurd t
  costs l false t = costs_by (changed c x) c.count d.count l

module _ (m : Medium) (p : List ℕ) (s : Store) (i : Intact m p s) (f : Frees m.pages s.root (view_of m p)) (small : m.pages ≤ 4294967296) where
  -- a page was read
  module _ (x : ℕ) (b : List ℕ) (e : Medium) (q : List ℕ) where
    read_came : Got m p s x b e q → Came m p s e q s
    read_came g = record {
      pages = g.pages;
      shown = g.shown;
      intact = g.intact;
      frees = subst (λ v. Frees e.pages s.root v) (sym g.view) (subst (λ n. Frees n s.root (view_of m p)) (sym g.pages) f);
      small = subst (λ n. n ≤ 4294967296) (sym g.pages) small;
      head = g.head;
      store = refl;
    }

    read_still : Got m p s x b e q → Still 1 (pages_of m p s) (pages_of e q s)
    read_still g = record {
      page = g.view;
      taken = ap (taken_by s.root) g.view;
      room = ap (λ n. room_by n s.root (view_of e q)) g.pages ∙ ap (room_by m.pages s.root) g.view;
      left = g.left;
      dirty = dirty_same s.imaged (cache p) (cache q) g.changes;
      spare = spare_same s.imaged (cache p) (cache q) g.count;
    }

    pub read_got : {A E : Type 0} (r : Result A E) → Gets m p s x b (is_ok r) e q → OnOk r ((b ≡ view_of m p x) × Still 1 (pages_of m p s) (pages_of e q s))
    read_got (Ok a) g = (g.words, read_still g)
    read_got (Err a) g = tt

    pub read_passed : {n : Medium} {o : List ℕ} {t : Store} (ok : Bool) → Gets m p s x b ok e q → Onto n o t true m p s → Onto n o t ok e q s
    read_passed true g = onto_came (read_came g)
    read_passed false g = onto_lost g

  -- a page was written
  module _ (x : ℕ) (b : List ℕ) (q : List ℕ) (can : T (not s.imaged)) (g : Staged m p s x b q) where
    spent : (e : PageState) → e.dirty ≡ dirty_in s.imaged (cache q) → e.spare ≡ spare_in s.imaged (cache q) → Spends (1 - (pages_of m p s).dirty x) (pages_of m p s) e
    spent e d r = record {
      dirty = subst (λ h. (y : ℕ) → dirty_in s.imaged (cache p) y ≤ h y) (sym d) (grows_by (cache p) (cache q) x g.changes s.imaged);
      spare = subst (λ h. spare_in s.imaged (cache p) ≤ h + (1 - dirty_in s.imaged (cache p) x)) (sym r) (costs (cache p) (cache q) x g.changes g.count s.imaged can);
    }

    there : view_of m q x ≡ b
    there = ap (λ h. h x) g.view ∙ at_same x b (view_of m p) x refl

    elsewhere : (y : ℕ) → y ≢ x → view_of m q y ≡ view_of m p y
    elsewhere y ne = ap (λ h. h y) g.view ∙ at_other x b (view_of m p) y ne

    module _ (l : 1 ≤ taken_by s.root (view_of m p) x) where
      kept : SameFree m.pages s.root (view_of m p) (view_of m q)
      kept = frees_write m.pages s.root (view_of m p) (view_of m q) x l elsewhere f

      pub written_came : Came m p s m q s
      written_came = record { pages = refl; shown = refl; intact = g.intact; frees = kept.frees; small = small; head = g.head; store = refl }

      pub written : Wrote x b (pages_of m p s) (pages_of m q s)
      written = record {
        here = there;
        others = elsewhere;
        taken = kept.taken;
        room = kept.room;
        left = refl;
        marked = marked_by (cache p) (cache q) x g.changes s.imaged can;
        spends = spent (pages_of m q s) refl refl;
      }

      -- and is free now
      module _ (link : get_or b 0 0 ≡ s.root.free) (z : Store) (is : z ≡ with_free s x) where
        back : Returned m.pages s.root z.root (view_of m p) (view_of m q) x
        back = subst (λ (y : Store). Returned m.pages s.root y.root (view_of m p) (view_of m q) x) (sym is) (frees_return m.pages s.root (view_of m p) (view_of m q) x l elsewhere (ap (λ w. get_or w 0 0) there ∙ link) f)

        pub freed_came : Intact m q z → Came m p s m q z
        freed_came k = record {
          pages = refl;
          shown = refl;
          intact = k;
          frees = back.frees;
          small = small;
          head = g.head;
          store = subst (λ (y : Store). y ≡ with_frees s y.root.free y.root.used) (sym is) refl;
        }

        pub freed : Freed x (pages_of m p s) (pages_of m q z)
        freed = record {
          others = elsewhere;
          taken = back.taken;
          room = back.room;
          left = refl;
          marked = subst (λ (y : Store). 1 ≤ dirty_in y.imaged (cache q) x) (sym is) (marked_by (cache p) (cache q) x g.changes s.imaged can);
          spends = subst (λ (y : Store). Spends (1 - (pages_of m p s).dirty x) (pages_of m p s) (pages_of m q y)) (sym is) (spent (pages_of m q (with_free s x)) refl refl);
        }

  -- a page was handed out
  module _ (x : ℕ) (e : Medium) (q : List ℕ) (z : Store) (g : store.Given m p s x e q z) (some : 0 < room_by m.pages s.root (view_of m p)) where
    record Gave : Type 0 where
      pub handed : Handed m.pages s.root z.root (view_of m p) x
      pub imaged : z.imaged ≡ s.imaged
      pub store : z ≡ with_frees s z.root.free z.root.used

    gave : Gave
    gave = ⊎_elim
        (λ (n : s.root.free ≡ 0). by_store (with_used s (s.root.used + 1)) (g.new n).1 refl refl (subst (λ y. Handed m.pages s.root (with_used s (s.root.used + 1)).root (view_of m p) y) (sym (g.new n).0) (frees_new m.pages s.root (view_of m p) f n some)))
        (λ (n : s.root.free ≢ 0). by_store _ (g.old n).1 refl refl (subst (λ y. Handed m.pages s.root (with_free s (get_or (view_of m p s.root.free) 0 0)).root (view_of m p) y) (sym (g.old n).0) (frees_pop m.pages s.root (view_of m p) f n)))
        (cases_eq s.root.free 0)
      where
        by_store : (y : Store) → z ≡ y → y.imaged ≡ s.imaged → y ≡ with_frees s y.root.free y.root.used → Handed m.pages s.root y.root (view_of m p) x → Gave
        by_store y e i t h = record {
          handed = subst (λ (u : Store). Handed m.pages s.root u.root (view_of m p) x) (sym e) h;
          imaged = ap (λ (u : Store). u.imaged) e ∙ i;
          store = subst (λ (u : Store). u ≡ with_frees s u.root.free u.root.used) (sym e) t;
        }

    given_came : Came m p s e q z
    given_came = record {
      pages = g.pages;
      shown = g.shown;
      intact = g.intact;
      frees = subst (λ v. Frees e.pages z.root v) (sym g.view) (subst (λ n. Frees n z.root (view_of m p)) (sym g.pages) gave.handed.frees);
      small = subst (λ n. n ≤ 4294967296) (sym g.pages) small;
      head = g.head;
      store = gave.store;
    }

    given : tree.Given x (pages_of m p s) (pages_of e q z)
    given = record {
      was = gave.handed.was;
      page = g.view;
      taken = subst (λ v. (y : ℕ) → taken_by z.root v y ≡ taken_by s.root (view_of m p) y + cond (eqb y x) 1 0) (sym g.view) gave.handed.taken;
      room = gave.handed.room ∙ ap (λ n. n + 1) (sym (ap (λ n. room_by n z.root (view_of e q)) g.pages ∙ ap (room_by m.pages z.root) g.view));
      left = g.left;
      dirty = ap (λ j. dirty_in j (cache q)) gave.imaged ∙ dirty_same s.imaged (cache p) (cache q) g.changes;
      spare = ap (λ j. spare_in j (cache q)) gave.imaged ∙ spare_same s.imaged (cache p) (cache q) g.count;
    }

  -- what came of the call
  module _ (e : Medium) (q : List ℕ) (z : Store) (some : 0 < room_by m.pages s.root (view_of m p)) where
    pub alloc_got : {E : Type 0} (r : Result ℕ E) → MatchResult r (λ x. store.Given m p s x e q z) (λ _. Lost m e) → IfOk r (λ x. tree.Given x (pages_of m p s) (pages_of e q z))
    alloc_got (Ok x) g = given x e q z g some
    alloc_got (Err a) g = tt

    pub alloc_passed : {E : Type 0} {n : Medium} {o : List ℕ} {t : Store} (r : Result ℕ E) → MatchResult r (λ x. store.Given m p s x e q z) (λ _. Lost m e) → Onto n o t true m p s → Onto n o t (is_ok r) e q z
    alloc_passed (Ok x) g = onto_came (given_came x e q z g some)
    alloc_passed (Err a) g = onto_lost g
