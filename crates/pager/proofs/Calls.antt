-- What a call of the tree's leaves on the store.
use Rattle.std.proofs.Common.{◌≡◌, ℕ, ◌+◌, ◌-◌, ◌*◌, ◌≤◌, Bool, true, false, not, T, cond, List, length, Result, Ok, Err, refl, sym, ap, ◌∙◌, subst, arith}
use mir.Val.{bool_byte}
use Rattle.std.specs.Result.{is_ok, IfOk}
use Rattle.frames.specs.Layout.{Cache}
use Rattle.frames.specs.Frames.{spare}
use Rattle.node.specs.Pairs.{put_in, drop_in}
use Rattle.store.specs.declared.head.Root.{Root}
use Rattle.store.specs.declared.Store.{Store}
use Rattle.store.specs.Medium.{Medium}
use Rattle.store.specs.Store.{Lost, cache}
use Rattle.store.proofs.Views.{intact_root}
use Rattle.tree.specs.declared.TreeRoot.{TreeRoot}
use Rattle.tree.specs.State.{Still}
use Rattle.tree.specs.Tree.{Sound, occ, pairs_of_tree}
use Rattle.tree.specs.Grow.{Grown, New}
use Rattle.tree.specs.Shrink.{Dropped, Was}
use Rattle.tree.proofs.Counts.{drop_count}
use Rattle.pager.specs.Ground.{Frees, Grounded, pairs_by, pages_by, still}
use Rattle.pager.specs.Volume.{view_of, pages_of, pairs_in, spare_in, with_frees, with_root, standing, Came, Onto, came, went, Paged, Leaves, Ends}
use Rattle.pager.proofs.Grounds.{SameTree, tree_same, ground_low, ground_step}
use Rattle.pager.proofs.Steps.{ground_put, ground_drop}
use Rattle.pager.proofs.Acts.{came_of}

pub lost_of : {m : Medium} {p : List ℕ} {s : Store} {e : Medium} {q : List ℕ} {z : Store} → Onto m p s false e q z → Lost m e
lost_of (went l) = l

-- the number that a truth value is cast to
pub as_number : (b : Bool) → bool_byte b ≡ cond b 1 0
as_number true = refl
as_number false = refl

-- where no images stand
pub spare_still : (i : Bool) (c : Cache) → T (not i) → spare_in i c ≡ spare c
spare_still true c t = absurd t
spare_still false c t = refl

-- what holds of the disk, the part and what is noted holds of them under other names
pub as_lent : (P : Medium → List ℕ → Store → Type 0) (e f : Medium) (q r : List ℕ) (z w : Store) → f ≡ e → r ≡ q → w ≡ z → P e q z → P f r w
as_lent P e f q r z w a b c x = subst (λ y. P y r w) (sym a) (subst (λ y. P e y w) (sym b) (subst (λ y. P e q y) (sym c) x))

module _ (m : Medium) (p : List ℕ) (s : Store) (h : Paged m p s) where
  pub at_rest : Onto m p s true m p s
  at_rest = came (record { pages = refl; shown = refl; intact = h.intact; frees = h.ground.frees; small = h.small; head = refl; store = refl })

  pub low : s.root.height ≤ 6
  low = ground_low m.pages s.root (view_of m p) h.ground h.small

  sound_now : Sound (pages_of m p s) s.root.height s.root.page
  sound_now = (tree_same (still m.pages s.root (view_of m p)) (pages_of m p s) s.root.height s.root.page (λ q o. refl) (λ q. omega arith) h.ground.sound).sound

  module _ (t : TreeRoot) (tp : t.page ≡ s.root.page) (th : t.height ≡ s.root.height) where
    pub sound_at : Sound (pages_of m p s) t.height t.page
    sound_at = subst (λ x. Sound (pages_of m p s) t.height x) (sym tp) (subst (λ y. Sound (pages_of m p s) y s.root.page) (sym th) sound_now)

    module _ (e : Medium) (q : List ℕ) (z : Store) where
      frees_on : Came m p s e q z → Frees m.pages z.root (view_of e q)
      frees_on c = subst (λ n. Frees n z.root (view_of e q)) c.pages c.frees

      -- the tree was asked
      asked : (n : ℕ) → Came m p s e q z → Still n (pages_of m p s) (pages_of e q z) → Leaves (pairs_in m p s) n 0 m p s e q z
      asked n c st =
          let is : z.root ≡ (with_frees s z.root.free z.root.used).root = ap (λ (y : Store). y.root) c.store in
          let same : SameTree (pages_of m p s) (pages_of e q z) s.root.height s.root.page =
          tree_same (pages_of m p s) (pages_of e q z) s.root.height s.root.page (λ x o. ap (λ v. v x) st.page) (λ x. omega (arith, ap (λ f. f x) st.taken)) sound_now in
          let pairs : pairs_by z.root (view_of e q) ≡ pairs_by s.root (view_of m p) = ap (λ r. pairs_by r (view_of e q)) is ∙ same.pairs in
          let pages : pages_by z.root (view_of e q) ≡ pages_by s.root (view_of m p) = ap (λ r. pages_by r (view_of e q)) is ∙ same.pages in
          let ground = ground_step m.pages s.root z.root (pages_of m p s) (pages_of e q z) h.ground (frees_on c) (λ x. refl) (λ x. refl) (subst (λ (r : Root). Sound (pages_of e q z) r.height r.page) (sym is) same.sound)
          (λ x. omega (arith, ap (λ ps. occ x ps) pages, ap (λ f. f x) st.taken)) (ap (λ (r : Root). r.pairs) is ∙ h.ground.pairs ∙ ap length (sym pairs)) in
          record {
            paged = record { intact = c.intact; ground = subst (λ k. Grounded k z.root (view_of e q)) (sym c.pages) ground; small = c.small };
            pairs = pairs;
            pages = c.pages;
            shown = c.shown;
            head = c.head;
            store = c.store ∙ ap (with_root s) (sym is);
            spare = omega (arith, st.spare);
            left = st.left;
          }

      pub asked_ends : {A E : Type 0} (r : Result A E) (P : A → Type 0) (k n : ℕ) → k ≡ n → IfOk r (λ o. P o × Still k (pages_of m p s) (pages_of e q z)) → Onto m p s (is_ok r) e q z → Ends (pairs_in m p s) n 0 m p s (is_ok r) e q z
      asked_ends (Ok a) P k n i g o = asked n (came_of o) (subst (λ j. Still j (pages_of m p s) (pages_of e q z)) i g.1)
      asked_ends (Err a) P k n i g o = lost_of o

      -- and changed: it stands at another root
      module _ (o : Onto m p s true e q z) (f : Medium) (fe : f ≡ e) (v : List ℕ) (vq : v ≡ q) (u : TreeRoot) (pairs : ℕ) (y w : Store) (put : w ≡ standing y u pairs) (yz : y ≡ z) where
        abbrev root : Root
        root = record { page = u.page; height = u.height; pairs = pairs; free = z.root.free; used = z.root.used }

        is : w ≡ with_root z root
        unfolding standing
        is = put ∙ ap (λ x. standing x u pairs) yz

        there : t ≡ record { page = s.root.page; height = s.root.height }
        there = subst (λ y. t ≡ record { page = y; height = s.root.height }) tp (subst (λ y. t ≡ record { page = t.page; height = y }) th refl)

        frees : Frees m.pages root (view_of e q)
        frees = let k = frees_on (came_of o) in record { ends = k.ends; once = k.once; near = k.near }

        leaves : (ps : List (ℕ × ℕ)) (n b : ℕ) → Grounded m.pages root (view_of e q) → pairs_by root (view_of e q) ≡ ps → spare_in s.imaged (cache p) ≤ spare_in z.imaged (cache q) + b → m.left ≤ e.left + n → Leaves ps n b m p s f v w
        leaves ps n b g k sp l =
            let c = came_of o in
            let x : Leaves ps n b m p s e q (with_root z root) = record {
              paged = record { intact = intact_root e q z root c.intact; ground = subst (λ j. Grounded j root (view_of e q)) (sym c.pages) g; small = c.small };
              pairs = k;
              pages = c.pages;
              shown = c.shown;
              head = c.head;
              store = ap (λ y. with_root y root) c.store;
              spare = sp;
              left = l;
            } in
            subst (λ j. Leaves ps n b m p s j v w) (sym fe) (subst (λ y. Leaves ps n b m p s e y w) (sym vq) (subst (λ y. Leaves ps n b m p s e q y) (sym is) x))

        pub put_leaves : (k x : ℕ) (new : Bool) → pairs ≡ s.root.pairs + cond new 1 0 →
            Grown (pages_of m p s) (pages_of e q z) t.height t.page k x u.height u.page × New k (pairs_of_tree (view_of m p) t.height t.page) new → Leaves (put_in k x (pairs_in m p s)) (3 * s.root.height + 1) (2 * s.root.height + 1) m p s f v w
        put_leaves k x new n g =
            let c : Grown (pages_of m p s) (pages_of e q z) s.root.height s.root.page k x u.height u.page × New k (pairs_in m p s) new =
            subst (λ (r : TreeRoot). Grown (pages_of m p s) (pages_of e q z) r.height r.page k x u.height u.page × New k (pairs_of_tree (view_of m p) r.height r.page) new) there g in
            leaves (put_in k x (pairs_in m p s)) (3 * s.root.height + 1) (2 * s.root.height + 1)
            (ground_put m.pages s.root root (pages_of m p s) (pages_of e q z) k h.ground frees (λ y. refl) (λ y. refl) x new c.0 c.1 n) c.0.pairs c.0.spends.spare c.0.left

        pub remove_leaves : (k : ℕ) (was : Bool) → pairs ≡ s.root.pairs - cond was 1 0 →
            Dropped (pages_of m p s) (pages_of e q z) t.height t.page k u.height u.page × Was k (pairs_of_tree (view_of m p) t.height t.page) was → Leaves (drop_in k (pairs_in m p s)) (4 * s.root.height) (2 * s.root.height) m p s f v w
        remove_leaves k was n g =
            let c : Dropped (pages_of m p s) (pages_of e q z) s.root.height s.root.page k u.height u.page × Was k (pairs_in m p s) was =
            subst (λ (r : TreeRoot). Dropped (pages_of m p s) (pages_of e q z) r.height r.page k u.height u.page × Was k (pairs_of_tree (view_of m p) r.height r.page) was) there g in
            leaves (drop_in k (pairs_in m p s)) (4 * s.root.height) (2 * s.root.height)
            (ground_drop m.pages s.root root (pages_of m p s) (pages_of e q z) k h.ground frees (λ y. refl) (λ y. refl) was c.0 c.1 (omega (arith, n, h.ground.pairs, drop_count k (pairs_in m p s) was c.1))) c.0.pairs c.0.spends.spare c.0.left
