-- The tree's pages on the store: what a tree sees of them, what passes through its code, and when a whole tree stands on them.
use Rattle.std.specs.Prelude.{◌≡◌, Bool, true, false, cond, not, List, ℕ, ◌+◌, ◌≤◌, T}
use Rattle.frames.specs.Layout.{Cache}
use Rattle.frames.specs.Frames.{changed, spare, shown_by}
use Rattle.store.specs.declared.head.Root.{Root}
use Rattle.store.specs.declared.Store.{Store}
use Rattle.store.specs.Medium.{Medium}
use Rattle.store.specs.Store.{Intact, Lost, cache, next_of}
use Rattle.tree.specs.declared.TreeRoot.{TreeRoot}
use Rattle.tree.specs.State.{PageState}
use Rattle.pager.specs.Ground.{Frees, Grounded, pairs_by, taken_by, room_by}

-- each page as the frames and the disk show it
abbrev pub view_of : Medium → List ℕ → ℕ → List ℕ
view_of m part = shown_by (cache part) m.shown

-- 1 for a page in the batch. While images stand no page may be changed: then none counts as in the batch, and the batch takes no more.
abbrev pub dirty_in : Bool → Cache → ℕ → ℕ
dirty_in true c q = 0
dirty_in false c q = cond (changed c q) 1 0

abbrev pub spare_in : Bool → Cache → ℕ
spare_in true c = 0
spare_in false c = spare c

abbrev pub pages_of : Medium → List ℕ → Store → PageState
pages_of m part s = record {
  page = view_of m part;
  taken = taken_by s.root (view_of m part);
  room = room_by m.pages s.root (view_of m part);
  left = m.left;
  dirty = dirty_in s.imaged (cache part);
  spare = spare_in s.imaged (cache part);
}

-- another free list
abbrev pub with_frees : Store → ℕ → ℕ → Store
with_frees s f u = record { fresh = s.fresh; imaged = s.imaged; lasted = s.lasted; root = record { page = s.root.page; height = s.root.height; pairs = s.root.pairs; free = f; used = u }; worked = s.worked }

-- the store after some acts of the tree's: nothing was written to the disk, the next head is as it was, and of what is noted only the
-- free list has changed. It is in order, whatever the tree is in the midst of.
pub record Came (m : Medium) (p : List ℕ) (s : Store) (e : Medium) (q : List ℕ) (z : Store) : Type 0 where
  pub pages : e.pages ≡ m.pages
  pub shown : e.shown ≡ m.shown
  pub intact : Intact e q z
  pub frees : Frees e.pages z.root (view_of e q)
  pub small : e.pages ≤ 4294967296
  pub head : next_of q ≡ next_of p
  pub store : z ≡ with_frees s z.root.free z.root.used

-- and where the power went, whatever comes back means what it did. Shut, so that a search takes it as it stands.
pub data Onto (m : Medium) (p : List ℕ) (s : Store) : Bool → Medium → List ℕ → Store → Type 0 where
  came : {e : Medium} {q : List ℕ} {z : Store} → Came m p s e q z → Onto m p s true e q z
  went : {e : Medium} {q : List ℕ} {z : Store} → Lost m e → Onto m p s false e q z

-- a whole tree on the store
pub record Paged (m : Medium) (part : List ℕ) (s : Store) : Type 0 where
  pub intact : Intact m part s
  pub ground : Grounded m.pages s.root (view_of m part)
  pub small : m.pages ≤ 4294967296

-- the pairs of the tree at the store's root
abbrev pub pairs_in : Medium → List ℕ → Store → List (ℕ × ℕ)
pairs_in m part s = pairs_by s.root (view_of m part)

-- no images stand, and n more pages may come into the batch
pub record Ready (n : ℕ) (part : List ℕ) (s : Store) : Type 0 where
  pub still : T (not s.imaged)
  pub spare : n ≤ spare (cache part)

abbrev pub with_root : Store → Root → Store
with_root s r = record { fresh = s.fresh; imaged = s.imaged; lasted = s.lasted; root = r; worked = s.worked }

-- the tree stands at t and has n pairs
unfoldable pub standing : Store → TreeRoot → ℕ → Store
standing s t n = with_root s (record { page = t.page; height = t.height; pairs = n; free = s.root.free; used = s.root.used })

-- what a call of the tree's leaves: the tree holds the pairs t, by at most n askings and with at most b more pages in the batch.
-- Nothing was written to the disk, the next head is as it was, and of what is noted only the root has changed.
pub record Leaves (t : List (ℕ × ℕ)) (n b : ℕ) (m : Medium) (p : List ℕ) (s : Store) (e : Medium) (q : List ℕ) (z : Store) : Type 0 where
  pub paged : Paged e q z
  pub pairs : pairs_in e q z ≡ t
  pub pages : e.pages ≡ m.pages
  pub shown : e.shown ≡ m.shown
  pub head : next_of q ≡ next_of p
  pub store : z ≡ with_root s z.root
  pub spare : spare_in s.imaged (cache p) ≤ spare_in z.imaged (cache q) + b
  pub left : m.left ≤ e.left + n

-- and where the power went, whatever comes back means what it did
abbrev pub Ends : List (ℕ × ℕ) → ℕ → ℕ → Medium → List ℕ → Store → Bool → Medium → List ℕ → Store → Type 0
Ends t n b m p s true e q z = Leaves t n b m p s e q z
Ends t n b m p s false e q z = Lost m e
