-- What stands between two calls, and what each call does to it.
use Rattle.std.specs.Prelude.{◌≡◌, ℕ, ◌+◌, ◌-◌, ◌<◌, ◌≤◌, Bool, true, false, cond, not, T, ◌⊎◌, List, [], ◌∷◌, ◌++◌, length, take, drop, ◌≢◌, slice_index}
use Rattle.store.specs.declared.head.Record.{Record}
use Rattle.store.specs.declared.head.Root.{Root}
use Rattle.store.specs.declared.Store.{Store}
use Rattle.frames.specs.Layout.{Cache, cache_of}
use Rattle.frames.specs.Frames.{Sound as Framed, Clean, page_in, pinned, batch_words, changed, shown_by}
use Rattle.store.specs.Medium.{Medium, Stays, at, over}
use Rattle.store.specs.Head.{Head, head_of, Sound, slot_in}
use Rattle.store.specs.State.{State, queue_by, state_by, state_of, Same, Firm, Kept, Cut}

-- the parts of the lent slice: frames, the next head, a page to read into
abbrev pub frames_of : List ℕ → List ℕ
frames_of part = take 61952 part

abbrev pub next_of : List ℕ → List ℕ
next_of part = take 512 (drop 61952 part)

unfoldable pub scratch_of : List ℕ → List ℕ
scratch_of part = take 512 (drop 62464 part)

abbrev pub next : List ℕ → Head
next part = head_of (next_of part)

abbrev pub cache : List ℕ → Cache
cache part = cache_of (frames_of part)

-- g may follow h: it has more records, and is the same in all else
pub record Next (n : ℕ) (h g : Head) : Type 0 where
  pub ok : Sound n g
  pub format : g.format ≡ 1
  pub region : g.region ≡ h.region
  pub targets : g.targets ≡ h.targets
  pub root : g.root ≡ h.root
  pub first : g.first ≡ h.first
  pub full : h.full ≤ g.full
  pub done : g.done ≡ h.done

-- the disk is kept, and g is the head that a seal would write; fresh: pages of its ring haven't lasted yet
pub record Ready (m : Medium) (g : Head) (fresh : Bool) : Type 0 where
  pub kept : Kept m
  pub follows : Next m.pages (head_of (m.shown 0)) g
  pub last : T (not fresh) → Firm m g

-- the images of a batch of n pages w stand in the region that the head doesn't name; where they have lasted, so has every data page
pub record Imaged (m : Medium) (region n : ℕ) (lasted : Bool) (w : ℕ → List ℕ) : Type 0 where
  pub few : n ≤ 64
  pub there : (k : ℕ) → k < n → m.shown (slot_in (1 - region) k) ≡ w k
  pub last : T lasted → (k : ℕ) → k < n → Stays m (slot_in (1 - region) k) (w k)
  pub plain : T lasted → (p : ℕ) → 393 ≤ p → p < m.pages → Stays m p (m.shown p)

-- the whole store between two calls: the disk, the lent slice, and what is noted beside them
pub record Intact (m : Medium) (part : List ℕ) (s : Store) : Type 0 where
  pub long : length part ≡ 62976
  pub ready : Ready m (next part) s.fresh
  pub table : Framed (frames_of part)
  pub clean : Clean (cache part) m.shown
  pub plain : (i : ℕ) → i < 120 → 0 < page_in (cache part) i → (393 ≤ page_in (cache part) i) × (page_in (cache part) i < m.pages)
  pub pins : pinned (cache part) ≡ 0
  pub images : T s.imaged → Imaged m (next part).region (cache part).count s.lasted (batch_words (cache part))

-- what has lasted is as it was, and the data pages and images too
pub record Held (m e : Medium) : Type 0 where
  pub pages : e.pages ≡ m.pages
  pub head : e.shown 0 ≡ m.shown 0
  pub state : Same m.pages (state_of e.shown) (state_of m.shown)
  pub plain : (p : ℕ) → 393 ≤ p → e.shown p ≡ m.shown p
  pub images : (region n : ℕ) (lasted : Bool) (w : ℕ → List ℕ) → region ≤ 1 → Imaged m region n lasted w → Imaged e region n lasted w

-- the power went, and what comes back means what it did
abbrev pub Lost : Medium → Medium → Type 0
Lost m e = Cut m.pages (λ x. Same m.pages x (state_of m.shown)) e

abbrev pub with_fresh : Store → Bool → Store
with_fresh s b = record { fresh = b; imaged = s.imaged; lasted = s.lasted; root = s.root; worked = s.worked }

-- the next head has room for a record more, and means what it did
pub record Roomy (m : Medium) (p : List ℕ) (s : Store) (e : Medium) (q : List ℕ) (z : Store) : Type 0 where
  pub held : Held m e
  pub ready : Ready e (next q) z.fresh
  pub queue : queue_by (next q) e.shown ≡ queue_by (next p) m.shown
  pub room : length (next q).own < 128
  pub frames : frames_of q ≡ frames_of p
  pub store : z ≡ with_fresh s z.fresh
  pub left : m.left + (next p).full ≤ e.left + (next q).full

abbrev pub Spills : Medium → List ℕ → Store → Bool → Medium → List ℕ → Store → Type 0
Spills m p s true e q z = Roomy m p s e q z
Spills m p s false e q z = Lost m e

-- the records rs have joined the next head; one asking for each page of the ring that they filled
pub record Appended (m : Medium) (p : List ℕ) (s : Store) (rs : List Record) (e : Medium) (q : List ℕ) (z : Store) : Type 0 where
  pub intact : Intact e q z
  pub held : Held m e
  pub queue : queue_by (next q) e.shown ≡ queue_by (next p) m.shown ++ rs
  pub frames : frames_of q ≡ frames_of p
  pub store : z ≡ with_fresh s z.fresh
  pub left : m.left + (next p).full ≤ e.left + (next q).full

abbrev pub Appends : Medium → List ℕ → Store → Record → Bool → Medium → List ℕ → Store → Type 0
Appends m p s r true e q z = Appended m p s (r ∷ []) e q z
Appends m p s r false e q z = Lost m e

-- the power went while the head g was written: what comes back means what it did, or what g means
abbrev pub Either : Medium → Head → Medium → Type 0
Either m g e = Cut m.pages (λ x. Same m.pages x (state_of m.shown) ⊎ Same m.pages x (state_by g m.shown)) e

-- what g counts on has lasted; where it was asked for, the images too
pub record Settled (m : Medium) (g : Head) (s : Store) (too : Bool) (e : Medium) (z : Store) : Type 0 where
  pub pages : e.pages ≡ m.pages
  pub shown : e.shown ≡ m.shown
  pub ready : Ready e g false
  pub images : (region n : ℕ) (w : ℕ → List ℕ) → Imaged m region n s.lasted w → Imaged e region n z.lasted w
  pub lasted : T too → T z.lasted
  pub store : z ≡ record { fresh = false; imaged = s.imaged; lasted = z.lasted; root = s.root; worked = s.worked }
  pub left : m.left ≤ e.left + 1

abbrev pub Settles : Medium → Head → Store → Bool → Bool → Medium → Store → Type 0
Settles m g s too true e z = Settled m g s too e z
Settles m g s too false e z = Lost m e

-- the head w has lasted, and all else that is shown
pub record Moved (m : Medium) (w : List ℕ) (e : Medium) : Type 0 where
  pub pages : e.pages ≡ m.pages
  pub shown : e.shown ≡ at 0 w m.shown
  pub all : (q : ℕ) → Stays e q (e.shown q)
  pub left : m.left ≤ e.left + 2

abbrev pub Moves : Medium → List ℕ → Bool → Medium → Type 0
Moves m w true e = Moved m w e
Moves m w false e = Either m (head_of w) e

-- the next head has lasted
pub record Sealed (m : Medium) (p : List ℕ) (s : Store) (e : Medium) (z : Store) : Type 0 where
  pub intact : Intact e p z
  pub pages : e.pages ≡ m.pages
  pub head : e.shown 0 ≡ next_of p
  pub state : Same m.pages (state_of e.shown) (state_by (next p) m.shown)
  pub plain : (q : ℕ) → 393 ≤ q → e.shown q ≡ m.shown q
  pub store : z ≡ record { fresh = false; imaged = s.imaged; lasted = true; root = s.root; worked = s.worked }
  pub left : m.left ≤ e.left + 3

abbrev pub Seals : Medium → List ℕ → Store → Bool → Medium → Store → Type 0
Seals m p s true e z = Sealed m p s e z
Seals m p s false e z = Either m (next p) e

-- what a disk means once the batch t of the pages w is taken, with its root, and k records off the front
abbrev pub took : Medium → Head → List ℕ → (ℕ → List ℕ) → Root → ℕ → State
took m g t w r k = record { root = r; queue = drop k (queue_by g m.shown); page = over (length t) (λ j. slice_index t j) w m.shown }

-- the changed pages stand in the other region, and nothing lasts by it
pub record Shot (m : Medium) (p : List ℕ) (s : Store) (e : Medium) (z : Store) : Type 0 where
  pub intact : Intact e p z
  pub pages : e.pages ≡ m.pages
  pub head : e.shown 0 ≡ m.shown 0
  pub state : Same m.pages (state_of e.shown) (state_of m.shown)
  pub queue : queue_by (next p) e.shown ≡ queue_by (next p) m.shown
  pub plain : (x : ℕ) → 393 ≤ x → e.shown x ≡ m.shown x
  pub store : z ≡ record { fresh = s.fresh; imaged = true; lasted = false; root = s.root; worked = s.worked }
  pub left : m.left ≤ e.left + (cache p).count

abbrev pub Shoots : Medium → List ℕ → Store → Bool → Medium → Store → Type 0
Shoots m p s true e z = Shot m p s e z
Shoots m p s false e z = Lost m e

-- what the disk means once the batch is taken: the pages as the frames show them, their root, and the queue less what is worked in
abbrev pub worked : Medium → List ℕ → Store → State
worked m p s = record { root = s.root; queue = drop s.worked (queue_by (next p) m.shown); page = shown_by (cache p) m.shown }

pub record Taken (m : Medium) (p : List ℕ) (s : Store) (e : Medium) (q : List ℕ) (z : Store) : Type 0 where
  pub intact : Intact e q z
  pub pages : e.pages ≡ m.pages
  pub state : Same m.pages (state_of e.shown) (worked m p s)
  pub queue : queue_by (next q) e.shown ≡ drop s.worked (queue_by (next p) m.shown)
  pub view : (x : ℕ) → 393 ≤ x → shown_by (cache q) e.shown x ≡ shown_by (cache p) m.shown x
  pub empty : (cache q).count ≡ 0
  pub store : z ≡ record { fresh = false; imaged = false; lasted = true; root = s.root; worked = 0 }
  pub left : m.left ≤ e.left + ((cache p).count + 3)

abbrev pub Takes : Medium → List ℕ → Store → Bool → Medium → List ℕ → Store → Type 0
Takes m p s true e q z = Taken m p s e q z
Takes m p s false e q z = Cut m.pages (λ x. Same m.pages x (state_of m.shown) ⊎ Same m.pages x (worked m p s)) e

-- the store has come up, and means what the disk did
pub record Opened (m : Medium) (e : Medium) (q : List ℕ) (z : Store) : Type 0 where
  pub intact : Intact e q z
  pub pages : e.pages ≡ m.pages
  pub state : Same m.pages (state_of e.shown) (state_of m.shown)
  pub queue : queue_by (next q) e.shown ≡ queue_by (head_of (e.shown 0)) e.shown
  pub view : shown_by (cache q) e.shown ≡ e.shown
  pub empty : (cache q).count ≡ 0
  pub store : z ≡ record { fresh = false; imaged = false; lasted = false; root = (head_of (m.shown 0)).root; worked = 0 }
  pub left : m.left ≤ e.left + 129

-- the lent slice holds the same pages and the same batch, in whatever frames
pub record Looked (m : Medium) (p : List ℕ) (s : Store) (q : List ℕ) : Type 0 where
  pub intact : Intact m q s
  pub head : next_of q ≡ next_of p
  pub view : shown_by (cache q) m.shown ≡ shown_by (cache p) m.shown
  pub changes : changed (cache q) ≡ changed (cache p)
  pub count : (cache q).count ≡ (cache p).count

-- page x was read, from a frame or from the disk
pub record Got (m : Medium) (p : List ℕ) (s : Store) (x : ℕ) (b : List ℕ) (e : Medium) (q : List ℕ) : Type 0 where
  pub words : b ≡ shown_by (cache p) m.shown x
  pub pages : e.pages ≡ m.pages
  pub shown : e.shown ≡ m.shown
  pub intact : Intact e q s
  pub head : next_of q ≡ next_of p
  pub view : shown_by (cache q) e.shown ≡ shown_by (cache p) m.shown
  pub changes : changed (cache q) ≡ changed (cache p)
  pub count : (cache q).count ≡ (cache p).count
  pub left : m.left ≤ e.left + 1

abbrev pub Gets : Medium → List ℕ → Store → ℕ → List ℕ → Bool → Medium → List ℕ → Type 0
Gets m p s x b true e q = Got m p s x b e q
Gets m p s x b false e q = Lost m e

-- page x is b now, in a changed frame: it takes a place of the batch unless it has one
pub record Staged (m : Medium) (p : List ℕ) (s : Store) (x : ℕ) (b : List ℕ) (q : List ℕ) : Type 0 where
  pub intact : Intact m q s
  pub head : next_of q ≡ next_of p
  pub view : shown_by (cache q) m.shown ≡ at x b (shown_by (cache p) m.shown)
  pub changes : changed (cache q) ≡ at x true (changed (cache p))
  pub count : (cache q).count ≤ (cache p).count + cond (changed (cache p) x) 0 1

-- another top of the free list, or another number of pages ever used
abbrev pub with_free : Store → ℕ → Store
with_free s f = record { fresh = s.fresh; imaged = s.imaged; lasted = s.lasted; worked = s.worked; root = record { page = s.root.page; height = s.root.height; pairs = s.root.pairs; free = f; used = s.root.used } }

abbrev pub with_used : Store → ℕ → Store
with_used s u = record { fresh = s.fresh; imaged = s.imaged; lasted = s.lasted; worked = s.worked; root = record { page = s.root.page; height = s.root.height; pairs = s.root.pairs; free = s.root.free; used = u } }

-- page x came off the free list, or was never used
pub record Given (m : Medium) (p : List ℕ) (s : Store) (x : ℕ) (e : Medium) (q : List ℕ) (z : Store) : Type 0 where
  pub pages : e.pages ≡ m.pages
  pub shown : e.shown ≡ m.shown
  pub intact : Intact e q z
  pub head : next_of q ≡ next_of p
  pub view : shown_by (cache q) e.shown ≡ shown_by (cache p) m.shown
  pub changes : changed (cache q) ≡ changed (cache p)
  pub count : (cache q).count ≡ (cache p).count
  pub new : s.root.free ≡ 0 → (x ≡ 393 + s.root.used) × (z ≡ with_used s (s.root.used + 1))
  pub old : (s.root.free ≢ 0) → (x ≡ s.root.free) × (z ≡ with_free s (slice_index (shown_by (cache p) m.shown s.root.free) 0))
  pub left : m.left ≤ e.left + 1
