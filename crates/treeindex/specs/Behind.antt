-- The tree on the store as an index: it stands in the store's part, which is the front of the room behind the tables.
use Rattle.std.specs.Prelude.{◌≡◌, ℕ, ◌<◌, ◌≤◌, ◌^◌, Bool, true, false, List, length, take, drop}
use Rattle.store.specs.declared.Store.{Store}
use Rattle.store.specs.Medium.{Medium}
use Rattle.store.specs.Store.{Lost, next_of}
use Rattle.view.specs.Asks.{Asks}
use Rattle.pager.specs.Ground.{room_by}
use Rattle.pager.specs.Volume.{Paged, view_of, with_root}
use Rattle.pager.specs.Volume as pager

-- v is the room behind the tables
abbrev pub part_in : List ℕ → List ℕ
part_in v = take 62976 v

-- on at most 2^32 pages a tree has at most six levels
abbrev pub budget_of : Medium → Asks
budget_of m = record { left = m.left; get = 6; next = 11; change = 24 }

-- a put or a removal may be made: no images stand, and there are pages to change and to take
pub record Ready (m : Medium) (v : List ℕ) (s : Store) : Type 0 where
  pub spare : pager.Ready 13 (part_in v) s
  pub room : 7 ≤ room_by m.pages s.root (view_of m (part_in v))
  pub few : s.root.pairs < 2 ^ 63

-- after some calls a whole tree stands: nothing was written to the disk, of the room only frames have changed, and of what is noted only the root
pub record Came (m : Medium) (w : List ℕ) (s : Store) (e : Medium) (v : List ℕ) (z : Store) : Type 0 where
  pub paged : Paged e (part_in v) z
  pub pages : e.pages ≡ m.pages
  pub shown : e.shown ≡ m.shown
  pub long : length v ≡ length w
  pub rest : drop 62976 v ≡ drop 62976 w
  pub head : next_of (part_in v) ≡ next_of (part_in w)
  pub store : z ≡ with_root s z.root

-- and where the power went, whatever comes back means what it did. Shut, so that a search takes it as it stands.
pub data Onto (m : Medium) (w : List ℕ) (s : Store) : Bool → Medium → List ℕ → Store → Type 0 where
  came : {e : Medium} {v : List ℕ} {z : Store} → Came m w s e v z → Onto m w s true e v z
  went : {e : Medium} {v : List ℕ} {z : Store} → Lost m e → Onto m w s false e v z
