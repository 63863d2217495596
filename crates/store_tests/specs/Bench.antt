-- What is known of a store on a disk in memory, between two acts.
use Rattle.std.specs.Prelude.{◌≡◌, ℕ, ◌+◌, ◌<◌, ◌≤◌, ◌≢◌, List, T, not}
use Rattle.store.specs.declared.Store.{Store}
use Rattle.store.specs.Medium.{Medium, Back}
use Rattle.store.specs.State.{Rested}
use Rattle.store.specs.Store.{Intact, cache}

-- While the power is on the store is intact. Whenever it goes, what comes back is at rest.
pub record Sane (m : Medium) (part : List ℕ) (s : Store) : Type 0 where
  pub up : T m.on → Intact m part s
  pub down : (f : Medium) → Back m f → Rested f

-- the store is intact, and the disk may be asked that often
pub record Up (n : ℕ) (m : Medium) (part : List ℕ) (s : Store) : Type 0 where
  pub intact : Intact m part s
  pub left : m.left ≡ n

-- page p, of a disk of n pages, can be changed in the frames
pub record Changeable (n : ℕ) (part : List ℕ) (s : Store) (p : ℕ) : Type 0 where
  pub room : (cache part).count < 64
  pub calm : T (not s.imaged)
  pub low : 393 ≤ p
  pub near : p < n

-- the top of the free list, and a page that was never used, are pages of a disk of n pages
pub record Usable (n : ℕ) (s : Store) : Type 0 where
  pub old : (s.root.free ≢ 0) → (393 ≤ s.root.free) × (s.root.free < n)
  pub new : (393 + s.root.used < n) × (n ≤ 4294967296)
