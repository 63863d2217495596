-- A question to the book.
use Rattle.std.specs.Prelude.{◌≡◌, ℕ, ◌+◌, ◌≤◌, List}
use Rattle.store.specs.declared.Store.{Store}
use Rattle.store.specs.Medium.{Medium}
use Rattle.pager.specs.Volume.{pairs_in}
use Rattle.ledger.specs.declared.Ledger.{Ledger}
use Rattle.ledger.specs.Ledger.{part_of, now_pairs, OnlyPart}

-- the askings of a look at most, of a next key and of a next pair
abbrev pub look_asks : ℕ
look_asks = 6

abbrev pub key_asks : ℕ
key_asks = 11

abbrev pub pair_asks : ℕ
pair_asks = 17

-- the tree was asked, at most n times
pub record Finds (n : ℕ) (m : Medium) (room : List ℕ) (s : Store) (e : Medium) (then : List ℕ) (z : Store) : Type 0 where
  pub pairs : pairs_in e (part_of then) z ≡ pairs_in m (part_of room) s
  pub left : m.left ≤ e.left + n

-- the book was asked: lines, queue and tree are as they were
pub record Looked (n : ℕ) (m : Medium) (room : List ℕ) (l : Ledger) (e : Medium) (then : List ℕ) (k : Ledger) : Type 0 where
  pub only : OnlyPart room then
  pub tree : now_pairs e then k ≡ now_pairs m room l
  pub queue : k.queue ≡ l.queue
  pub worked : k.store.worked ≡ l.store.worked
  pub imaged : k.store.imaged ≡ l.store.imaged
  pub left : m.left ≤ e.left + n
