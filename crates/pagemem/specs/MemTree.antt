-- A tree in lent memory, as its callers see it.
use Rattle.std.specs.Prelude.{◌≡◌, ℕ, List, slice_index}
use Rattle.tree.specs.declared.TreeRoot.{TreeRoot}
use Rattle.pagemem.specs.Memory.{Good, pairs_in}
use Rattle.pagemem.specs.declared.mem_tree.MemTree.{MemTree}

-- the tree may be used
abbrev pub IsUsable : MemTree → Type 0
IsUsable m = Good m.marks.now m.words.now m.root

-- its pairs
abbrev pub pairs : MemTree → List (ℕ × ℕ)
pairs m = pairs_in m.words.now m.root

-- how many pages are free
abbrev pub free_pages : MemTree → ℕ
free_pages m = slice_index m.marks.now 0

-- it stands at this root in these marks and words
pub record StandsIn (m : MemTree) (ms ws : List ℕ) (t : TreeRoot) : Type 0 where
  pub marks : m.marks.now ≡ ms
  pub words : m.words.now ≡ ws
  pub root : m.root ≡ t
