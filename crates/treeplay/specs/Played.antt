-- A tree in memory beside a list that holds, by key, the word and one more, or 0.
use Rattle.std.specs.Prelude.{◌≡◌, ℕ, length}
use Rattle.pagemem.specs.MemTree.{IsUsable}
use Rattle.treeplay.specs.declared.Game.{Game}

-- how many keys are played with
abbrev pub keys : ℕ
keys = 60000

-- the tree may be used, and the list has a place for each key
abbrev pub Ready : Game → Type 0
Ready g = IsUsable g.tree × (length g.model.now ≡ keys)
