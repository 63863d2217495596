-- Pages in memory: the marks' first word counts the free pages, then comes a mark for each page, 1 where it is taken; the words are the pages.
use Rattle.std.specs.Prelude.{◌≡◌, ℕ, ◌+◌, ◌-◌, ◌*◌, ◌<◌, ◌≤◌, Bool, true, cond, List, [], ◌∷◌, length, drop, ◌==◌, slice_index, slice_index_or}
use Rattle.pages.specs.Pages.{page_words, page_at}
use Rattle.tree.specs.State.{PageState}
use Rattle.tree.specs.Tree.{Once, Sound, pairs_of_tree}
use Rattle.tree.specs.declared.TreeRoot.{TreeRoot}

abbrev pub mark_of : List ℕ → ℕ → ℕ
mark_of ms p = slice_index ms (1 + p)

-- how many marks are 0
unfoldable pub free : List ℕ → ℕ
free [] = 0
free (m ∷ ms) = cond (m == 0) 1 0 + free ms

-- askings are free in memory, and every page counts as changed already: so large a number never runs out within a call
abbrev pub plenty : ℕ
plenty = 1000

abbrev pub state_of : List ℕ → List ℕ → PageState
state_of ms ws = record { page = page_at ws; taken = mark_of ms; room = slice_index ms 0; left = plenty; dirty = λ q. 1; spare = plenty }

-- the slices fit each other, and the count is right
pub record Fits (ms ws : List ℕ) : Type 0 where
  pub some : 0 < length ms
  pub few : length ms ≤ 4294967297
  pub long : page_words * (length ms - 1) ≤ length ws
  pub counted : slice_index_or ms 0 0 ≡ free (drop 1 ms)

-- a store in memory never fails; shut, so that a search takes it as it stands
pub data Kept (ok : Bool) (ms ws : List ℕ) : Type 0 where
  kept : ok ≡ true → Fits ms ws → Kept ok ms ws

-- a tree in memory that may be used
pub record Good (ms ws : List ℕ) (t : TreeRoot) : Type 0 where
  pub fits : Fits ms ws
  pub sound : Sound (state_of ms ws) t.height t.page
  pub once : Once (state_of ms ws)

abbrev pub pairs_in : List ℕ → TreeRoot → List (ℕ × ℕ)
pairs_in ws t = pairs_of_tree (page_at ws) t.height t.page
