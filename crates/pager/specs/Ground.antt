-- A tree and its free pages, on the data pages of a disk.
use Rattle.std.specs.Prelude.{◌≡◌, ◌⊎◌, cond, ◌&&◌, List, [], ◌∷◌, ℕ, zero, suc, ◌+◌, ◌-◌, ◌≤◌, eqb, ltb, leb, length, get_or}
use Rattle.store.specs.declared.head.Root.{Root}
use Rattle.tree.specs.State.{PageState}
use Rattle.tree.specs.Tree.{Sound, occ, pairs_of_tree, pages_of_tree}

-- the free list from page p on, through first words, until a nought; at most n pages
unfoldable pub chain : ℕ → ℕ → (ℕ → List ℕ) → List ℕ
chain zero p v = []
chain (suc n) p v = cond (eqb p 0) [] (p ∷ chain n (get_or (v p) 0 0) v)

-- it comes to its nought within n pages
unfoldable pub Ends : ℕ → ℕ → (ℕ → List ℕ) → Type 0
Ends zero p v = p ≡ 0
Ends (suc n) p v = (p ≡ 0) ⊎ Ends n (get_or (v p) 0 0) v

-- a list of different pages that were ever used is no longer than there are of these
abbrev pub free_by : Root → (ℕ → List ℕ) → List ℕ
free_by r v = chain r.used r.free v

-- 1 for a data page that was ever used, where so many were
abbrev pub in_use : ℕ → ℕ → ℕ
in_use u q = cond (leb 393 q && ltb q (393 + u)) 1 0

-- 1 for a page that is in use and not free
abbrev pub taken_by : Root → (ℕ → List ℕ) → ℕ → ℕ
taken_by r v q = in_use r.used q - occ q (free_by r v)

-- how many pages can still be handed out, of p in all
abbrev pub room_by : ℕ → Root → (ℕ → List ℕ) → ℕ
room_by p r v = (p - (393 + r.used)) + length (free_by r v)

-- another top of the free list, or another number of pages ever used
abbrev pub root_with_free : Root → ℕ → Root
root_with_free r f = record { page = r.page; height = r.height; pairs = r.pairs; free = f; used = r.used }

abbrev pub root_with_used : Root → ℕ → Root
root_with_used r u = record { page = r.page; height = r.height; pairs = r.pairs; free = r.free; used = u }

-- the free list is in order, on a disk of p pages
pub record Frees (p : ℕ) (r : Root) (v : ℕ → List ℕ) : Type 0 where
  pub ends : Ends r.used r.free v
  pub once : (q : ℕ) → occ q (free_by r v) ≤ in_use r.used q
  pub near : 393 + r.used ≤ p

abbrev pub pairs_by : Root → (ℕ → List ℕ) → List (ℕ × ℕ)
pairs_by r v = pairs_of_tree v r.height r.page

abbrev pub pages_by : Root → (ℕ → List ℕ) → List ℕ
pages_by r v = pages_of_tree v r.height r.page

-- the pages v as a store of the tree's that nobody asks
abbrev pub still : ℕ → Root → (ℕ → List ℕ) → PageState
still p r v = record { page = v; taken = taken_by r v; room = room_by p r v; left = 0; dirty = λ _. 0; spare = 0 }

-- THE PAGES v HOLD A TREE AND A FREE LIST: each page that was ever used belongs to one of them, once
pub record Grounded (p : ℕ) (r : Root) (v : ℕ → List ℕ) : Type 0 where
  pub frees : Frees p r v
  pub sound : Sound (still p r v) r.height r.page
  pub whole : (q : ℕ) → occ q (pages_by r v) ≡ taken_by r v q
  pub pairs : r.pairs ≡ length (pairs_by r v)
