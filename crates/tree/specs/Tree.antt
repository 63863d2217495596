-- A tree of pages: what it means, which pages it has, and when it is well formed.
use Rattle.std.specs.Prelude.{◌≡◌, ℕ, zero, suc, ◌+◌, ◌<◌, ◌≤◌, cond, List, [], ◌∷◌, ◌++◌, ◌==◌}
use Rattle.node.specs.Layout.{capacity, least}
use Rattle.node.specs.Pairs.{Up}
use Rattle.node.specs.Node.{count_of, level_of, pairs_of, IsNode}
use Rattle.tree.specs.State.{PageState}

-- what f gives for the page of each entry, one after the other
abbrev pub joined : {A : Type 0} → (ℕ → List A) → List (ℕ × ℕ) → List A
joined f [] = []
joined f (e ∷ es) = f e.1 ++ joined f es

-- the pairs of the tree at page p, at level l
unfoldable pub pairs_at : (ℕ → List ℕ) → ℕ → ℕ → List (ℕ × ℕ)
pairs_at v zero p = pairs_of (v p)
pairs_at v (suc l) p = joined (λ c. pairs_at v l c) (pairs_of (v p))

-- its pages
unfoldable pub pages_at : (ℕ → List ℕ) → ℕ → ℕ → List ℕ
pages_at v zero p = p ∷ []
pages_at v (suc l) p = p ∷ joined (λ c. pages_at v l c) (pairs_of (v p))

-- how often q stands in a list
abbrev pub occ : ℕ → List ℕ → ℕ
occ q [] = 0
occ q (p ∷ ps) = cond (q == p) 1 0 + occ q ps

-- children side by side, from lo to hi: each entry's key is the fence where its child begins, which ends where the next begins
abbrev pub Kids : (ℕ → ℕ → ℕ → Type 0) → ℕ → ℕ → List (ℕ × ℕ) → Type 0
Kids W lo hi [] = lo ≡ hi
Kids W lo hi (e ∷ es) = (e.0 ≡ lo) × ((mid : ℕ) × (lo < mid) × W e.1 lo mid × Kids W mid hi es)

-- a page that is a node with at least m entries, at level l
pub record Node (b : List ℕ) (m l : ℕ) : Type 0 where
  pub is : IsNode b
  pub level : level_of b ≡ l
  pub full : m ≤ count_of b

-- the tree at page p, at level l, has keys from lo to hi; its root has at least m entries, and each other node at least the least
unfoldable pub Well : (ℕ → List ℕ) → ℕ → ℕ → ℕ → ℕ → ℕ → Type 0
Well v m zero p lo hi = Node (v p) m 0 × Up lo hi (pairs_of (v p))
Well v m (suc l) p lo hi = Node (v p) m (suc l) × Kids (λ c a b. Well v least l c a b) lo hi (pairs_of (v p))

-- all its pages are taken
abbrev pub Mine : PageState → ℕ → ℕ → Type 0
Mine d l p = (q : ℕ) → occ q (pages_at d.page l p) ≤ d.taken q

-- no page is taken twice
abbrev pub Once : PageState → Type 0
Once d = (q : ℕ) → d.taken q ≤ 1

-- a tree that may be asked for k
pub record Asks (d : PageState) (l p k : ℕ) : Type 0 where
  pub m : ℕ
  pub lo : ℕ
  pub hi : ℕ
  pub some : 0 < m
  pub well : Well d.page m l p lo hi
  pub from : lo ≤ k
  pub to : k < hi

-- the fewest entries of a root
abbrev pub root_min : ℕ → ℕ
root_min zero = 1
root_min (suc l) = 2

-- keys are below this
abbrev pub keys_end : ℕ
keys_end = 18446744073709551616

-- a whole tree: its pairs, its pages, and when it is sound; of height 0 it is empty
unfoldable pub pairs_of_tree : (ℕ → List ℕ) → ℕ → ℕ → List (ℕ × ℕ)
pairs_of_tree v zero root = []
pairs_of_tree v (suc l) root = pairs_at v l root

unfoldable pub pages_of_tree : (ℕ → List ℕ) → ℕ → ℕ → List ℕ
pages_of_tree v zero root = []
pages_of_tree v (suc l) root = pages_at v l root

unfoldable pub Sound : PageState → ℕ → ℕ → Type 0
Sound d zero root = Unit {0}
Sound d (suc l) root = Well d.page (root_min l) l root 0 keys_end × Mine d l root

-- only pages below n are taken
abbrev pub Within : PageState → ℕ → Type 0
Within d n = (q : ℕ) → n ≤ q → d.taken q ≡ 0

-- the keys of a whole tree's pairs rise
abbrev pub UpTree : List (ℕ × ℕ) → Type 0
UpTree es = Up 0 keys_end es

-- as full as every node but the root is
abbrev pub Occupied : List ℕ → Type 0
Occupied b = (least ≤ count_of b) × (count_of b ≤ capacity)
