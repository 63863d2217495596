-- What a put leaves: a node that holds its entries, or two that share them; and the whole tree.
use Rattle.std.specs.Prelude.{◌≡◌, ℕ, ◌+◌, ◌*◌, ◌<◌, ◌≤◌, Bool, cond, not, List, is_some, Some, None, Option, ◌==◌, ◌≢◌}
use Rattle.node.specs.Layout.{least}
use Rattle.node.specs.Pairs.{put_in, find}
use Rattle.node.specs.Node.{Page, Shared, rows}
use Rattle.tree.specs.State.{PageState, Spends}
use Rattle.tree.specs.Tree.{joined, pairs_at, pages_at, occ, Kids, Well, Once, Sound, pairs_of_tree, pages_of_tree}

-- in the view v, es stand in page p, or in p and another page
abbrev pub Holds : (ℕ → List ℕ) → ℕ → ℕ → List (ℕ × ℕ) → Option (ℕ × ℕ) → Type 0
Holds v l p es None = Page (v p) l es
Holds v l p es (Some a) = Shared (v p) (v a.1) l a.0 es

-- how often q is the new page
abbrev pub extra : Option (ℕ × ℕ) → ℕ → ℕ
extra None q = 0
extra (Some a) q = cond (q == a.1) 1 0

abbrev pub Fresh : (ℕ → ℕ) → Option (ℕ × ℕ) → Type 0
Fresh t None = Unit {0}
Fresh t (Some a) = t a.1 ≡ 0

-- node p, at level l, now holds es, by itself or with a new page
pub record Entered (n : ℕ) (d e : PageState) (l p : ℕ) (es : List (ℕ × ℕ)) (o : Option (ℕ × ℕ)) : Type 0 where
  pub holds : Holds e.page l p es o
  pub others : (q : ℕ) → (q ≢ p) → 1 ≤ d.taken q → e.page q ≡ d.page q
  pub taken : (q : ℕ) → e.taken q ≡ d.taken q + extra o q
  pub fresh : Fresh d.taken o
  pub room : d.room ≤ e.room + 1
  pub left : d.left ≤ e.left + n
  pub spends : Spends 2 d e

abbrev pub fewest : ℕ → Option (ℕ × ℕ) → ℕ
fewest m None = m
fewest m (Some a) = least

-- the tree at p, at level l, has the pair (k, x) now
pub record Grew (n : ℕ) (d e : PageState) (l p k x : ℕ) (o : Option (ℕ × ℕ)) : Type 0 where
  pub well : (m lo hi : ℕ) → m ≤ least → Well d.page m l p lo hi → lo ≤ k → k < hi → Kids (λ c a b. Well e.page (fewest m o) l c a b) lo hi (rows lo p o)
  pub pairs : (lo : ℕ) → joined (λ c. pairs_at e.page l c) (rows lo p o) ≡ put_in k x (pairs_at d.page l p)
  pub pages : (lo q : ℕ) → occ q (joined (λ c. pages_at e.page l c) (rows lo p o)) + d.taken q ≡ occ q (pages_at d.page l p) + e.taken q
  pub others : (q : ℕ) → 1 ≤ d.taken q → occ q (pages_at d.page l p) ≡ 0 → e.page q ≡ d.page q
  pub taken : (q : ℕ) → (d.taken q ≤ e.taken q) × (e.taken q ≤ 1)
  pub room : d.room ≤ e.room + (l + 1)
  pub left : d.left ≤ e.left + n
  pub spends : Spends (2 * l + 2) d e

-- b: the key k is new among es
abbrev pub New : ℕ → List (ℕ × ℕ) → Bool → Type 0
New k es b = b ≡ not (is_some (find k es))

-- a new page p, at level l, that holds es
pub record Built (d e : PageState) (p l : ℕ) (es : List (ℕ × ℕ)) : Type 0 where
  pub was : d.taken p ≡ 0
  pub holds : Page (e.page p) l es
  pub others : (q : ℕ) → (q ≢ p) → e.page q ≡ d.page q
  pub taken : (q : ℕ) → e.taken q ≡ d.taken q + cond (q == p) 1 0
  pub room : d.room ≡ e.room + 1
  pub left : d.left ≤ e.left + 1
  pub spends : Spends 1 d e

-- the whole tree has the pair (k, x) now, at a root and a height that may be new
-- pages: the pages that it took are now the tree's; others: what was taken and isn't the tree's is as it was
pub record Grown (d e : PageState) (height root k x height' root' : ℕ) : Type 0 where
  pub sound : Sound e height' root'
  pub once : Once e
  pub pairs : pairs_of_tree e.page height' root' ≡ put_in k x (pairs_of_tree d.page height root)
  pub pages : (q : ℕ) → occ q (pages_of_tree e.page height' root') + d.taken q ≡ occ q (pages_of_tree d.page height root) + e.taken q
  pub others : (q : ℕ) → 1 ≤ d.taken q → occ q (pages_of_tree d.page height root) ≡ 0 → e.page q ≡ d.page q
  pub room : d.room ≤ e.room + (height + 1)
  pub left : d.left ≤ e.left + (3 * height + 1)
  pub spends : Spends (2 * height + 1) d e
