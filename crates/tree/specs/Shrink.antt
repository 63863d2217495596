-- What a drop leaves: two neighbours that were joined, the node above them, and the whole tree.
use Rattle.std.specs.Prelude.{◌≡◌, ℕ, suc, ◌+◌, ◌-◌, ◌*◌, ◌<◌, ◌≤◌, Bool, true, false, cond, List, ◌++◌, length, is_some, Some, None, Option, ◌==◌, ◌≢◌, slice_index_or}
use Rattle.node.specs.Layout.{least}
use Rattle.node.specs.Pairs.{drop_in, find}
use Rattle.node.specs.Node.{count_of, pairs_of, IsNode, Page, Beside, beside, amended}
use Rattle.tree.specs.State.{PageState, Spends}
use Rattle.tree.specs.Tree.{pairs_at, pages_at, occ, Well, Mine, Once, Sound, pairs_of_tree, pages_of_tree, root_min, keys_end}
use Rattle.tree.specs.Grow.{Holds}

-- how often q is the page that went
abbrev pub gone : ℕ → Option ℕ → ℕ → ℕ
gone c None q = cond (q == c) 1 0
gone c (Some k) q = 0

-- pages a and c may be joined; one of them is in the batch
pub record Near (d : PageState) (l a c : ℕ) : Type 0 where
  pub here : 1 ≤ d.taken a
  pub here' : d.taken c ≡ 1
  pub apart : a ≡ c → ⊥
  pub nodes : Beside (d.page a) (d.page c) l
  pub marked : 1 ≤ d.dirty a + d.dirty c

-- pages a and c were joined
pub record Paired (n : ℕ) (d e : PageState) (l a c : ℕ) (o : Option ℕ) : Type 0 where
  pub holds : Holds e.page l a (pairs_of (d.page a) ++ pairs_of (d.page c)) (beside c o)
  pub others : (q : ℕ) → (q ≢ a) → (q ≢ c) → e.page q ≡ d.page q
  pub taken : (q : ℕ) → d.taken q ≡ e.taken q + gone c o q
  pub room : d.room ≤ e.room
  pub left : d.left ≤ e.left + n
  pub spends : Spends 1 d e

-- the children of p at j and the next may be joined
pub record Mends (d : PageState) (l p j : ℕ) : Type 0 where
  pub here : 1 ≤ d.taken p
  pub is : IsNode (d.page p)
  pub two : suc j < count_of (d.page p)
  pub near : Near d l (slice_index_or (pairs_of (d.page p)) j (0, 0)).1 (slice_index_or (pairs_of (d.page p)) (suc j) (0, 0)).1
  pub not : (slice_index_or (pairs_of (d.page p)) j (0, 0)).1 ≡ p → ⊥
  pub not' : (slice_index_or (pairs_of (d.page p)) (suc j) (0, 0)).1 ≡ p → ⊥

-- m, or one less if thin
abbrev pub less : Bool → ℕ → ℕ
less true m = m - 1
less false m = m

abbrev pub Kept : Bool → ℕ → ℕ → Type 0
Kept thin n n' = (m : ℕ) → m ≤ least → m ≤ n → less thin m ≤ n'

-- the children of p, whose entries were es, at j and the next were joined
pub record Mended (n : ℕ) (d e : PageState) (l p j v : ℕ) (es : List (ℕ × ℕ)) (thin : Bool) : Type 0 where
  pub o : Option ℕ
  pub node : Page (e.page p) v (amended es j o)
  pub holds : Holds e.page l (slice_index_or es j (0, 0)).1 (pairs_of (d.page (slice_index_or es j (0, 0)).1) ++ pairs_of (d.page (slice_index_or es (suc j) (0, 0)).1)) (beside (slice_index_or es (suc j) (0, 0)).1 o)
  pub others : (q : ℕ) → (q ≢ p) → (q ≢ (slice_index_or es j (0, 0)).1) → (q ≢ (slice_index_or es (suc j) (0, 0)).1) → e.page q ≡ d.page q
  pub taken : (q : ℕ) → d.taken q ≡ e.taken q + gone (slice_index_or es (suc j) (0, 0)).1 o q
  pub room : d.room ≤ e.room
  pub left : d.left ≤ e.left + n
  pub kept : Kept thin (length es) (length (amended es j o))
  pub marked : 1 ≤ e.dirty p
  pub spends : Spends 2 d e

-- the leaf p, whose pairs were es, has es'
pub record Cut (n : ℕ) (d e : PageState) (p : ℕ) (es es' : List (ℕ × ℕ)) (thin : Bool) : Type 0 where
  pub node : Page (e.page p) 0 es'
  pub others : (q : ℕ) → (q ≢ p) → e.page q ≡ d.page q
  pub taken : e.taken ≡ d.taken
  pub room : e.room ≡ d.room
  pub left : d.left ≤ e.left + n
  pub kept : Kept thin (length es) (length es')
  pub marked : thin ≡ true → 1 ≤ e.dirty p
  pub spends : Spends 1 d e

-- the tree at p, at level l, has no pair at k now; a thin root is in the batch
pub record Shrunk (n : ℕ) (d e : PageState) (l p k : ℕ) (thin : Bool) : Type 0 where
  pub well : (m lo hi : ℕ) → m ≤ least → Well d.page m l p lo hi → lo ≤ k → k < hi → Well e.page (less thin m) l p lo hi
  pub pairs : pairs_at e.page l p ≡ drop_in k (pairs_at d.page l p)
  pub pages : (q : ℕ) → occ q (pages_at e.page l p) + d.taken q ≡ occ q (pages_at d.page l p) + e.taken q
  pub others : (q : ℕ) → 1 ≤ d.taken q → occ q (pages_at d.page l p) ≡ 0 → e.page q ≡ d.page q
  pub taken : (q : ℕ) → e.taken q ≤ d.taken q
  pub room : d.room ≤ e.room
  pub left : d.left ≤ e.left + n
  pub marked : thin ≡ true → 1 ≤ e.dirty p
  pub spends : Spends (2 * l + 1) d e

-- an inner node has two children
abbrev pub Wide : PageState → ℕ → ℕ → Type 0
Wide d l p = 0 < l → 2 ≤ count_of (d.page p)

-- b: there was a pair at k among es
abbrev pub Was : ℕ → List (ℕ × ℕ) → Bool → Type 0
Was k es b = b ≡ is_some (find k es)

-- a tree whose root may have one entry too few
abbrev pub Worn : PageState → ℕ → ℕ → Type 0
Worn d height root = (l : ℕ) × (height ≡ suc l) × Well d.page (root_min l - 1) l root 0 keys_end × Mine d l root

-- the same tree, at a root and a height that may be new
pub record Crowned (d e : PageState) (height root height' root' : ℕ) : Type 0 where
  pub sound : Sound e height' root'
  pub once : Once e
  pub pairs : pairs_of_tree e.page height' root' ≡ pairs_of_tree d.page height root
  pub pages : (q : ℕ) → occ q (pages_of_tree e.page height' root') + d.taken q ≡ occ q (pages_of_tree d.page height root) + e.taken q
  pub others : (q : ℕ) → occ q (pages_of_tree d.page height root) ≡ 0 → e.page q ≡ d.page q
  pub taken : (q : ℕ) → e.taken q ≤ d.taken q
  pub room : d.room ≤ e.room
  pub left : d.left ≤ e.left + 1
  pub spends : Spends 1 d e

-- the whole tree has no pair at k now, at a root and a height that may be new
-- pages: what it gave back was the tree's; others: what was taken and isn't the tree's is as it was
pub record Dropped (d e : PageState) (height root k height' root' : ℕ) : Type 0 where
  pub sound : Sound e height' root'
  pub once : Once e
  pub pairs : pairs_of_tree e.page height' root' ≡ drop_in k (pairs_of_tree d.page height root)
  pub pages : (q : ℕ) → occ q (pages_of_tree e.page height' root') + d.taken q ≡ occ q (pages_of_tree d.page height root) + e.taken q
  pub others : (q : ℕ) → 1 ≤ d.taken q → occ q (pages_of_tree d.page height root) ≡ 0 → e.page q ≡ d.page q
  pub taken : (q : ℕ) → e.taken q ≤ d.taken q
  pub room : d.room ≤ e.room
  pub left : d.left ≤ e.left + 4 * height
  pub spends : Spends (2 * height) d e
