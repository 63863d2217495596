-- What a node's page means: a list of entries; and what the functions on pages say of such lists.
use Rattle.std.specs.Prelude.{◌≡◌, ℕ, suc, ◌+◌, ◌-◌, ◌<◌, ◌≤◌, List, [], ◌∷◌, ◌++◌, length, take, drop, is_some, Some, None, Option, true, false, Ok, Err, Result, slice_index, slice_index_or, slice_set}
use Rattle.std.specs.List.{zip, insert, remove}
use Rattle.pages.specs.Pages.{page_words}
use Rattle.node.specs.Layout.{keys_from, words_from, capacity, least}
use Rattle.node.specs.Pairs.{Up, find, put_in, drop_in}

abbrev pub count_of : List ℕ → ℕ
count_of b = slice_index b 0

abbrev pub level_of : List ℕ → ℕ
level_of b = slice_index b 1

abbrev pub keys_of : List ℕ → List ℕ
keys_of b = take (count_of b) (drop keys_from b)

abbrev pub words_of : List ℕ → List ℕ
words_of b = take (count_of b) (drop words_from b)

-- the entries: a key and a word each; of an inner node, a child's lower fence and its page
abbrev pub pairs_of : List ℕ → List (ℕ × ℕ)
pairs_of b = zip (keys_of b) (words_of b)

abbrev pub IsNode : List ℕ → Type 0
IsNode b = (length b ≡ page_words) × (count_of b ≤ capacity)

-- page b, at level l, holds es
pub record Page (b : List ℕ) (l : ℕ) (es : List (ℕ × ℕ)) : Type 0 where
  pub is : IsNode b
  pub level : level_of b ≡ l
  pub pairs : pairs_of b ≡ es

-- pages b and c, at level l, share es; c begins with the key k
pub record Shared (b c : List ℕ) (l k : ℕ) (es : List (ℕ × ℕ)) : Type 0 where
  pub is : IsNode b
  pub is' : IsNode c
  pub level : level_of b ≡ l
  pub level' : level_of c ≡ l
  pub pairs : pairs_of b ++ pairs_of c ≡ es
  pub full : least ≤ count_of b
  pub full' : least ≤ count_of c
  pub key : (slice_index_or (pairs_of c) 0 (0, 0)).0 ≡ k

-- what a node holds: its level, which is 0 for a leaf, and its entries
pub record Contents : Type 0 where
  pub level : ℕ
  pub pairs : List (ℕ × ℕ)

abbrev pub contents_of : List ℕ → Contents
contents_of b = record { level = level_of b; pairs = pairs_of b }

-- the key of entry i, by places in the node
abbrev pub key_at : List (ℕ × ℕ) → ℕ → ℕ
key_at es i = (slice_index_or es i (0, 0)).0

-- keys rise
abbrev pub Rising : List (ℕ × ℕ) → Type 0
Rising es = (lo : ℕ) × ((hi : ℕ) × Up lo hi es)

-- i is how many keys are below k
pub record Lower (es : List (ℕ × ℕ)) (k i : ℕ) : Type 0 where
  pub few : i ≤ length es
  pub low : (j : ℕ) → j < i → key_at es j < k
  pub high : (j : ℕ) → i ≤ j → j < length es → k ≤ key_at es j

-- i is how many keys are at most k
pub record Upper (es : List (ℕ × ℕ)) (k i : ℕ) : Type 0 where
  pub few : i ≤ length es
  pub low : (j : ℕ) → j < i → key_at es j ≤ k
  pub high : (j : ℕ) → i ≤ j → j < length es → k < key_at es j

-- entries that may be asked for the child of k
pub record Reaches (es : List (ℕ × ℕ)) (k : ℕ) : Type 0 where
  pub lo : ℕ
  pub hi : ℕ
  pub up : Up lo hi es
  pub some : 0 < length es
  pub from : key_at es 0 ≤ k

-- entry i of es is the one whose child has k, if one has
pub record Chosen (es : List (ℕ × ℕ)) (k i : ℕ) : Type 0 where
  pub here : i < length es
  pub low : (slice_index_or es i (0, 0)).0 ≤ k
  pub high : suc i < length es → k < (slice_index_or es (suc i) (0, 0)).0

-- the child after place i, if there is one
abbrev pub RightOf : List (ℕ × ℕ) → ℕ → Option ℕ → Type 0
RightOf es i None = length es ≡ suc i
RightOf es i (Some q) = (suc i < length es) × (q ≡ (slice_index_or es (suc i) (0, 0)).1)

-- the way to the child that has k: entry i, its child, and the child to the right of that
abbrev pub Leads : List (ℕ × ℕ) → ℕ → ℕ → ℕ → Option ℕ → Type 0
Leads es k i down right = Chosen es k i × (down ≡ (slice_index_or es i (0, 0)).1) × RightOf es i right

-- k stands at place i of es
pub record Found (es : List (ℕ × ℕ)) (k i : ℕ) : Type 0 where
  pub here : i < length es
  pub key : (slice_index_or es i (0, 0)).0 ≡ k
  pub puts : (x : ℕ) → put_in k x es ≡ slice_set es i (k, x)
  pub drops : drop_in k es ≡ remove es i
  pub was : is_some (find k es) ≡ true

-- k is not in es, and belongs at place i
pub record Missing (es : List (ℕ × ℕ)) (k i : ℕ) : Type 0 where
  pub here : i ≤ length es
  pub puts : (x : ℕ) → put_in k x es ≡ insert es i (k, x)
  pub drops : drop_in k es ≡ es
  pub was : is_some (find k es) ≡ false

-- what a search for k tells: where it is, or where it belongs
abbrev pub Spot : List (ℕ × ℕ) → ℕ → Result ℕ ℕ → Type 0
Spot es k (Ok i) = Found es k i
Spot es k (Err i) = Missing es k i

abbrev pub place_of : Result ℕ ℕ → ℕ
place_of (Ok i) = i
place_of (Err i) = i

-- one entry or two: (k, x), and more
abbrev pub rows : ℕ → ℕ → Option (ℕ × ℕ) → List (ℕ × ℕ)
rows k x None = (k, x) ∷ []
rows k x (Some a) = (k, x) ∷ (a ∷ [])

-- two neighbours of which one may have an entry too few
pub record Beside (b c : List ℕ) (l : ℕ) : Type 0 where
  pub is : IsNode b
  pub is' : IsNode c
  pub level : level_of b ≡ l
  pub level' : level_of c ≡ l
  pub some : least - 1 ≤ count_of b
  pub some' : least - 1 ≤ count_of c
  pub both : least + least - 1 ≤ count_of b + count_of c

-- the same of what they hold
pub record Neighbours (b c : Contents) : Type 0 where
  pub level : c.level ≡ b.level
  pub some : least - 1 ≤ length b.pairs
  pub some' : least - 1 ≤ length c.pairs
  pub both : least + least - 1 ≤ length b.pairs + length c.pairs

-- nodes b and c, at level l, share es
pub record Shares (b c : Contents) (l : ℕ) (es : List (ℕ × ℕ)) : Type 0 where
  pub level : b.level ≡ l
  pub level' : c.level ≡ l
  pub pairs : b.pairs ++ c.pairs ≡ es
  pub full : least ≤ length b.pairs
  pub full' : least ≤ length c.pairs

-- the first has all that both had, or they share it, the second from key k on
abbrev pub Joins : Contents → Contents → ℕ → List (ℕ × ℕ) → Option ℕ → Type 0
Joins b c l es None = b ≡ record { level = l; pairs = es }
Joins b c l es (Some k) = Shares b c l es × (key_at c.pairs 0 ≡ k)

-- the page c, if it is still there
abbrev pub beside : ℕ → Option ℕ → Option (ℕ × ℕ)
beside c None = None
beside c (Some k) = Some (k, c)

-- the entries once the children of those at j and the next were joined
abbrev pub amended : List (ℕ × ℕ) → ℕ → Option ℕ → List (ℕ × ℕ)
amended es j o = take j es ++ (rows (slice_index_or es j (0, 0)).0 (slice_index_or es j (0, 0)).1 (beside (slice_index_or es (suc j) (0, 0)).1 o) ++ drop (suc (suc j)) es)
