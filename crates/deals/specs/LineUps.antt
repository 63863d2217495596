-- The order in which those under way have asked, and whom it serves.
use Rattle.std.specs.Prelude.{◌≡◌, ℕ, zero, suc, ◌+◌, ◌<◌, ◌≤◌, Bool, true, false, ◌&&◌, ◌⊎◌, List, length, Some, None, Option, ◌≢◌, nat_lt, slice_index, slice_index_or}
use Rattle.locks.specs.declared.graph.Pick.{Pick}
use Rattle.locks.specs.declared.graph.WaitGraph.{WaitGraph}
use Rattle.locks.specs.Graphs.{waits_in}
use Rattle.deals.specs.declared.Op.{Op}
use Rattle.deals.specs.declared.Answer.{Answer}
use Rattle.deals.specs.Deals.{Book, Said, State, Now, Quiet, Under, Over, set_clerk, waits, counts, blocked, ring, told, comes_to}
use Rattle.deals.specs.Rows.{Finds}
use Rattle.deals.specs.Tables.{is_under, Sound, Desk, Asks, order_of, op_at}

unfoldable pub age_of : Now → ℕ
age_of Quiet = 0
age_of (Under o g) = g
age_of (Over o a g) = g

abbrev pub one_if : Bool → ℕ
one_if true = 1
one_if false = 0

-- how many below n
unfoldable pub count_to : ℕ → (ℕ → Bool) → ℕ
count_to zero f = 0
count_to (suc n) f = count_to n f + one_if (f n)

-- THE ORDER: all who are under way, each once; with each stands its age. Who counts may be one turn older than its place allows, if a turn
-- has gone since the last was served (more): it may have begun to count only then.
pub record LineUp (can : Op → Bool) (more : Bool) (s : State) (q : List ℕ) : Type 0 where
  pub size : length q ≡ count_to 32 (λ (c : ℕ). is_under (s.clerk c).now')
  pub few : (i : ℕ) → i < length q → slice_index q i < 32
  pub under : (i : ℕ) → i < length q → is_under (s.clerk (slice_index q i)).now' ≡ true
  pub once : (i j : ℕ) → i < length q → j < length q → slice_index q i ≡ slice_index q j → i ≡ j
  pub all : (c : ℕ) → c < 32 → is_under (s.clerk c).now' ≡ true → (i : ℕ) × (i < length q) × (slice_index q i ≡ c)
  pub age : (i : ℕ) → i < length q → age_of (s.clerk (slice_index q i)).now' + i ≤ 31 + one_if (more && counts can s (slice_index q i))

-- ALL OF THE CLERKS' TABLES
pub record TablesHold (can : Op → Bool) (more : Bool) (room : List ℕ) (s : State) : Type 0 where
  pub sound : Sound room
  pub desk : Desk room s
  pub asks : Asks room s
  pub line : LineUp can more s (order_of room)

-- THE WAIT GRAPH says who waits for whom
abbrev pub Graph : (Op → Bool) → WaitGraph → State → Type 0
Graph can g s = (d : ℕ) → d < 32 → (e : ℕ) → waits_in g d e ≡ (nat_lt e 32 && waits can s d e)

-- it does for the first i of the order, and says nothing yet of all others
pub record GraphTo (can : Op → Bool) (g : WaitGraph) (s : State) (q : List ℕ) (i : ℕ) : Type 0 where
  pub done : (k : ℕ) → k < i → (e : ℕ) → waits_in g (slice_index q k) e ≡ (nat_lt e 32 && waits can s (slice_index q k) e)
  pub left : (d : ℕ) → ((k : ℕ) → k < i → slice_index q k ≢ d) → (e : ℕ) → waits_in g d e ≡ false

-- found is the key that the asking of clerk c would find, where that is a Next that isn't turned away
abbrev pub FindsFor : (Op → Bool) → List ℕ → State → ℕ → Option ℕ → Type 0
FindsFor can room s c f = comes_to can (op_at room c) (s.clerk c).deal ≡ true → Finds (op_at room c) (told (op_at room c) (s.clerk c).deal s.book) f

-- the first in the order who counts; by a clash only on a ring
pub record Served (can : Op → Bool) (s : State) (q : List ℕ) (p : Pick) : Type 0 where
  pub among : p.place < length q
  pub there : slice_index_or q p.place 0 ≡ p.who
  pub few : p.who < 32
  pub gets : counts can s p.who ≡ true
  pub free : p.clash ≡ false → blocked can s p.who ≡ false
  pub ringed : p.clash ≡ true → ring can s p.who ≡ true
  pub before : (k : ℕ) → k < p.place → counts can s (slice_index q k) ≡ false

-- the one picked is told a, on o: d is its deal then, and b the book
abbrev pub Serves : (Op → Bool) → List ℕ → List ℕ → State → Pick → Book → List Said → Op → Answer → Type 0
Serves can room then s p b d o a =
    (g : ℕ) → TablesHold can true room s → Served can s (order_of room) p → TablesHold can false then (set_clerk p.who d (Over o a g) (record { book = b; clerk = s.clerk }))

unfoldable pub Picked : (Op → Bool) → State → List ℕ → Option Pick → Type 0
Picked can s q None = (k : ℕ) → k < length q → counts can s (slice_index q k) ≡ false
Picked can s q (Some p) = Served can s q p

-- the quick way: the first of all, if it waits for nobody
unfoldable pub Quick : (Op → Bool) → State → List ℕ → Option Pick → Type 0
Quick can s q None = (length q ≡ 0) ⊎ (blocked can s (slice_index q 0) ≡ true)
Quick can s q (Some p) = (p.place ≡ 0) × Served can s q p
