-- The clerks' tables in the room: the lines of each deal and how many they are, what each clerk asks, the order of asking.
use Rattle.std.specs.Prelude.{◌≡◌, ℕ, ◌+◌, ◌*◌, ◌%◌, ◌<◌, ◌≤◌, Bool, true, false, cond, ◌⊎◌, List, map, length, take, drop, ◌==◌, ◌≢◌, slice_index}
use Rattle.lines.specs.declared.line.Line.{Line}
use Rattle.lines.specs.Tables.{deal_lines}
use Rattle.deals.specs.declared.Op.{Op}
use Rattle.deals.specs.declared.Op.TheVariants.{Get, Put, Drop, Next, Mark, Back, Commit, Undo}
use Rattle.deals.specs.Deals.{Said, State, Now, Quiet, Under, Over}
use Rattle.deals.specs.Rows.{said_lines, bare}

-- how many lines the deal of clerk c has
abbrev pub count_at : List ℕ → ℕ → ℕ
count_at room c = slice_index room (259680 + c)

-- the lines of the deal of clerk c
unfoldable pub lines_in : List ℕ → ℕ → List Line
lines_in room c = deal_lines room c (count_at room c)

-- what is asked, as three words; a mark's number has 32 bits
abbrev pub words_op : ℕ → ℕ → ℕ → Op
words_op t a b = cond (t == 0) (Get a) (cond (t == 1) (Put a b) (cond (t == 2) (Drop a) (cond (t == 3) (Next a) (cond (t == 4) Mark (cond (t == 5) (Back (a % 4294967296)) (cond (t == 6) Commit Undo))))))

-- what these three are
abbrev pub op_of : List ℕ → Op
op_of words = words_op (slice_index words 0) (slice_index words 1) (slice_index words 2)

-- what clerk c asks
unfoldable pub op_at : List ℕ → ℕ → Op
op_at room c = words_op (slice_index room (259584 + 3 * c)) (slice_index room (259584 + 3 * c + 1)) (slice_index room (259584 + 3 * c + 2))

-- how many have asked
abbrev pub waiting_in : List ℕ → ℕ
waiting_in room = slice_index room 259744

-- those who have asked, in the order in which they did
unfoldable pub order_of : List ℕ → List ℕ
order_of room = take (waiting_in room) (take 32 (drop 259712 room))

-- all that isn't the clerks': the queue, the frames, the head
unfoldable pub rest_of : List ℕ → List ℕ
rest_of room = take 161280 (drop 98304 room)

-- the room but for n words from a on
pub record Off (a n : ℕ) (room then : List ℕ) : Type 0 where
  pub long : length then ≡ length room
  pub same : (i : ℕ) → (i < a) ⊎ (a + n ≤ i) → slice_index then i ≡ slice_index room i

-- no deal has other lines
abbrev pub SameLines : List ℕ → List ℕ → Type 0
SameLines room then = (c : ℕ) → c < 32 → lines_in then c ≡ lines_in room c

-- the deal of clerk c has the lines ls, and no other deal has other lines
pub record OnlyLines (c : ℕ) (ls : List Line) (room then : List ℕ) : Type 0 where
  pub here : lines_in then c ≡ ls
  pub there : (e : ℕ) → e < 32 → (e ≢ c) → lines_in then e ≡ lines_in room e

-- what code that reads the tables must know, whatever the deals are
pub record Sound (room : List ℕ) : Type 0 where
  pub wide : length room ≡ 262144
  pub short : (e : ℕ) → e < 32 → count_at room e ≤ 1024
  pub most : waiting_in room ≤ 32
  pub few : (i : ℕ) → i < waiting_in room → slice_index room (259712 + i) < 32

-- only lines of deals and their numbers have changed
pub record OnlyDeals (room then : List ℕ) : Type 0 where
  pub sound : Sound then
  pub ops : (c : ℕ) → c < 32 → op_at then c ≡ op_at room c
  pub order : order_of then ≡ order_of room
  pub waiting : waiting_in then ≡ waiting_in room
  pub rest : rest_of then ≡ rest_of room

-- THE TABLE HAS THE DEAL of clerk c
pub record Keeps (room : List ℕ) (c : ℕ) (ss : List Said) : Type 0 where
  pub count : count_at room c ≡ length ss
  pub lines : map bare (lines_in room c) ≡ said_lines ss

-- the deals of all clerks
abbrev pub Desk : List ℕ → State → Type 0
Desk room s = (c : ℕ) → c < 32 → Keeps room c (s.clerk c).deal

unfoldable pub is_under : Now → Bool
is_under Quiet = false
is_under (Under o g) = true
is_under (Over o a g) = false

-- what each who is under way has asked
abbrev pub Asks : List ℕ → State → Type 0
Asks room s = (c : ℕ) → c < 32 → is_under (s.clerk c).now' ≡ true → (g : ℕ) × ((s.clerk c).now' ≡ Under (op_at room c) g)

-- only the order has changed
pub record OnlyOrder (room then : List ℕ) : Type 0 where
  pub sound : Sound then
  pub ops : (c : ℕ) → c < 32 → op_at then c ≡ op_at room c
  pub deals : (s : State) → Desk room s → Desk then s
  pub rest : rest_of then ≡ rest_of room

-- only what clerk c asks has changed
pub record OnlyAsk (c : ℕ) (room then : List ℕ) : Type 0 where
  pub sound : Sound then
  pub ops : (e : ℕ) → e < 32 → (e ≢ c) → op_at then e ≡ op_at room e
  pub deals : (s : State) → Desk room s → Desk then s
  pub order : order_of then ≡ order_of room
  pub waiting : waiting_in then ≡ waiting_in room
  pub rest : rest_of then ≡ rest_of room
