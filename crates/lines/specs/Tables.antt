-- The two tables of lines in the room, at its start: 32 deals of 1024 lines each, then the queue of 32768 lines.
use Rattle.std.specs.Prelude.{◌≡◌, ℕ, ◌*◌, ◌<◌, ◌≤◌, List, length, take, drop, ◌≢◌}
use Rattle.lines.specs.declared.line.Line.{Line}
use Rattle.lines.specs.declared.ring.Ring.{Ring}
use Rattle.lines.specs.Rings.{lines_of}

-- the first n lines of a deal
abbrev pub deal_ring : ℕ → Ring
deal_ring n = record { cap = 1024; start = 0; count = n }

-- the n lines of the deal c
unfoldable pub deal_lines : List ℕ → ℕ → ℕ → List Line
deal_lines room c n = lines_of (take 3072 (drop (3072 * c) room)) (deal_ring n)

-- the lines of the queue
unfoldable pub queue_lines : List ℕ → Ring → List Line
queue_lines room r = lines_of (take 98304 (drop 98304 room)) r

-- both tables, and what lies behind them
abbrev pub tables : List ℕ → List ℕ
tables room = take 196608 room

abbrev pub behind : List ℕ → List ℕ
behind room = drop 196608 room

-- the tables of those who have asked, behind the store's part
abbrev pub clerks_in : List ℕ → List ℕ
clerks_in room = drop 259584 room

-- a deal with n lines in the room
pub record DealIn (w : List ℕ) (c n : ℕ) : Type 0 where
  pub room : length w ≡ 262144
  pub deal : c < 32
  pub count : n ≤ 1024

-- a queue in the room
pub record QueueIn (w : List ℕ) (r : Ring) : Type 0 where
  pub room : length w ≡ 262144
  pub cap : r.cap ≡ 32768
  pub start : r.start < r.cap
  pub count : r.count ≤ r.cap

-- from w to v only the lines of the deal c have changed
pub record OnlyDeal (w v : List ℕ) (c : ℕ) : Type 0 where
  pub deals : (d n : ℕ) → d < 32 → (d ≢ c) → deal_lines v d n ≡ deal_lines w d n
  pub queue : (r : Ring) → queue_lines v r ≡ queue_lines w r
  pub behind : behind v ≡ behind w

-- from w to v only the queue has changed
pub record OnlyQueue (w v : List ℕ) : Type 0 where
  pub deals : (d n : ℕ) → d < 32 → deal_lines v d n ≡ deal_lines w d n
  pub behind : behind v ≡ behind w
