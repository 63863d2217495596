-- A deal and the queue in the room.
use Rattle.std.specs.Prelude.{◌≡◌, ℕ, ◌<◌, ◌≤◌, List, [], ◌∷◌, map, length, Option, slice_index}
use Rattle.lines.specs.declared.line.Line.{Line}
use Rattle.lines.specs.declared.ring.Ring.{Ring}
use Rattle.lines.specs.Tables.{deal_lines, queue_lines, DealIn, QueueIn}
use Rattle.view.specs.declared.seen.Seen.{Seen}
use Rattle.view.specs.declared.seen.View.{View}
use Rattle.view.specs.Sight.{says}
use Rattle.view.specs.Writes.{with_lines}
use Rattle.view.specs.Upkeep.{change_by, kept_by}

abbrev pub own_of : List ℕ → View → List Line
own_of w v = deal_lines w v.deal v.count

abbrev pub queue_of : List ℕ → View → List Line
queue_of w v = queue_lines w v.queue

pub record Stands (w : List ℕ) (v : View) : Type 0 where
  pub own : DealIn w v.deal v.count
  pub queue : QueueIn w v.queue

-- the lines that a deal sees: the queue's and its own
pub record Said : Type 0 where
  pub queue : List Line
  pub own : List Line

abbrev pub said_in : List ℕ → View → Said
said_in w v = record { queue = queue_of w v; own = own_of w v }

-- what they say of each key
abbrev pub says_of : Said → ℕ → Option Seen
says_of s j = says s.queue s.own j

-- THE PAIRS AS A DEAL SEES THEM: the tree's, after the queue, after its own lines
abbrev pub pairs_seen : List (ℕ × ℕ) → List ℕ → View → List (ℕ × ℕ)
pairs_seen t w v = with_lines (with_lines t (queue_of w v)) (own_of w v)

-- how many lines each deal has
pub record Counts (ns : List ℕ) : Type 0 where
  pub deals : length ns ≡ 32
  pub few : (c : ℕ) → c < 32 → slice_index ns c ≤ 1024

-- the front of the queue, of w and r, has gone into the tree t: u, and v and s, are what is left
pub record Applied (t u : List (ℕ × ℕ)) (w v ns : List ℕ) (r s : Ring) : Type 0 where
  pub front : Line
  pub rest : List Line
  pub was : queue_lines w r ≡ front ∷ rest
  pub tree : u ≡ with_lines t (front ∷ [])
  pub queue : queue_lines v s ≡ map (kept_by (change_by front)) rest
  pub deals : (c : ℕ) → c < 32 → deal_lines v c (slice_index ns c) ≡ map (kept_by (change_by front)) (deal_lines w c (slice_index ns c))
