-- A deal whose lines stand in the room, on the book that the queue makes of the tree.
use Rattle.std.specs.Prelude.{◌≡◌, ℕ, List, []}
use Rattle.node.specs.Pairs.{find, above}
use Rattle.lines.specs.declared.ring.Ring.{Ring}
use Rattle.lines.specs.Tables.{queue_lines}
use Rattle.view.specs.Writes.{with_lines, Rising}
use Rattle.deals.specs.declared.Op.TheVariants.{Get, Drop, Next}
use Rattle.deals.specs.Deals.{Said, told, leaves}
use Rattle.deals.specs.Tables.{Keeps}
use Rattle.deals.specs.Paired.{book_of, as_word, as_pair}
use Rattle.deals.specs.Told.{seen}

-- the tree's pairs after the queue
abbrev pub queued : List (ℕ × ℕ) → List ℕ → Ring → List (ℕ × ℕ)
queued t room r = with_lines t (queue_lines room r)

-- and after the lines of the deal of clerk c
abbrev pub seen_queued : List (ℕ × ℕ) → List ℕ → Ring → ℕ → List (ℕ × ℕ)
seen_queued t room r c = seen (queued t room r) room c

abbrev pub GetQueued : Type 0
GetQueued = (t : List (ℕ × ℕ)) (room : List ℕ) (r : Ring) (c k : ℕ) (ss : List Said) → Rising t → Keeps room c ss → told (Get k) ss (book_of (queued t room r)) ≡ as_word (find k (seen_queued t room r c))

abbrev pub DropQueued : Type 0
DropQueued = (t : List (ℕ × ℕ)) (room : List ℕ) (r : Ring) (c k : ℕ) (ss : List Said) → Rising t → Keeps room c ss → told (Drop k) ss (book_of (queued t room r)) ≡ as_word (find k (seen_queued t room r c))

abbrev pub NextQueued : Type 0
NextQueued = (t : List (ℕ × ℕ)) (room : List ℕ) (r : Ring) (c k : ℕ) (ss : List Said) → Rising t → Keeps room c ss → told (Next k) ss (book_of (queued t room r)) ≡ as_pair (above k (seen_queued t room r c))

-- what the deal leaves, if it's made
abbrev pub LeavesQueued : Type 0
LeavesQueued = (t : List (ℕ × ℕ)) (room : List ℕ) (r : Ring) (c : ℕ) (ss : List Said) → Rising t → Keeps room c ss → leaves ss (book_of (queued t room r)) [] ≡ book_of (seen_queued t room r c)
