-- A deal whose lines stand in the room, on a book of pairs, as the tree's after the queue.
use Rattle.std.specs.Prelude.{◌≡◌, ℕ, List, []}
use Rattle.node.specs.Pairs.{find, above}
use Rattle.view.specs.Writes.{with_lines, Rising}
use Rattle.deals.specs.declared.Op.TheVariants.{Get, Drop, Next}
use Rattle.deals.specs.Deals.{Said, told, leaves}
use Rattle.deals.specs.Tables.{Keeps, lines_in}
use Rattle.deals.specs.Paired.{book_of, as_word, as_pair}

-- the pairs u after the lines of the deal of clerk c
abbrev pub seen : List (ℕ × ℕ) → List ℕ → ℕ → List (ℕ × ℕ)
seen u room c = with_lines u (lines_in room c)

abbrev pub GetTold : Type 0
GetTold = (u : List (ℕ × ℕ)) (room : List ℕ) (c k : ℕ) (ss : List Said) → Rising u → Keeps room c ss → told (Get k) ss (book_of u) ≡ as_word (find k (seen u room c))

abbrev pub DropTold : Type 0
DropTold = (u : List (ℕ × ℕ)) (room : List ℕ) (c k : ℕ) (ss : List Said) → Rising u → Keeps room c ss → told (Drop k) ss (book_of u) ≡ as_word (find k (seen u room c))

abbrev pub NextTold : Type 0
NextTold = (u : List (ℕ × ℕ)) (room : List ℕ) (c k : ℕ) (ss : List Said) → Rising u → Keeps room c ss → told (Next k) ss (book_of u) ≡ as_pair (above k (seen u room c))

-- what the deal leaves, if it's made
abbrev pub LeavesTold : Type 0
LeavesTold = (u : List (ℕ × ℕ)) (room : List ℕ) (c : ℕ) (ss : List Said) → Rising u → Keeps room c ss → leaves ss (book_of u) [] ≡ book_of (seen u room c)
