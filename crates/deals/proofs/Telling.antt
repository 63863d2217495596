-- What a deal is told is what it sees.
use Rattle.std.proofs.Common.{◌≡◌, ℕ, List, [], ◌∷◌, refl, ap, ◌∙◌}
use Rattle.node.specs.Pairs as P
use Rattle.lines.specs.declared.line.Line.{Line}
use Rattle.lines.specs.declared.line.Line.TheVariants.{Idle, Wrote, Cleared, Stale, Read, Scanned, Marked}
use Rattle.lines.specs.declared.ring.Ring.{Ring}
use Rattle.lines.specs.Tables.{queue_lines}
use Rattle.view.specs.Writes.{with_lines, Rising}
use Rattle.view.proofs.Done.{rising_lines}
use Rattle.deals.specs.Deals.{Said, leaves, step}
use Rattle.deals.specs.Books.{Up, find, next_in}
use Rattle.deals.specs.Writes.{writes_in}
use Rattle.deals.specs.Tables.{Keeps, lines_in}
use Rattle.deals.proofs.Effects.{table_leaves}
use Rattle.deals.specs.Paired.{book_of, with_writes}
use Rattle.deals.specs.Told.{seen, GetTold, DropTold, NextTold, LeavesTold}
use Rattle.deals.specs.Queued.{queued, GetQueued, DropQueued, NextQueued, LeavesQueued}
use Rattle.deals.proofs.Pairing.{rising_up, find_is, next_is, onto_is}

-- the writes of lines, done to pairs
lines_done : (ls : List Line) (t : List (ℕ × ℕ)) → with_writes t (writes_in ls) ≡ with_lines t ls
unfolding writes_in
lines_done [] t = refl
lines_done (Idle ∷ ls) t = lines_done ls t
lines_done (Wrote k x ∷ ls) t = lines_done ls (P.put_in k x t)
lines_done (Cleared k s ∷ ls) t = lines_done ls (P.drop_in k t)
lines_done (Stale k ∷ ls) t = lines_done ls t
lines_done (Read k ∷ ls) t = lines_done ls t
lines_done (Scanned k q ∷ ls) t = lines_done ls t
lines_done (Marked ∷ ls) t = lines_done ls t

pub up_book : (t : List (ℕ × ℕ)) → Rising t → Up 0 (book_of t)
up_book t u = rising_up 0 u.0 t u.1

module _ (t : List (ℕ × ℕ)) (room : List ℕ) (c : ℕ) (ss : List Said) (u : Rising t) (i : Keeps room c ss) where
  left : leaves ss (book_of t) [] ≡ book_of (seen t room c)
  left = table_leaves room c ss (book_of t) i ∙ onto_is t (writes_in (lines_in room c)) (up_book t u) ∙ ap book_of (lines_done (lines_in room c) t)

  after_deal : Up 0 (book_of (seen t room c))
  after_deal = up_book (seen t room c) (rising_lines t (lines_in room c) u)

pub leaves_told : LeavesTold
leaves_told t room c ss u i = left t room c ss u i

pub get_told : GetTold
unfolding step
get_told t room c k ss u i = ap (find k) (left t room c ss u i) ∙ find_is k (seen t room c) (after_deal t room c ss u i)

pub drop_told : DropTold
unfolding step
drop_told t room c k ss u i = ap (find k) (left t room c ss u i) ∙ find_is k (seen t room c) (after_deal t room c ss u i)

pub next_told : NextTold
unfolding step
next_told t room c k ss u i = ap (next_in k) (left t room c ss u i) ∙ next_is k (seen t room c)

-- THE TREE'S PAIRS AFTER THE QUEUE
after_queue : (t : List (ℕ × ℕ)) (room : List ℕ) (r : Ring) → Rising t → Rising (queued t room r)
after_queue t room r u = rising_lines t (queue_lines room r) u

pub get_queued : GetQueued
get_queued t room r c k ss u i = get_told (queued t room r) room c k ss (after_queue t room r u) i

pub drop_queued : DropQueued
drop_queued t room r c k ss u i = drop_told (queued t room r) room c k ss (after_queue t room r u) i

pub next_queued : NextQueued
next_queued t room r c k ss u i = next_told (queued t room r) room c k ss (after_queue t room r u) i

pub leaves_queued : LeavesQueued
leaves_queued t room r c ss u i = leaves_told (queued t room r) room c ss (after_queue t room r u) i
