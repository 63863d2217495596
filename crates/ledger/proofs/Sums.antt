-- The sums of a commit: how often it asks at most, and that work on the queue leaves them.
use Rattle.std.proofs.Common.{◌≡◌, ℕ, ◌+◌, ◌≤◌, Bool, true, false, cond, List, [], ◌∷◌, length, map, Option, refl, arith}
use Rattle.lines.specs.declared.line.Line.{Line}
use Rattle.lines.specs.declared.line.Line.TheVariants.{Cleared}
use Rattle.store.specs.Medium.{Medium}
use Rattle.store.specs.Store.{cache}
use Rattle.view.specs.declared.kept.Change.{Change}
use Rattle.view.specs.Upkeep.{kept_by}
use Rattle.view.specs.Writes.{with_lines}
use Rattle.ledger.specs.declared.Ledger.{Ledger}
use Rattle.ledger.specs.Ledger.{Pairs, part_of, Stands}
use Rattle.ledger.specs.Commits.{put_of, puts_in, takes_along, commit_asks}
use Rattle.ledger.proofs.Counting.{length_after}

at_most : (b : Bool) (n : ℕ) → n ≤ 64 → cond b n 0 ≤ 64
at_most true n l = l
at_most false n l = omega arith

pub few_asks : (p : ℕ) (m : Medium) (room : List ℕ) (l : Ledger) (b : Pairs) → Stands p m room l b → commit_asks room l ≤ 76
few_asks p m room l b s = omega (arith, at_most (takes_along l.store) (cache (part_of room)).count s.intact.table.table.few)

-- the queue's front goes into the tree
pub work_pairs : (t : Pairs) (l : Line) (ls : List Line) → length (with_lines t (l ∷ [])) + puts_in ls ≤ length t + puts_in (l ∷ ls)
work_pairs t l ls = omega (arith, length_after t (l ∷ []))

-- and what is kept of the tree is put right
put_kept : (h : Option Change) (l : Line) → put_of (kept_by h l) ≡ put_of l
put_kept h (Cleared k s) = refl
put_kept h l = refl

pub puts_kept : (h : Option Change) (ls : List Line) → puts_in (map (kept_by h) ls) ≡ puts_in ls
puts_kept h [] = refl
puts_kept h (l ∷ ls) = omega (arith, put_kept h l, puts_kept h ls)
