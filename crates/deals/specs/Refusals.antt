-- Why something is turned away.
use Rattle.std.specs.Prelude.{◌≡◌, ℕ, ◌≤◌, Bool, not, T, List, length, Some, None, Option, ◌≢◌}
use Rattle.deals.specs.declared.Op.{Op}
use Rattle.deals.specs.declared.Answer.TheVariants.{No}
use Rattle.deals.specs.declared.refusals.Refusal.{Refusal}
use Rattle.deals.specs.declared.refusals.Refusal.TheVariants.{NoMark, TooLong, NotBuilt}
use Rattle.deals.specs.Deals.{Book, Said, ends, longest, comes_to, told}

-- as clerks are told it
abbrev pub number_of : Refusal → ℕ
number_of NoMark = 4
number_of TooLong = 5
number_of NotBuilt = 9

-- in a deal in which d was said; whatever is in the book
pub data Refuses (can : Op → Bool) (o : Op) (d : List Said) : Option Refusal → Type 0 where
  not_built : T (not (can o)) → Refuses can o d (Some NotBuilt)
  too_long : T (can o) → T (not (ends o)) → longest ≤ length d → Refuses can o d (Some TooLong)
  no_mark : T (comes_to can o d) → ((b : Book) → told o d b ≡ No (number_of NoMark)) → Refuses can o d (Some NoMark)
  goes_on : T (comes_to can o d) → ((b : Book) (n : ℕ) → told o d b ≢ No n) → Refuses can o d None
