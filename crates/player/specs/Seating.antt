-- Who has a deal, and who waits for an answer.
-- Assumes nothing.
use Rattle.std.specs.Prelude.{◌≡◌, ℕ, ◌<◌, Option, Some, None, Bool, true, false, cond, List, replicate, nat_lt, slice_index_or, slice_set}
use Rattle.deals.specs.declared.Op.{Op}
use Rattle.deals.specs.Deals.{ends}
use Rattle.deals.specs.declared.Answer.{Answer}
use Rattle.deals.specs.declared.Answer.TheVariants.{Done, Clash}
use Rattle.player.specs.declared.seats.Seat.{Seat}
use Rattle.player.specs.declared.seats.Seat.TheVariants.{Free, Dealing, Asked}

abbrev pub is_free : Seat → Bool
is_free Free = true
is_free s = false

abbrev pub is_dealing : Seat → Bool
is_dealing Dealing = true
is_dealing s = false

abbrev pub is_asked : Seat → Bool
is_asked (Asked e) = true
is_asked s = false

-- what was under way is done
abbrev pub after_done : Seat → Seat
after_done (Asked e) = cond e Free Dealing
after_done s = Dealing

abbrev pub after_answer : Seat → Answer → Seat
after_answer s Done = after_done s
after_answer s Clash = Free
after_answer s a = Dealing

abbrev pub asked : ℕ → Op → List Seat → List Seat
asked who o seats = slice_set seats who (Asked (ends o))

abbrev pub told : ℕ → Answer → List Seat → List Seat
told who a seats = cond (nat_lt who 32) (slice_set seats who (after_answer (slice_index_or seats who Free) a)) seats

abbrev pub nobody : List Seat
nobody = replicate 32 Free

-- the first clerk who has no deal and nothing under way; none where there is no such clerk
abbrev pub FirstFree : List Seat → Option ℕ → Type 0
FirstFree seats None = (k : ℕ) → k < 32 → is_free (slice_index_or seats k Free) ≡ false
FirstFree seats (Some w) = (w < 32) × (is_free (slice_index_or seats w Free) ≡ true) × ((k : ℕ) → k < w → is_free (slice_index_or seats k Free) ≡ false)
