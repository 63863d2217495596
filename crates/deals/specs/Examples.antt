-- Worked examples of the rules, as one table that is computed.
-- Assumes nothing.
use Rattle.std.specs.Prelude.{ℕ, Bool, true, not, ◌&&◌, T, List, [], ◌∷◌}
use Rattle.deals.specs.declared.Op.{Op}
use Rattle.deals.specs.declared.Op.TheVariants.{Get, Put, Drop, Next, Mark, Back, Commit}
use Rattle.deals.specs.declared.Answer.{Answer}
use Rattle.deals.specs.declared.Answer.TheVariants.{Done, Missing, Word, Pair, Point, No}
use Rattle.deals.specs.Deals.{Two, Book, Said, agrees, barred, told}

-- what an example says, of a book and a deal that was told the answers given
pub data Example : Type 0 where
  -- a deal on this book is told just this
  Tells : Book → List Said → Example
  -- it isn't told this
  Denies : Book → List Said → Example
  -- with a deal that was told this, another's asking has to wait
  Bars : Book → List Said → Op → Example
  -- it needn't wait
  Lets : Book → List Said → Op → Example

abbrev pub holds : Example → Bool
holds (Tells b ss) = agrees ss b []
holds (Denies b ss) = not (agrees ss b [])
holds (Bars b ss o) = agrees ss b [] && barred o (told o [] b) ss
holds (Lets b ss o) = agrees ss b [] && not (barred o (told o [] b) ss)

abbrev pub all_hold : List Example → Bool
all_hold [] = true
all_hold (e ∷ es) = holds e && all_hold es

abbrev pub pair : ℕ → ℕ → Two
pair k x = record { key = k; word = x }

abbrev pub said : Op → Answer → Said
said o a = record { op = o; told = a }

-- 5 has the word 1, and 9 the word 2
abbrev pub five_and_nine : Book
five_and_nine = pair 5 1 ∷ pair 9 2 ∷ []

abbrev pub next_from_five : List Said
next_from_five = said (Next 5) (Pair 9 2) ∷ []

abbrev pub examples : List Example
examples =
    Tells [] (said (Put 5 1) Done ∷ said (Get 5) (Word 1) ∷ said (Drop 5) (Word 1) ∷ said (Get 5) Missing ∷ said Commit Done ∷ []) ∷
    Denies [] (said (Put 5 1) Done ∷ said (Get 5) (Word 2) ∷ []) ∷
    Denies [] (said (Put 5 1) Done ∷ said (Drop 5) (Word 1) ∷ said (Get 5) (Word 1) ∷ []) ∷
    Tells []
    (said (Put 5 1) Done ∷ said Mark (Point 0) ∷ said (Put 5 2) Done ∷ said Mark (Point 1) ∷ said (Back 0) Done ∷ said (Get 5) (Word 1) ∷ said (Back 1) (No 4) ∷ []) ∷
    Denies [] (said (Put 5 1) Done ∷ said Mark (Point 0) ∷ said (Put 5 2) Done ∷ said (Back 0) Done ∷ said (Get 5) (Word 2) ∷ []) ∷
    Bars five_and_nine next_from_five (Put 7 0) ∷
    Bars five_and_nine next_from_five (Put 9 0) ∷
    Lets five_and_nine next_from_five (Put 10 0) ∷
    Lets five_and_nine next_from_five (Put 5 0) ∷
    Lets five_and_nine next_from_five (Get 9) ∷ []

abbrev pub ExamplesHold : Type 0
ExamplesHold = T (all_hold examples)
