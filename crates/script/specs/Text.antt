-- The text of a command, as bytes.
-- Assumes nothing.
use Rattle.std.specs.Prelude.{◌≡◌, ℕ, ◌^◌, ◌<◌, List, ◌∷◌, ◌++◌, Some, codes, decimal, Option}
use Rattle.deals.specs.declared.Op.{Op}
use Rattle.deals.specs.declared.Op.TheVariants.{Get, Put, Drop, Next, Mark, Back, Commit, Undo}
use Rattle.script.specs.declared.Command.{Command}
use Rattle.script.specs.declared.Command.TheVariants.{Ask, Turn, Cut, Book}

-- a space, and then a number
abbrev pub spaced : ℕ → List ℕ
spaced n = 32 ∷ decimal n

abbrev pub op_text : Op → List ℕ
op_text (Get k) = codes "get" ++ spaced k
op_text (Put k x) = codes "put" ++ (spaced k ++ spaced x)
op_text (Drop k) = codes "drop" ++ spaced k
op_text (Next k) = codes "next" ++ spaced k
op_text Mark = codes "mark"
op_text (Back j) = codes "back" ++ spaced j
op_text Commit = codes "commit"
op_text Undo = codes "undo"

abbrev pub text_of : Command → List ℕ
text_of (Ask who o) = decimal who ++ (32 ∷ op_text o)
text_of (Turn n) = codes "turn" ++ spaced n
text_of (Cut n s) = codes "cut" ++ (spaced n ++ spaced s)
text_of Book = codes "book"

-- the numbers are in range
abbrev pub OpFits : Op → Type 0
OpFits (Get k) = k < 2 ^ 64
OpFits (Put k x) = (k < 2 ^ 64) × (x < 2 ^ 64)
OpFits (Drop k) = k < 2 ^ 64
OpFits (Next k) = k < 2 ^ 64
OpFits Mark = Unit {0}
OpFits (Back j) = j < 2 ^ 32
OpFits Commit = Unit {0}
OpFits Undo = Unit {0}

abbrev pub Fits : Command → Type 0
Fits (Ask who o) = (who < 32) × OpFits o
Fits (Turn n) = n < 16777216
Fits (Cut n s) = (n < 2 ^ 64) × (s < 2 ^ 64)
Fits Book = Unit {0}

-- r is what prints as the text, if anything within range does
pub record Reads {A : Type 0} (Good : A → Type 0) (print : A → List ℕ) (text : List ℕ) (r : Option A) : Type 0 where
  pub prints : (a : A) → r ≡ Some a → Good a × (text ≡ print a)
  pub reads : (a : A) → Good a → text ≡ print a → r ≡ Some a
