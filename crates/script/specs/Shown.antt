-- The text of what is printed, as bytes.
-- Assumes nothing.
use Rattle.std.specs.Prelude.{ℕ, List, ◌∷◌, ◌++◌, codes, decimal}
use Rattle.deals.specs.declared.Answer.{Answer}
use Rattle.deals.specs.declared.Answer.TheVariants.{Done, Missing, Word, Pair, Point, No, Full, Clash}
use Rattle.script.specs.declared.Output.{Output}
use Rattle.script.specs.declared.Output.TheVariants.{Told, Busy, BadLine, Cut, Entry, End}
use Rattle.script.specs.Text.{spaced}

abbrev pub answer_text : Answer → List ℕ
answer_text Done = codes "done"
answer_text Missing = codes "missing"
answer_text (Word x) = codes "word" ++ spaced x
answer_text (Pair k x) = codes "pair" ++ (spaced k ++ spaced x)
answer_text (Point j) = codes "point" ++ spaced j
answer_text (No k) = codes "no" ++ spaced k
answer_text Full = codes "full"
answer_text Clash = codes "clash"

abbrev pub output_text : Output → List ℕ
output_text (Told who a) = decimal who ++ (32 ∷ answer_text a)
output_text (Busy who) = decimal who ++ codes " busy"
output_text (BadLine n) = codes "line" ++ (spaced n ++ codes "?")
output_text Cut = codes "cut"
output_text (Entry k x) = decimal k ++ spaced x
output_text End = codes "end"
