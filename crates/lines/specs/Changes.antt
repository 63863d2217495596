-- A list of lines that is changed line by line, by something that may remember what it saw.
use Rattle.std.specs.Prelude.{◌≡◌, List, [], ◌∷◌}
use Rattle.lines.specs.declared.line.Line.{Line}

-- in the state f, R may make of each of the lines what stands at its place in the second list
abbrev pub ChangesTo : {F : Type 0} → (F → Line → Line → F → Type 0) → F → List Line → List Line → Type 0
ChangesTo R f [] ys = ys ≡ []
ChangesTo {F} R f (x ∷ xs) ys = (y : Line) × (zs : List Line) × (g : F) × (ys ≡ y ∷ zs) × R f x y g × ChangesTo R g xs zs
