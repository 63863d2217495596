-- Lines that are in the way, one after the other.
use Rattle.std.proofs.Common.{◌≡◌, Bool, true, false, ◌||◌, List, [], ◌∷◌, ◌++◌, refl, ap, ◌∙◌}
use Rattle.std.specs.List.{list_any}
use Rattle.lines.specs.declared.line.Line.{Line}
use Rattle.locks.specs.declared.way.Want.{Want}
use Rattle.locks.specs.Bars.{bars, some_bars}

pub or_none : (x : Bool) → (x || false) ≡ x
or_none true = refl
or_none false = refl

pub or_assoc : (x y z : Bool) → (x || (y || z)) ≡ ((x || y) || z)
or_assoc true y z = refl
or_assoc false y z = refl

-- one more line at the end
pub bars_push : (w : Want) (ls : List Line) (l : Line) → some_bars w (ls ++ l ∷ []) ≡ (some_bars w ls || bars w l)
unfolding some_bars
bars_push w [] l = or_none (bars w l)
bars_push w (x ∷ ls) l = ap (λ y. bars w x || y) (bars_push w ls l) ∙ or_assoc (bars w x) (some_bars w ls) (bars w l)

-- the answer of `any`
pub any_bars : (w : Want) (ls : List Line) → list_any (bars w) ls ≡ some_bars w ls
unfolding some_bars
any_bars w [] = refl
any_bars w (l ∷ ls) = ap (λ y. bars w l || y) (any_bars w ls)
