use Rattle.std.proofs.Common.{ℕ, Option}
use Rattle.view.specs.Nexts.{Walked, ahead}
use Rattle.view.specs.Room.{says_of}
use Rattle.view.proofs.sight.Sight.walk.Given as goal

abbrev pub invariant-loop-t : goal.invariant-loop-t
invariant-loop-t l = (r : Option ℕ) → Walked (says_of l.self) l.t r → Walked (says_of l.self) l.initial.t r

abbrev pub decreases-loop-t : goal.decreases-loop-t
decreases-loop-t l = ahead l.t
