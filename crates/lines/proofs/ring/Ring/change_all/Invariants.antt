use Rattle.std.proofs.Common.{◌≡◌, List, ◌++◌, take, drop}
use Rattle.lines.specs.declared.line.Line.{Line}
use Rattle.lines.specs.Changes.{ChangesTo}
use Rattle.lines.specs.Rings.{lines_of}
use Rattle.lines.proofs.ring.Ring.change_all.Given as goal

-- whatever the other lines are changed to, all are changed to that behind what is done; and the other lines are as they were
abbrev pub invariant-loop-i : goal.invariant-loop-i
invariant-loop-i g l = record {
  callable : goal.F-IsAlwaysCallable g l.change;
  done : (zs : List Line) → ChangesTo (goal.F-step g) l.change (drop l.i (lines_of l.initial.words l.self)) zs
      → ChangesTo (goal.F-step g) l.initial.change (lines_of l.initial.words l.self) (take l.i (lines_of l.words l.self) ++ zs);
  rest : drop l.i (lines_of l.words l.self) ≡ drop l.i (lines_of l.initial.words l.self);
}
