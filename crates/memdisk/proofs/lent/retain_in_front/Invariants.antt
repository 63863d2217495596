use Rattle.std.proofs.Common.{◌≤◌}
use Rattle.std.specs.Fn.{CalledAtMut}
use Rattle.std.proofs.RetainMut.{RetainMutInvariant}
use Rattle.memdisk.proofs.lent.retain_in_front.Given as goal

abbrev pub invariant-loop-i : goal.invariant-loop-i
invariant-loop-i g l = (l.kept ≤ l.i) × goal.F-IsAlwaysCallable g l.keep
    × RetainMutInvariant (CalledAtMut g.F.FnMut) l.initial.keep l.initial.items l.keep l.items l.kept l.i
