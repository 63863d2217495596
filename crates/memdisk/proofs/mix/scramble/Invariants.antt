use Rattle.std.proofs.Common.{◌≡◌, ℕ, ◌<◌, get_or}
use Rattle.memdisk.specs.Mixing.{mix_of}
use Rattle.memdisk.proofs.mix.scramble.Given as goal

abbrev pub invariant-loop-i : goal.invariant-loop-i
invariant-loop-i l = (k : ℕ) → k < l.i → get_or l.room k 0 ≡ mix_of l.choice k
