use Rattle.std.proofs.Common.{◌≡◌, ℕ, ◌+◌, ◌<◌, length, get_or, take}
use Rattle.memdisk.specs.Entries.{entries_of}
use Rattle.memdisk.proofs.keeping.counts_from.Given as goal

-- the entries so far are counted
abbrev pub invariant-loop-i : goal.invariant-loop-i
invariant-loop-i l = record {
  all : (k : ℕ) → k < 128 → get_or l.all k 0 ≡ length (entries_of (get_or l.pages k 0) (take l.i l.entries));
  long : length l.older ≡ 128;
  older : (k : ℕ) → k < 128 → l.start + k < l.i → get_or l.older k 0 ≡ length (entries_of (get_or l.pages k 0) (take (l.start + k) l.entries));
}
