use Rattle.std.proofs.Common.{◌≡◌, ℕ, ◌+◌, ◌<◌, length, get_or}
use Rattle.memdisk.specs.Entries.{page_of}
use Rattle.memdisk.proofs.keeping.pages_from.Given as goal

abbrev pub invariant-loop-k : goal.invariant-loop-k
invariant-loop-k l = record {
  long : length l.pages ≡ 128;
  written : (k : ℕ) → k < l.k → l.start + k < length l.entries → get_or l.pages k 0 ≡ page_of l.entries (l.start + k);
}
