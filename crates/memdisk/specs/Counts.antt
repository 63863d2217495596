-- How many entries are of the page that each of some entries is of.
-- Assumes nothing.
use Rattle.std.specs.Prelude.{◌≡◌, ℕ, ◌+◌, ◌<◌, List, length, take, slice_index}
use Rattle.memdisk.specs.declared.keeping.Entry.{Entry}
use Rattle.memdisk.specs.declared.keeping.Counts.{Counts}
use Rattle.memdisk.specs.Entries.{entries_of, page_of}

-- for how many entries at once
abbrev pub at_once : ℕ
at_once = 128

-- for the entries from start on
pub record Counted (es : List Entry) (start : ℕ) (c : Counts) : Type 0 where
  pub older : (k : ℕ) → k < at_once → start + k < length es → slice_index c.older k ≡ length (entries_of (page_of es (start + k)) (take (start + k) es))
  pub all : (k : ℕ) → k < at_once → start + k < length es → slice_index c.all k ≡ length (entries_of (page_of es (start + k)) es)
