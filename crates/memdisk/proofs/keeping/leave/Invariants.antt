use Rattle.std.proofs.Common.{◌≡◌, ℕ, ◌-◌, ◌%◌, ◌<◌, ◌∷◌, get_or, take}
use Rattle.pages.specs.Pages.{page_at, pages_in}
use Rattle.memdisk.specs.Entries.{entries_of}
use Rattle.memdisk.specs.Counts.{Counted}
use Rattle.memdisk.specs.Memory.{picked}
use Rattle.memdisk.proofs.keeping.leave.Given as goal

-- of the older entries the choice has been made, and the next are counted unless new counts come first
abbrev pub invariant-loop-i : goal.invariant-loop-i
invariant-loop-i l =
    let ws = l.initial.shown in
    record {
      chosen : (p : ℕ) → p < pages_in ws → page_at l.shown p ≡ get_or (page_at ws p ∷ entries_of p (take l.i l.entries)) (picked l.choice l.entries p) (page_at ws p);
      counted : (l.i % 128 ≡ 0 → ⊥) → Counted l.entries (l.i - l.i % 128) l.counts;
    }
