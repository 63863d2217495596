-- What the words of a disk in memory mean.
-- Assumes nothing.
use Rattle.std.specs.Prelude.{◌≡◌, ℕ, suc, ◌-◌, ◌%◌, ◌<◌, Bool, true, false, cond, List, [], ◌∷◌, ◌++◌, length, replicate, Some, None, Option, Ok, Err, Result, is_ok, is_none, unwrap_or, ◌==◌, nat_lt, slice_index_or}
use Rattle.deals.specs.Disk.{Disk, Within}
use Rattle.pages.specs.Pages.{page_at, pages_in}
use Rattle.memdisk.specs.declared.MemDisk.{MemDisk}
use Rattle.memdisk.specs.declared.asking.Outage.{Outage}
use Rattle.memdisk.specs.declared.asking.Outage.TheVariants.{Cut, Dark}
use Rattle.memdisk.specs.declared.cuts.Due.{Due}
use Rattle.memdisk.specs.declared.keeping.Entry.{Entry}
use Rattle.memdisk.specs.Entries.{entries_of, kept}
use Rattle.memdisk.specs.Mixing.{mix_of}
use Rattle.memdisk.specs.Dues.{later, coming}

-- how many entries the table has room for, and those that it has
abbrev pub room_of : MemDisk → ℕ
room_of m = m.saved.room

abbrev pub table_in : MemDisk → List Entry
table_in m = m.saved.items

-- how many cuts can be set, and those that are
abbrev pub cut_room : MemDisk → ℕ
cut_room m = m.due.room

abbrev pub dues_in : MemDisk → List Due
dues_in m = m.due.items

-- whether the power is on, and the choice of the cut that put it out
abbrev pub on_of : MemDisk → Bool
on_of m = is_none m.cut

abbrev pub choice_of : MemDisk → ℕ
choice_of m = unwrap_or m.cut 0

-- what a page shows, and then what it held before, the oldest first; a page that isn't there is nothing
abbrev pub may_of : List ℕ → List Entry → ℕ → List (List ℕ)
may_of ws es p = cond (nat_lt p (pages_in ws)) (page_at ws p ∷ entries_of p es) []

abbrev pub disk_of : MemDisk → Disk
disk_of m = record { pages = pages_in m.shown.now; shown = page_at m.shown.now; may = may_of m.shown.now (table_in m); on = on_of m; left = m.left }

-- nothing of the pages and their entries changes
pub record SamePages (m n : MemDisk) : Type 0 where
  pub shown : n.shown.now ≡ m.shown.now
  pub saved : n.saved ≡ m.saved

-- nothing of the power changes
pub record SamePower (m n : MemDisk) : Type 0 where
  pub cut : n.cut ≡ m.cut
  pub left : n.left ≡ m.left
  pub due : n.due ≡ m.due

-- AN ASKING. It is served where the power is on and no cut comes with it.
abbrev pub Asked : Type 0
Asked = Result (Unit {0}) Outage

abbrev pub asked_of : Bool → Option ℕ → Asked
asked_of false o = Err Dark
asked_of true None = Ok tt
asked_of true (Some s) = Err Cut

pub record Counts (m : MemDisk) (served : Bool) (n : MemDisk) : Type 0 where
  pub told : served ≡ is_ok (asked_of (on_of m) (coming (dues_in m)))
  pub on : on_of n ≡ served
  pub cut : n.cut ≡ cond (on_of m) (coming (dues_in m)) m.cut
  pub dues : dues_in n ≡ cond (on_of m) (later (dues_in m)) (dues_in m)

pub record Asking (m : MemDisk) (r : Asked) (n : MemDisk) : Type 0 where
  pub told : r ≡ asked_of (on_of m) (coming (dues_in m))
  pub counts : Counts m (is_ok r) n
  pub left : n.left ≡ m.left - 1
  pub pages : SamePages m n

-- one entry more
pub record Keeping (m : MemDisk) (e : Entry) (n : MemDisk) : Type 0 where
  pub table : table_in n ≡ kept (room_of m) e (table_in m)
  pub shown : n.shown.now ≡ m.shown.now
  pub power : SamePower m n

-- WHAT A CUT LEAVES of a page: what it shows, or one of its entries, by the choice.
abbrev pub picked : ℕ → List Entry → ℕ → ℕ
picked s es p = mix_of s p % suc (length (entries_of p es))

abbrev pub chosen : ℕ → List ℕ → List Entry → ℕ → List ℕ
chosen s ws es p = slice_index_or (page_at ws p ∷ entries_of p es) (picked s es p) (page_at ws p)

-- A DISK THAT IS NEW
pub record Fresh (ws : List ℕ) (m : MemDisk) : Type 0 where
  pub pages : (disk_of m).pages ≡ pages_in ws
  pub zeros : (p : ℕ) → p < pages_in ws → (disk_of m).shown p ≡ replicate 512 0
  pub lasts : Within (disk_of m).may (λ p. replicate 512 0 ∷ [])
  pub on : on_of m ≡ true
  pub left : m.left ≡ 0
  pub dues : dues_in m ≡ []

-- A CUT THAT IS SET
abbrev pub with_cut : ℕ → Due → List Due → List Due
with_cut room d ds = cond (d.asks == 0) ds (cond (nat_lt (length ds) room) (ds ++ (d ∷ [])) ds)

abbrev pub unlit : Disk → Disk
unlit d = record { pages = d.pages; shown = d.shown; may = d.may; on = false; left = d.left }

-- THE POWER COMES BACK
pub record Backs (m n : MemDisk) : Type 0 where
  pub each : (p : ℕ) → p < (disk_of m).pages → (disk_of n).shown p ≡ chosen (choice_of m) m.shown.now (table_in m) p
  pub left : n.left ≡ m.left
  pub dues : dues_in n ≡ dues_in m
