-- The columns of the table that have a word for each frame.
use Rattle.std.specs.Prelude.{ℕ, zero, suc, Bool, ◌&&◌, ◌==◌, List, Some, None, Option}
use Rattle.frames.specs.declared.layout.Column.{Column}
use Rattle.frames.specs.declared.layout.Column.TheVariants.{Pages, Marks, Pins}
use Rattle.frames.specs.Layout.{Cache, with_pages, with_marks, with_pins}
use Rattle.frames.specs.Frames.{mark_in, pins_in}

-- where a column begins in a part
abbrev pub start_of : Column → ℕ
start_of Pages = 61440
start_of Marks = 61560
start_of Pins = 61680

abbrev pub column_in : Column → Cache → List ℕ
column_in Pages c = c.pages
column_in Marks c = c.marks
column_in Pins c = c.pins

abbrev pub with_column : Column → Cache → List ℕ → Cache
with_column Pages c w = with_pages c w
with_column Marks c w = with_marks c w
with_column Pins c w = with_pins c w

-- the place in the batch that a mark tells
abbrev pub place_of : ℕ → Option ℕ
place_of zero = None
place_of (suc k) = Some k

-- neither changed nor pinned, as a test
abbrev pub is_idle : Cache → ℕ → Bool
is_idle c i = (mark_in c i == 0) && (pins_in c i == 0)
