-- The disk of the statements, as the store's medium.
-- Assumes nothing.
use Rattle.deals.specs.Disk.{Disk}
use Rattle.store.specs.Medium.{Medium}

abbrev pub medium_of : Disk → Medium
medium_of d = record { pages = d.pages; shown = d.shown; may = d.may; on = d.on; left = d.left }
