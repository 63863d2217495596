-- What a put or a drop tells of a part of the tree.
use Rattle.std.specs.Prelude.{ℕ, Bool, true, false, Option, None}
use Rattle.tree.specs.declared.insert.Stored.{Stored}
use Rattle.tree.specs.declared.insert.Stored.TheVariants.{Changed, Added}
use Rattle.tree.specs.declared.remove.Lost.{Lost}
use Rattle.tree.specs.declared.remove.Lost.TheVariants.{Absent, Taken}

-- the page that the part now shares its entries with, and that page's first key
abbrev pub more_of : Stored → Option (ℕ × ℕ)
more_of Changed = None
more_of (Added more) = more

-- whether the key is new
abbrev pub is_new : Stored → Bool
is_new Changed = false
is_new (Added more) = true

-- whether the part's root is thin
abbrev pub is_thin : Lost → Bool
is_thin Absent = false
is_thin (Taken thin) = thin

-- whether the key was there
abbrev pub was_there : Lost → Bool
was_there Absent = false
was_there (Taken thin) = true
