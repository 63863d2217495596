-- The table of what pages held before, the oldest first.
-- Assumes nothing.
use Rattle.std.specs.Prelude.{ℕ, cond, List, [], ◌∷◌, ◌++◌, length, take, ◌==◌, nat_lt, slice_index_or}
use Rattle.memdisk.specs.declared.keeping.Entry.{Entry}

-- what a page held, by the entries
unfoldable pub entries_of : ℕ → List Entry → List (List ℕ)
entries_of p [] = []
entries_of p (e ∷ es) = cond (e.page == p) (e.words ∷ entries_of p es) (entries_of p es)

-- the page that the entry at a place is of
abbrev pub page_of : List Entry → ℕ → ℕ
page_of es i = (slice_index_or es i (record { page = 0; words = [] })).page

-- One entry more, in a table with room for so many: a full table is emptied first.
unfoldable pub kept : ℕ → Entry → List Entry → List Entry
kept room e es = cond (nat_lt (length es) room) (es ++ (e ∷ [])) (take room (e ∷ []))
