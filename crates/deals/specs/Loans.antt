-- What stays of the room in which the tables are changed.
use Rattle.std.specs.Prelude.{◌≡◌}
use Rattle.deals.specs.declared.tables.TablesMut.{TablesMut}
use Rattle.deals.specs.Tables.{rest_of}

-- both are over the same lent room
abbrev pub SameRoom : TablesMut → TablesMut → Type 0
SameRoom s t = t.room.ghost_name ≡ s.room.ghost_name

-- in the same room, only the clerks' tables have changed
pub record OnlyTables (s t : TablesMut) : Type 0 where
  pub lent : SameRoom s t
  pub rest : rest_of t.room.now ≡ rest_of s.room.now
