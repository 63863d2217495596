-- What a stage is lent.
-- Assumes nothing.
use Rattle.std.specs.Prelude.{◌≡◌}
use Rattle.player.specs.declared.stage.Stage.{Stage}

-- both are over the same disk, room and sink
abbrev pub SameLoans : {D S : Type 0} → Stage D S → Stage D S → Type 0
SameLoans s t = (t.disk.ghost_name ≡ s.disk.ghost_name) × (t.room.ghost_name ≡ s.room.ghost_name) × (t.out.ghost_name ≡ s.out.ghost_name)
