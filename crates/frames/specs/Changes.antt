-- The frames that may be changed, as clauses see them.
use Rattle.std.specs.Prelude.{◌≡◌}
use Rattle.frames.specs.declared.change.FramesMut.{FramesMut}
use Rattle.frames.specs.Layout.{Cache, cache_of}

abbrev pub cache_in : FramesMut → Cache
cache_in f = cache_of f.part.now

-- both are over the same lent words
abbrev pub SameLoan : FramesMut → FramesMut → Type 0
SameLoan f g = g.part.ghost_name ≡ f.part.ghost_name
