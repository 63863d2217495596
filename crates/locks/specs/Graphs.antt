-- Who waits for whom, and rings.
use Rattle.std.specs.Prelude.{ℕ, zero, suc, Bool, not, ◌&&◌, ◌||◌, slice_index_or}
use Rattle.locks.specs.declared.graph.WaitGraph.{WaitGraph}
use Rattle.locks.specs.Sets.{is_in, some_of}

-- d waits for e
unfoldable pub waits_in : WaitGraph → ℕ → ℕ → Bool
waits_in g d e = is_in (slice_index_or g.sets d (record { bits = 0 })) e

-- those of a set, and all whom one of it below n waits for
unfoldable pub spread_by : ℕ → (ℕ → ℕ → Bool) → (ℕ → Bool) → ℕ → Bool
spread_by zero w s e = s e
spread_by (suc n) w s e = spread_by n w s e || (s n && w n e)

abbrev pub spread : (ℕ → ℕ → Bool) → (ℕ → Bool) → ℕ → Bool
spread w s = spread_by 32 w s

unfoldable pub reached : ℕ → (ℕ → ℕ → Bool) → (ℕ → Bool) → ℕ → Bool
reached zero w s = s
reached (suc n) w s = reached n w (spread w s)

-- c waits, by way of any others, for itself
abbrev pub ring_by : (ℕ → ℕ → Bool) → ℕ → Bool
ring_by w c = reached 32 w (w c) c

-- who waits for nobody gets on, and who is on a ring
unfoldable pub counts_by : (ℕ → ℕ → Bool) → ℕ → Bool
counts_by w c = not (some_of 32 (w c)) || ring_by w c
