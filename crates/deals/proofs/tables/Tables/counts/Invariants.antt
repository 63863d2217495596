use Rattle.std.proofs.Common.{◌≡◌, ℕ, ◌<◌, length, get_or}
use Rattle.deals.specs.Tables.{count_at}
use Rattle.deals.proofs.tables.Tables.counts.Given as goal

abbrev pub invariant-loop-c : goal.invariant-loop-c
invariant-loop-c l = record { long : length l.counts ≡ 32; counts : (e : ℕ) → e < l.c → get_or l.counts e 0 ≡ count_at l.self.room.now e }
