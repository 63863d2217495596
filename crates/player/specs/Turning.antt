-- What a turn leaves, and what waiting for a clerk leaves.
-- Assumes nothing.
use Rattle.std.specs.Prelude.{◌≡◌, ℕ, ◌+◌, ◌<◌, ◌≤◌, Option, Some, None, Result, Ok, Err, IsSomeAnd}
use Rattle.std.specs.Option.{option_map, option_map_or}
use Rattle.deals.specs.declared.Answer.{Answer}
use Rattle.deals.specs.declared.Gone.{Gone}
use Rattle.player.specs.declared.lives.Life.{Life}
use Rattle.player.specs.declared.plays.Player.{Player}
use Rattle.player.specs.Seating.{nobody}
use Rattle.player.specs.Playing.{Desk}

-- there is a life, with so many turns left
abbrev pub HasTurns : {O : Type 0} → ℕ → Option (Life O) → Type 0
HasTurns n o = IsSomeAnd o (λ life. life.turns + n ≤ 16777215)

-- the turns that a life had
abbrev pub turns_of : {O : Type 0} → Option (Life O) → ℕ
turns_of o = option_map_or (λ life. life.turns) o 0

-- the lives that there were, with this one
abbrev pub lives_of : {O : Type 0} → Option (Life O) → ℕ
lives_of o = option_map_or (λ life. life.number) o 0

-- the same life, or none before and none after
abbrev pub Same : {O : Type 0} → Player O → Player O → Type 0
Same p q = option_map (λ life. life.number) q.life ≡ option_map (λ life. life.number) p.life

-- the office of a player, and who sits where
abbrev pub desk_of : {O : Type 0} → Player O → Desk O
desk_of p = record { office = option_map (λ life. life.office) p.life; seats = p.seats }

-- nothing of the life but its turns changes, from t to u; or it ended
abbrev pub Waits : {O : Type 0} → Result (Option Answer) Gone → Player O → Player O → Type 0
Waits (Ok (Some a)) p q = Same p q × (turns_of p.life < turns_of q.life) × (turns_of q.life ≤ turns_of p.life + 64)
Waits (Ok None) p q = Same p q × (turns_of q.life ≡ turns_of p.life + 64)
Waits (Err e) p q = q.seats ≡ nobody
