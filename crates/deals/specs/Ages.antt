-- The clerks' tables through a turn, and how old an asking can get.
use Rattle.std.specs.Prelude.{◌≡◌, ℕ, ◌<◌, ◌≤◌, Bool, true, false, List, None}
use Rattle.deals.specs.declared.Op.{Op}
use Rattle.deals.specs.declared.Answer.{Answer}
use Rattle.deals.specs.Deals.{State, Quiet, Under, Over, set_clerk, aged}
use Rattle.deals.specs.Tables.{order_of}
use Rattle.deals.specs.LineUps.{TablesHold, Picked}

-- a turn that serves nobody, since nobody counts
abbrev pub IdleTurn : Type 0
IdleTurn = (can : Op → Bool) (room : List ℕ) (s : State) → TablesHold can true room s → Picked can s (order_of room) None → TablesHold can false room s

-- a turn goes by
abbrev pub TurnGoes : Type 0
TurnGoes = (can : Op → Bool) (room : List ℕ) (s : State) → TablesHold can false room s → TablesHold can true room (aged can s)

-- one is told
abbrev pub OneTold : Type 0
OneTold = (can : Op → Bool) (room : List ℕ) (s : State) (c : ℕ) (o : Op) (a : Answer) (g : ℕ) → (s.clerk c).now' ≡ Over o a g → TablesHold can true room s → TablesHold can true room (set_clerk c (s.clerk c).deal Quiet s)

-- so nobody's asking gets older than 32 turns that count
abbrev pub StaysYoung : Type 0
StaysYoung = (can : Op → Bool) (more : Bool) (room : List ℕ) (s : State) (c : ℕ) (o : Op) (g : ℕ) → TablesHold can more room s → c < 32 → (s.clerk c).now' ≡ Under o g → g ≤ 32
