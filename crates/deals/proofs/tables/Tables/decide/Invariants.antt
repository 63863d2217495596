use Rattle.std.proofs.Common.{ℕ, ◌<◌, true, get_or, None}
use Rattle.deals.specs.Deals.{State}
use Rattle.deals.specs.Promise.{can}
use Rattle.deals.specs.Tables.{order_of}
use Rattle.deals.specs.LineUps.{TablesHold, FindsFor, GraphTo}
use Rattle.deals.proofs.tables.Tables.decide.Given as goal

abbrev pub invariant-loop-place : goal.invariant-loop-place
invariant-loop-place l =
    (s : State) → TablesHold can true l.self.room.now s → ((c : ℕ) → c < 32 → FindsFor can l.self.room.now s c (get_or l.found c None)) → GraphTo can l.graph s (order_of l.self.room.now) l.place
