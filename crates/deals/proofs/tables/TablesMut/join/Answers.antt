use Rattle.std.proofs.Common.{ℕ, [], ◌∷◌, ◌++◌, refl, ap, ◌∙◌}
use Rattle.deals.specs.Tables.{order_of}
use Rattle.deals.proofs.Orders.{joined}
use Rattle.deals.proofs.tables.TablesMut.join.Goals as goal

pub returns : goal.returns
returns c =
    let stood = joined c.args.self.now.room.now c.number.result c.args.self.now.sound c.number.ensures.low c.requires in
    rw c.from.ensures (record { lent = refl; order = stood.0 ∙ ap (λ (x : ℕ). order_of c.args.self.now.room.now ++ x ∷ []) c.number.ensures.is; lines = stood.2; others = stood.1 })
