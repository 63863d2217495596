use Rattle.std.proofs.Common.{true, sym, subst}
use Rattle.deals.specs.Promise.{can}
use Rattle.deals.specs.Tables.{order_of}
use Rattle.deals.specs.LineUps.{TablesHold, Served, Picked, Quick}
use Rattle.deals.proofs.Answering.{finds_any}
use Rattle.deals.proofs.engine.choose.Goals as goal

pub returns-in-Some : goal.returns-in-Some
unfolding Picked Quick
returns-in-Some c s t =
    let old = c.new-tables.ensures in
    subst (λ r. Served can s (order_of r) c.in-Some.pick) old ((c.in-Some.ensures s (subst (λ r. TablesHold can true r s) (sym old) t) (finds_any _ s _ _)).1)

pub returns : goal.returns
returns c s t =
    let old = c.new-tables.ensures in
    subst (λ r. Picked can s (order_of r) c.decide.result) old (c.decide.ensures s (subst (λ r. TablesHold can true r s) (sym old) t) (λ j l. finds_any _ s j _))
