use Rattle.std.proofs.Common.{[], ◌∷◌, ◌++◌}
use Rattle.deals.specs.Deals.{Said, Over}
use Rattle.deals.specs.Promise.{can}
use Rattle.deals.proofs.Holding.{holds_serves}
use Rattle.deals.proofs.tables.TablesMut.answer.Goals as goal

pub returns-clause-holds : goal.returns-clause-holds
returns-clause-holds c s g i v =
    let p = c.args.pick in
    let o = c.args.said.op in
    let a = c.args.said.answer in
    let said : Said = record { op = o; told = a } in
    holds_serves can c.args.self.now.room.now s p i v c.tell.new.self.room.now c.leave.new.self.room.now s.book ((s.clerk p.who).deal ++ said ∷ []) o a g (c.tell.ensures.deals s (Over o a g) i.desk) c.tell.ensures.others c.leave.ensures.order c.leave.ensures.others
