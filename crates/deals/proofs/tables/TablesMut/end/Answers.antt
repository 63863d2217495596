use Rattle.std.proofs.Common.{[]}
use Rattle.deals.specs.Deals.{Over}
use Rattle.deals.specs.Promise.{can}
use Rattle.deals.proofs.Holding.{holds_serves}
use Rattle.deals.proofs.tables.TablesMut.end.Goals as goal

pub returns-clause-holds : goal.returns-clause-holds
returns-clause-holds c s b o a g i v =
    holds_serves can c.args.self.now.room.now s c.args.pick i v c.forget.new.self.room.now c.leave.new.self.room.now b [] o a g (c.forget.ensures.deals s b (Over o a g) i.desk) c.forget.ensures.others c.leave.ensures.order c.leave.ensures.others
