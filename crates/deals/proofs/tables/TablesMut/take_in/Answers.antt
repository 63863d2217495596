use Rattle.deals.specs.Promise.{can}
use Rattle.deals.proofs.Holding.{holds_asks}
use Rattle.deals.proofs.tables.TablesMut.take_in.Goals as goal

pub returns-clause-holds : goal.returns-clause-holds
returns-clause-holds c s i z =
    holds_asks can c.args.self.now.room.now s c.args.who i z c.write_op.new.self.room.now c.join.new.self.room.now c.args.o c.write_op.ensures.written c.write_op.ensures.others c.join.ensures.order c.join.ensures.others
