use Rattle.std.proofs.Common.{refl, arith}
use Rattle.deals.proofs.Orders.{left}
use Rattle.deals.proofs.tables.TablesMut.leave.Goals as goal

pub invariant_of-self : goal.invariant_of-self
invariant_of-self c = record { sound = (left c.args.self.now.room.now c.close_up.new.order c.args.place _ c.args.self.now.sound c.requires (omega arith) (omega (arith, c.args.self.now.sound.wide)) c.close_up.ensures).1.sound }

pub returns : goal.returns
returns c =
    let closed = left c.args.self.now.room.now c.close_up.new.order c.args.place _ c.args.self.now.sound c.requires (omega arith) (omega (arith, c.args.self.now.sound.wide)) c.close_up.ensures in
    record { lent = refl; order = closed.0; lines = closed.2; others = closed.1 }
