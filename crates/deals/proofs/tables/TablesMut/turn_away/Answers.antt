use Rattle.deals.specs.Deals.{Over, set_clerk}
use Rattle.deals.specs.Promise.{can}
use Rattle.deals.proofs.Desks.{desk_like}
use Rattle.deals.proofs.Holding.{holds_serves, same_deal}
use Rattle.deals.proofs.Offs.{only_none}
use Rattle.deals.proofs.tables.TablesMut.turn_away.Goals as goal

pub returns-clause-holds : goal.returns-clause-holds
returns-clause-holds c s o a g i v =
    let r = c.args.self.now.room.now in
    let p = c.args.pick in
    holds_serves can r s p i v r c.leave.new.self.room.now s.book (s.clerk p.who).deal o a g
    (desk_like r s (set_clerk p.who (s.clerk p.who).deal (Over o a g) s) (same_deal s p.who (Over o a g)) i.desk) (only_none r c.args.self.now.sound) c.leave.ensures.order c.leave.ensures.others
