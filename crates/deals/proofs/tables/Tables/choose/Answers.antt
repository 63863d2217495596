use Rattle.std.proofs.Common.{true}
use Rattle.deals.specs.Promise.{can}
use Rattle.deals.specs.Tables.{order_of}
use Rattle.deals.proofs.Counting.{chosen_picked}
use Rattle.deals.proofs.Graphing.{graph_all}
use Rattle.deals.proofs.Orders.{order_few}
use Rattle.deals.proofs.tables.Tables.choose.Goals as goal

pub returns : goal.returns
returns c s t m =
    let r = c.args.self.now.room.now in
    let g = c.args.graph.now in
    chosen_picked can g s (graph_all can g s (order_of r) true t.line m) (order_of r) c.choose.result (order_few r c.args.self.now.sound) (rw c.order.ensures.is at c.choose.ensures)
