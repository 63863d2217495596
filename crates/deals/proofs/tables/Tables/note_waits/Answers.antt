use Rattle.std.proofs.Common.{true, sym, ◌∙◌}
use Rattle.deals.specs.Promise.{can}
use Rattle.deals.specs.Tables.{order_of}
use Rattle.deals.proofs.Graphing.{graph_more, place_waits}
use Rattle.deals.proofs.tables.Tables.note_waits.Goals as goal

pub returns : goal.returns
returns c s t f m =
    let r = c.args.self.now.room.now in
    let who = c.who_at-who.result in
    graph_more can c.args.graph.now c.put.new.self s (order_of r) c.args.i who (sym c.who_at-who.ensures.is)
    (λ e. c.put.ensures.put e ∙ place_waits can true r s c.args.i who c.args.found c.waits_for.result t c.requires c.who_at-who.ensures.is c.waits_for.ensures f e)
    c.put.ensures.others m
