use Rattle.std.proofs.Common.{true, sym, subst}
use Rattle.deals.specs.Deals.{Under, set_clerk}
use Rattle.deals.specs.Promise.{can}
use Rattle.deals.specs.LineUps.{TablesHold}
use Rattle.deals.specs.Sits.{Sits}
use Rattle.deals.proofs.Holding.{holds_room}
use Rattle.deals.proofs.Seating.{sits_asks}
use Rattle.deals.proofs.engine.Office.ask.Goals as goal

pub take_in-requires : goal.take_in-requires
take_in-requires c = let w = c.requires.stands in holds_room can c.args.room.now w.2 c.args.who w.3.seated.tables c.requires.one w.4

pub returns : goal.returns
returns c = record {
  asked = λ p d s i q.
      let new = c.take_in.new.self.room.now in
      let r = set_clerk c.args.who (s.clerk c.args.who).deal (Under c.args.o 0) s in
      let held : TablesHold can true new r = rw c.new.ensures at (c.take_in.ensures.holds s i.seated.tables (rw c.new.ensures q)) in
      subst (λ v. Sits p c.args.self.now v d r) (sym (c.room-1.given.1.1 (sym c.take_in.ensures.only.lent))) (sits_asks p c.args.self.now c.args.room.now new d s c.args.who c.args.o i held c.take_in.ensures.lines c.take_in.ensures.only.rest);
}
