use Rattle.std.proofs.Common.{◌<◌, true, sym, ◌∙◌, inl, inr, arith}
use Rattle.std.proofs.lemmas.Bool.{cases_Bool}
use Rattle.deals.specs.Promise.{can}
use Rattle.deals.specs.Tables.{order_of, waiting_in}
use Rattle.deals.specs.LineUps.{Quick}
use Rattle.deals.proofs.Graphing.{place_waits, quick_free, quick_held}
use Rattle.deals.proofs.Orders.{order_long, order_few}
use Rattle.deals.proofs.tables.Tables.first_free.Goals as goal

pub returns-then-waiting-eq0 : goal.returns-then-waiting-eq0
unfolding Quick
returns-then-waiting-eq0 c s t f = inl (sym c.waiting.ensures.long ∙ c.if-waiting-eq0.true)

pub returns : goal.returns
returns c s t f =
    let r = c.args.self.now.room.now in
    let who = c.who_at-who.result in
    let some : 0 < waiting_in r = omega (arith, c.waiting.ensures.is, c.if-waiting-eq0.false) in
    let waits = place_waits can true r s 0 who c.args.found c.waits_for.result t some c.who_at-who.ensures.is c.waits_for.ensures f in
    elim (cases_Bool c.is_empty.result) [
      | inl e ↦ rw (c.then_some.ensures, e)
          (quick_free can s (order_of r) who c.waits_for.result (omega (arith, order_long r c.args.self.now.sound)) (sym c.who_at-who.ensures.is) (rw c.who_at-who.ensures.is (order_few r c.args.self.now.sound 0 (omega (arith, order_long r c.args.self.now.sound)))) waits (sym c.is_empty.ensures ∙ e))
      | inr e ↦ rw (c.then_some.ensures, e) (quick_held can s (order_of r) who c.waits_for.result (sym c.who_at-who.ensures.is) waits (sym c.is_empty.ensures ∙ e))
    ]
