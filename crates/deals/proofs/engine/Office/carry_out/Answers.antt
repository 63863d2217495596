use Rattle.std.proofs.Common.{subst}
use Rattle.deals.specs.Sits.{GoesOn}
use Rattle.deals.proofs.engine.Office.carry_out.Goals as goal

pub get-requires-clause-stands : goal.get-requires-clause-stands
get-requires-clause-stands g c =
    let w = c.requires.stands in
    (w.0, w.1, w.2, subst (λ o. GoesOn w.0 w.1 c.args.self.now c.args.room.now (g.D.Pages.disk c.args.d.now) c.args.pick o w.2) c.in-Get.is w.3)

pub returns-in-Get-clause-tells : goal.returns-in-Get-clause-tells
returns-in-Get-clause-tells g c p es s v n = c.get.ensures.gets p es s (subst (λ o. GoesOn p es c.args.self.now c.args.room.now (g.D.Pages.disk c.args.d.now) c.args.pick o s) c.in-Get.is v)
