use Rattle.std.proofs.Common.{[], ap}
use Rattle.deals.specs.Deals.{begin}
use Rattle.deals.specs.Holds.{at_rest}
use Rattle.deals.specs.Sits.{Lasting}
use Rattle.deals.proofs.Allowed.{lasting_allowed}
use Rattle.deals.proofs.Sitting.{lasting_blank}
use Rattle.deals.proofs.Steps.{anew}
use Rattle.deals.proofs.lives.days.Goals as goal
use Rattle.deals.proofs.lives.days.Goals.{in-Ok+in-Dark, in_default}

pub loop-n-init : goal.loop-n-init
loop-n-init g c = ((g.D.Pages.disk c.args.d.now).pages, ([], rw c.requires.unseen begin, lasting_blank (g.D.Pages.disk c.args.d.now) c.requires.blank))

pub serve-requires : goal.serve-requires
serve-requires g c =
    let p = c.loop-n.invariant.0 in
    let h = c.loop-n.invariant.1 in
    let a : Lasting p (g.D.Pages.disk c.allow.new.self) h.0 = rw c.allow.ensures (lasting_allowed 4194304 p _ h.0 h.2) in
    record { stands = (p, (at_rest h.0, h.1, c.in-Ok.ensures.opens p h.0 a)) }

pub loop-n-preserved : goal.loop-n-preserved
loop-n-preserved g c =
    let p = c.loop-n.invariant.0 in
    let h = c.loop-n.invariant.1 in
    let a : Lasting p (g.D.Pages.disk c.allow.new.self) h.0 = rw c.allow.ensures (lasting_allowed 4194304 p _ h.0 h.2) in
    elim c.match-open.branch [
      | in-Ok+in-Dark w ↦ anew Lasting (w.in-Dark.ensures.falls p (at_rest h.0, h.1, w.in-Ok.ensures.opens p h.0 a)) (ap g.D.Pages.disk w.d-is) (ap g.C.Clerks.seen w.c-is) c.cut.ensures.0 c.back.ensures
      | in_default w ↦ anew Lasting {d = g.D.Pages.disk c.open.new.d} (λ e b. (at_rest h.0, h.1, w.in_default.ensures.opens p h.0 a e b)) (ap g.D.Pages.disk w.d-is) (ap g.C.Clerks.seen w.c-is) c.cut.ensures.0 c.back.ensures
    ]
