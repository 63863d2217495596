use Rattle.std.proofs.Common.{◌≡◌, rules}
use Rattle.deals.specs.Drives.{medium_of}
use Rattle.store_tests.proofs.Sanely.{opened_sane}
use Rattle.store_tests.proofs.acts.open.Goals as goal

pub returns : goal.returns
returns g c =
    let e : c.disk-1.given.0 ≡ c.open.new.d.disk.now = search rules in
    rw e (opened_sane (medium_of (g.D.Pages.disk c.args.disk.now)) (medium_of (g.D.Pages.disk c.open.new.d.disk.now)) c.open.new.part c.open.result c.open.ensures.opens)
