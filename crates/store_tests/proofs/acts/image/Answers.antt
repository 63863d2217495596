use Rattle.std.proofs.Common.{◌≡◌, rules, is_ok}
use Rattle.deals.specs.Drives.{medium_of}
use Rattle.store_tests.proofs.Sanely.{sane_shot}
use Rattle.store_tests.proofs.acts.image.Goals as goal

pub returns-in_err-image : goal.returns-in_err-image
returns-in_err-image g c =
    let e : c.disk-1.given.0 ≡ c.image.new.d.disk.now = search rules in
    rw e (sane_shot (medium_of (g.D.Pages.disk c.args.disk.now)) (medium_of (g.D.Pages.disk c.image.new.d.disk.now)) c.args.part.now c.args.store.now c.image.new.self (is_ok c.image.result) c.image.ensures.shoots)

pub returns : goal.returns
returns g c =
    let e : c.disk-1.given.0 ≡ c.image.new.d.disk.now = search rules in
    rw e (sane_shot (medium_of (g.D.Pages.disk c.args.disk.now)) (medium_of (g.D.Pages.disk c.image.new.d.disk.now)) c.args.part.now c.args.store.now c.image.new.self (is_ok c.image.result) c.image.ensures.shoots)
