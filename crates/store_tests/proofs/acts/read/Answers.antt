use Rattle.std.proofs.Common.{◌≡◌, rules, is_ok}
use Rattle.deals.specs.Drives.{medium_of}
use Rattle.store_tests.proofs.Sanely.{sane_up, sane_got}
use Rattle.store_tests.proofs.acts.read.Goals as goal

pub returns-then-p-lt-DATA : goal.returns-then-p-lt-DATA
returns-then-p-lt-DATA g c = sane_up _ _ _ c.requires.intact

pub returns-in_err-read_page : goal.returns-in_err-read_page
returns-in_err-read_page g c =
    let e : c.disk-1.given.0 ≡ c.read_page.new.d.disk.now = search rules in
    rw e (sane_got (medium_of (g.D.Pages.disk c.args.disk.now)) (medium_of (g.D.Pages.disk c.read_page.new.d.disk.now)) c.args.part.now c.read_page.new.part c.args.store.now c.args.p c.read_page.new.into (is_ok c.read_page.result) c.read_page.ensures.got)

pub returns : goal.returns
returns g c =
    let e : c.disk-1.given.0 ≡ c.read_page.new.d.disk.now = search rules in
    rw e (sane_got (medium_of (g.D.Pages.disk c.args.disk.now)) (medium_of (g.D.Pages.disk c.read_page.new.d.disk.now)) c.args.part.now c.read_page.new.part c.args.store.now c.args.p c.read_page.new.into (is_ok c.read_page.result) c.read_page.ensures.got)
