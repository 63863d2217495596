use Rattle.std.proofs.Common.{◌≡◌, rules}
use Rattle.deals.specs.Drives.{medium_of}
use Rattle.store_tests.proofs.Sanely.{sane_up, sane_loaded}
use Rattle.store_tests.proofs.acts.load.Goals as goal

pub returns-then-i-queue_pages-clause-sane : goal.returns-then-i-queue_pages-clause-sane
returns-then-i-queue_pages-clause-sane g c = sane_up _ _ _ c.requires.intact

pub returns-in_err-load_queue_page-clause-sane : goal.returns-in_err-load_queue_page-clause-sane
returns-in_err-load_queue_page-clause-sane g c =
    let e : c.disk-1.given.0 ≡ c.load_queue_page.new.d.disk.now = search rules in
    rw e (sane_loaded (medium_of (g.D.Pages.disk c.args.disk.now)) (medium_of (g.D.Pages.disk c.load_queue_page.new.d.disk.now)) c.args.part.now c.load_queue_page.new.part c.args.store.now c.args.i c.load_queue_page.result c.load_queue_page.ensures.loads)

pub returns-clause-sane : goal.returns-clause-sane
returns-clause-sane g c =
    let e : c.disk-1.given.0 ≡ c.load_queue_page.new.d.disk.now = search rules in
    rw e (sane_loaded (medium_of (g.D.Pages.disk c.args.disk.now)) (medium_of (g.D.Pages.disk c.load_queue_page.new.d.disk.now)) c.args.part.now c.load_queue_page.new.part c.args.store.now c.args.i c.load_queue_page.result c.load_queue_page.ensures.loads)
