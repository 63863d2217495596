use Rattle.std.proofs.Common.{◌≡◌, rules, is_ok}
use Rattle.deals.specs.Drives.{medium_of}
use Rattle.store_tests.proofs.Sanely.{sane_up, sane_appended}
use Rattle.store_tests.proofs.acts.append.Goals as goal

pub returns-then-queue_len-ge-QUEUE : goal.returns-then-queue_len-ge-QUEUE
returns-then-queue_len-ge-QUEUE g c = sane_up _ _ _ c.requires.intact

pub returns-in_err-append : goal.returns-in_err-append
returns-in_err-append g c =
    let e : c.disk-1.given.0 ≡ c.append.new.d.disk.now = search rules in
    rw e (sane_appended (medium_of (g.D.Pages.disk c.args.disk.now)) (medium_of (g.D.Pages.disk c.append.new.d.disk.now)) c.args.part.now c.append.new.part c.args.store.now c.append.new.self c.args.item (is_ok c.append.result) c.append.ensures.appends)

pub returns : goal.returns
returns g c =
    let e : c.disk-1.given.0 ≡ c.append.new.d.disk.now = search rules in
    rw e (sane_appended (medium_of (g.D.Pages.disk c.args.disk.now)) (medium_of (g.D.Pages.disk c.append.new.d.disk.now)) c.args.part.now c.append.new.part c.args.store.now c.append.new.self c.args.item (is_ok c.append.result) c.append.ensures.appends)
