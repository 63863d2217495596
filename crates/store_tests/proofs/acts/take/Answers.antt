use Rattle.std.proofs.Common.{◌≡◌, rules, is_ok}
use Rattle.deals.specs.Drives.{medium_of}
use Rattle.store_tests.proofs.Sanely.{sane_up, sane_taken}
use Rattle.store_tests.proofs.acts.take.Goals as goal

pub returns-then-not-store : goal.returns-then-not-store
returns-then-not-store g c = sane_up _ _ _ c.requires.intact

pub returns-in_err-take_batch : goal.returns-in_err-take_batch
returns-in_err-take_batch g c =
    let e : c.disk-1.given.0 ≡ c.take_batch.new.d.disk.now = search rules in
    rw e (sane_taken (medium_of (g.D.Pages.disk c.args.disk.now)) (medium_of (g.D.Pages.disk c.take_batch.new.d.disk.now)) c.args.part.now c.take_batch.new.part c.args.store.now c.take_batch.new.self (is_ok c.take_batch.result) c.take_batch.ensures.takes)

pub returns : goal.returns
returns g c =
    let e : c.disk-1.given.0 ≡ c.take_batch.new.d.disk.now = search rules in
    rw e (sane_taken (medium_of (g.D.Pages.disk c.args.disk.now)) (medium_of (g.D.Pages.disk c.take_batch.new.d.disk.now)) c.args.part.now c.take_batch.new.part c.args.store.now c.take_batch.new.self (is_ok c.take_batch.result) c.take_batch.ensures.takes)
