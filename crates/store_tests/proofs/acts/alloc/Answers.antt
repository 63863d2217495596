use Rattle.std.proofs.Common.{◌≡◌, rules}
use Rattle.deals.specs.Drives.{medium_of}
use Rattle.store_tests.proofs.Sanely.{sane_up, sane_given}
use Rattle.store_tests.proofs.acts.alloc.Goals as goal

pub returns-then-not-has_pages : goal.returns-then-not-has_pages
returns-then-not-has_pages g c = sane_up _ _ _ c.requires.intact

pub returns-in_err-alloc : goal.returns-in_err-alloc
returns-in_err-alloc g c =
    let e : c.disk-1.given.0 ≡ c.alloc.new.d.disk.now = search rules in
    rw e (sane_given (medium_of (g.D.Pages.disk c.args.disk.now)) (medium_of (g.D.Pages.disk c.alloc.new.d.disk.now)) c.args.part.now c.alloc.new.part c.args.store.now c.alloc.new.self c.alloc.result c.alloc.ensures.allocs)

pub returns : goal.returns
returns g c =
    let e : c.disk-1.given.0 ≡ c.alloc.new.d.disk.now = search rules in
    rw e (sane_given (medium_of (g.D.Pages.disk c.args.disk.now)) (medium_of (g.D.Pages.disk c.alloc.new.d.disk.now)) c.args.part.now c.alloc.new.part c.args.store.now c.alloc.new.self c.alloc.result c.alloc.ensures.allocs)
