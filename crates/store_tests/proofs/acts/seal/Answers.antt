use Rattle.std.proofs.Common.{◌≡◌, rules, is_ok}
use Rattle.deals.specs.Drives.{medium_of}
use Rattle.store_tests.proofs.Sanely.{sane_sealed}
use Rattle.store_tests.proofs.acts.seal.Goals as goal

pub returns-in_err-seal : goal.returns-in_err-seal
returns-in_err-seal g c =
    let e : c.disk-1.given.0 ≡ c.seal.new.d.disk.now = search rules in
    rw e (sane_sealed (medium_of (g.D.Pages.disk c.args.disk.now)) (medium_of (g.D.Pages.disk c.seal.new.d.disk.now)) c.args.part.now c.args.store.now c.seal.new.self (is_ok c.seal.result) c.seal.ensures.seals)

pub returns : goal.returns
returns g c =
    let e : c.disk-1.given.0 ≡ c.seal.new.d.disk.now = search rules in
    rw e (sane_sealed (medium_of (g.D.Pages.disk c.args.disk.now)) (medium_of (g.D.Pages.disk c.seal.new.d.disk.now)) c.args.part.now c.args.store.now c.seal.new.self (is_ok c.seal.result) c.seal.ensures.seals)
