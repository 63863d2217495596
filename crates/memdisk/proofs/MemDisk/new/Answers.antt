use Rattle.std.proofs.Common.{◌≡◌, ◌/◌, length, replicate, refl, ap, rules, arith}
use Rattle.memdisk.proofs.Places.{page_zeros}
use Rattle.memdisk.proofs.Leaving.{within_zeros}
use Rattle.memdisk.proofs.MemDisk.new.Goals as goal

pub returns : goal.returns
returns c =
    let ws = c.fill.new.self in
    let blank : ws ≡ replicate (length c.args.shown.now) 0 = search rules in
    let zeros = page_zeros ws _ blank in
    let lasts = within_zeros ws c.new.result.items (ap (λ b. b.items) c.new.ensures) zeros in
    let pages = ap (λ n. n / 512) c.fill.auto.self in
    record {
      fresh = record { pages = pages; zeros = λ p h. zeros p (omega arith); lasts = lasts; on = refl; left = refl; dues = ap (λ b. b.items) c.new-2.ensures };
      entries = ap (λ b. b.room) c.new.ensures;
      room = ap (λ b. b.room) c.new-2.ensures;
      blank = λ l h. (omega arith, omega arith, tt, zeros, lasts);
    }
