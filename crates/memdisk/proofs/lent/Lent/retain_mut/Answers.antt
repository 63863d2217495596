use Rattle.std.proofs.Common.{ap, drop, arith}
use Rattle.std.proofs.lemmas.List.{take-append-le}
use Rattle.memdisk.proofs.lent.Lent.retain_mut.Goals as goal

pub returns-clause-kept : goal.returns-clause-kept
returns-clause-kept g c =
    let h = c.retain_in_front-self-inside in
    let front = take-append-le h.result h.new.items (drop c.self.inside.len c.self.inside.slots.now) (omega arith) in
    rw (front, ← ap (λ b. b.items) c.self.view_is) h.ensures.kept
