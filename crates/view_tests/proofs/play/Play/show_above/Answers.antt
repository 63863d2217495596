use Rattle.std.proofs.Common.{ap, ◌∙◌, arith}
use Rattle.view_tests.proofs.Sanely.{asked_sane, asked_seen}
use Rattle.view_tests.proofs.play.Play.show_above.Goals as goal

pub invariant_of-self : goal.invariant_of-self
invariant_of-self c =
    let p = c.self.inside in
    asked_sane p.index.items.items c.next_pair.new.index.items.items p.room.len p.room.items c.as_mut_slice.result.now c.next_pair.new.room p.queue
    c.as_mut_slice.ensures.value (omega arith) c.in_ok-pair.ensures.asked.same c.next_pair.auto.room c.next_pair.ensures.tables p.counts c.self.invariant

pub returns : goal.returns
returns c =
    let p = c.self.inside in
    ap (λ s. record { pairs = s; ring = p.queue }) (asked_seen p.index.items.items c.next_pair.new.index.items.items p.room.len p.room.items c.as_mut_slice.result.now c.next_pair.new.room p.queue
    c.as_mut_slice.ensures.value (omega arith) c.in_ok-pair.ensures.asked.same c.next_pair.auto.room c.next_pair.ensures.tables)
    ∙ c.self.view_is
