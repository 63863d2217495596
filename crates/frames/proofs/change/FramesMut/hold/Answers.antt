use Rattle.std.proofs.Common.{◌+◌, set, ap, ◌∙◌}
use Rattle.frames.specs.Layout.{Cache, cache_of, with_pins}
use Rattle.frames.specs.Frames.{unpin, pins_in}
use Rattle.frames.proofs.Slots.{rows}
use Rattle.frames.proofs.Tables.{unpin_pin}
use Rattle.frames.proofs.change.FramesMut.hold.Goals as goal

pub returns-clause-back : goal.returns-clause-back
returns-clause-back c =
    let part = c.args.self.now.part.now in
    let b = cache_of part in
    let s = c.args.self.now.sound in
    let i = c.args.slot in
    let e = c.put.ensures.cache ∙ ap (λ n. with_pins b (set b.pins i (n + 1))) (c.pins-n.ensures ∙ ap (λ (d : Cache). pins_in d i) c.look.ensures) in
    ap (λ (d : Cache). unpin d i) e ∙ unpin_pin b s.table (rows part s.sized) i c.put.ensures.low
