use Rattle.std.proofs.Common.{◌≡◌, ◌+◌, ◌-◌, ◌*◌, ap, ◌∙◌, arith}
use Rattle.lines.specs.declared.ring.Ring.{Ring}
use Rattle.lines.specs.Tables.{deal_ring}
use Rattle.lines.proofs.Circle.{ring_is}
use Rattle.lines.proofs.Parts.{deal_read, deal_written, only_deal}
use Rattle.lines.proofs.own.add_line.Goals as goal

pub returns : goal.returns
returns c =
    let w = c.args.room.now in
    let v = c.push.new.words in
    let d = c.args.deal in
    let n = c.args.count in
    let here = c.requires.0 in
    let longer : c.push.result ≡ deal_ring (n + 1) =
    let e = c.deal_ring.ensures in
    let g = c.push.ensures.grown in
    ring_is c.push.result 1024 0 (n + 1) (g.0 ∙ ap (λ (x : Ring). x.cap) e) (g.1.0 ∙ ap (λ (x : Ring). x.start) e) (g.1.1 ∙ ap (λ (x : Ring). x.count + 1) e) in
    let part : 3072 * d + 3072 - 3072 * d ≡ 3072 = omega arith in
    let before = deal_read w d _ part n c.deal_ring.result c.deal_ring.ensures in
    let after = deal_written w d _ part v here.room here.deal c.push.auto.words (n + 1) c.push.result longer in
    record {
      lines = rw (← before, ← after) c.push.ensures.lines;
      only = only_deal w d _ part v here.room here.deal c.push.auto.words;
    }
