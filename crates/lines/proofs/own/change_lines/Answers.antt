use Rattle.std.proofs.Common.{◌≡◌, ◌+◌, ◌-◌, ◌*◌, arith}
use Rattle.lines.proofs.Parts.{deal_read, deal_written, only_deal}
use Rattle.lines.proofs.own.change_lines.Goals as goal

pub returns : goal.returns
returns g c =
    let w = c.args.room.now in
    let v = c.change_all.new.words in
    let d = c.args.deal in
    let n = c.args.count in
    let here = c.requires.room in
    let part : 3072 * d + 3072 - 3072 * d ≡ 3072 = omega arith in
    let before = deal_read w d _ part n c.deal_ring.result c.deal_ring.ensures in
    let after = deal_written w d _ part v here.room here.deal c.change_all.auto.words n c.deal_ring.result c.deal_ring.ensures in
    record {
      lines = rw (← before, ← after) c.change_all.ensures;
      only = only_deal w d _ part v here.room here.deal c.change_all.auto.words;
    }
