use Rattle.std.proofs.Common.{arith}
use Rattle.ledger.proofs.Filing.{filed_none, filed_more}
use Rattle.ledger.proofs.open.add_page.Goals as goal

pub loop-j-init : goal.loop-j-init
loop-j-init c = filed_none c.args.room.now c.args.queue c.args.places.start c.requires.queue

pub loop-j-preserved : goal.loop-j-preserved
loop-j-preserved c =
    filed_more c.args.room.now c.args.queue c.args.places.start c.loop-j.j c.loop-j.room c.loop-j.queue c.loop-j.invariant (omega (arith, c.loop-j.auto.j))
    c.loaded_record-item.result c.loaded_record-item.ensures c.line_of.result c.line_of.ensures c.add_record-queue.new.room c.add_record-queue.result
    c.add_record-queue.ensures.lines c.add_record-queue.ensures.queue.0 c.add_record-queue.ensures.queue.1.1 c.add_record-queue.ensures.only
