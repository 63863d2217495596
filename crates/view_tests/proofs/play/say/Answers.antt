use Rattle.std.proofs.Common.{arith}
use Rattle.view_tests.proofs.Sanely.{sane_said}
use Rattle.view_tests.proofs.play.say.Goals as goal

pub returns-then-count-lt-DEAL_LINES-clause-sane : goal.returns-then-count-lt-DEAL_LINES-clause-sane
returns-then-count-lt-DEAL_LINES-clause-sane c =
    λ t q s ok. sane_said t c.args.room.now c.add_line.new.room c.args.counts.now q c.args.deal c.args.line (omega arith) (omega arith) c.add_line.auto.room c.add_line.ensures.lines c.add_line.ensures.only s ok
