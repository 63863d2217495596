use Rattle.node.specs.Pairs.{find}
use Rattle.lines.specs.Tables.{deal_lines}
use Rattle.ledger.proofs.Works.{paged_now}
use Rattle.ledger.proofs.Looking.{told_in, look_looked, look_stays}
use Rattle.ledger.proofs.Ledger.look.Goals as goal

pub look_in-requires-clause-stands : goal.look_in-requires-clause-stands
look_in-requires-clause-stands g c = record { own = c.requires.deal; queue = c.requires.stands.2.ring }

pub look_in-requires-clause-paged : goal.look_in-requires-clause-paged
look_in-requires-clause-paged g c = paged_now _ _ c.args.room.now c.args.self.now _ c.requires.stands.2

pub returns-clause-told : goal.returns-clause-told
returns-clause-told g c = told_in c.look_in.result _ c.args.room.now c.args.self.now (deal_lines c.args.room.now c.args.deal c.args.count) (find c.args.k) c.look_in.ensures.told

pub returns-clause-book : goal.returns-clause-book
returns-clause-book g c = λ p b s.
    look_stays p _ c.args.room.now c.args.self.now b s 6 _ c.look_in.new.room c.look_in.new.store c.look_in.auto.room c.look_in.ensures.tables c.look_in.result c.look_in.ensures.onto c.look_in.ensures.finds

pub returns-clause-looked : goal.returns-clause-looked
returns-clause-looked g c =
    look_looked _ _ c.args.room.now c.args.self.now _ c.requires.stands.2 6 _ c.look_in.new.room c.look_in.new.store c.look_in.auto.room c.look_in.ensures.tables c.look_in.result c.look_in.ensures.onto c.look_in.ensures.finds
