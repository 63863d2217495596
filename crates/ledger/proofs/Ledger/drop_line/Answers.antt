use Rattle.ledger.proofs.Works.{paged_now}
use Rattle.ledger.proofs.Looking.{look_looked, look_stays}
use Rattle.ledger.proofs.Ledger.drop_line.Goals as goal

pub drop_line_in-requires-clause-size : goal.drop_line_in-requires-clause-size
drop_line_in-requires-clause-size g c = c.requires.stands.2.ring.room

pub drop_line_in-requires-clause-paged : goal.drop_line_in-requires-clause-paged
drop_line_in-requires-clause-paged g c = paged_now _ _ c.args.room.now c.args.self.now _ c.requires.stands.2

pub returns-clause-book : goal.returns-clause-book
returns-clause-book g c = λ p b s.
    look_stays p _ c.args.room.now c.args.self.now b s 11 _ c.drop_line_in.new.room c.drop_line_in.new.store c.drop_line_in.auto.room c.drop_line_in.ensures.tables c.drop_line_in.result c.drop_line_in.ensures.onto c.drop_line_in.ensures.finds

pub returns-clause-looked : goal.returns-clause-looked
returns-clause-looked g c =
    look_looked _ _ c.args.room.now c.args.self.now _ c.requires.stands.2 11 _ c.drop_line_in.new.room c.drop_line_in.new.store c.drop_line_in.auto.room c.drop_line_in.ensures.tables c.drop_line_in.result c.drop_line_in.ensures.onto c.drop_line_in.ensures.finds
