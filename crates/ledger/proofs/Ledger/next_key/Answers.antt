use Rattle.view.specs.Upkeep.{next_key}
use Rattle.lines.specs.Tables.{deal_lines}
use Rattle.ledger.proofs.Works.{paged_now}
use Rattle.ledger.proofs.Looking.{told_in, look_looked, look_stays}
use Rattle.ledger.proofs.Ledger.next_key.Goals as goal

pub next_key_in-requires-clause-stands : goal.next_key_in-requires-clause-stands
next_key_in-requires-clause-stands g c = record { own = c.requires.deal; queue = c.requires.stands.2.ring }

pub next_key_in-requires-clause-paged : goal.next_key_in-requires-clause-paged
next_key_in-requires-clause-paged g c = paged_now _ _ c.args.room.now c.args.self.now _ c.requires.stands.2

pub returns-clause-told : goal.returns-clause-told
returns-clause-told g c = told_in c.next_key_in.result _ c.args.room.now c.args.self.now (deal_lines c.args.room.now c.args.deal c.args.count) (next_key c.args.k) c.next_key_in.ensures.told

pub returns-clause-book : goal.returns-clause-book
returns-clause-book g c = λ p b s.
    look_stays p _ c.args.room.now c.args.self.now b s 11 _ c.next_key_in.new.room c.next_key_in.new.store c.next_key_in.auto.room c.next_key_in.ensures.tables c.next_key_in.result c.next_key_in.ensures.onto c.next_key_in.ensures.finds

pub returns-clause-looked : goal.returns-clause-looked
returns-clause-looked g c =
    look_looked _ _ c.args.room.now c.args.self.now _ c.requires.stands.2 11 _ c.next_key_in.new.room c.next_key_in.new.store c.next_key_in.auto.room c.next_key_in.ensures.tables c.next_key_in.result c.next_key_in.ensures.onto c.next_key_in.ensures.finds

pub next_key_in-requires-clause-succs : goal.next_key_in-requires-clause-succs
next_key_in-requires-clause-succs g c = (c.requires.stands.2.succs, c.requires.succs)
