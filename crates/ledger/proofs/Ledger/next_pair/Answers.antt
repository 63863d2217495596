use Rattle.node.specs.Pairs.{above}
use Rattle.lines.specs.Tables.{deal_lines}
use Rattle.ledger.proofs.Works.{paged_now}
use Rattle.ledger.proofs.Looking.{told_in, look_looked, look_stays}
use Rattle.ledger.proofs.Ledger.next_pair.Goals as goal

pub next_pair_in-requires-clause-stands : goal.next_pair_in-requires-clause-stands
next_pair_in-requires-clause-stands g c = record { own = c.requires.deal; queue = c.requires.stands.2.ring }

pub next_pair_in-requires-clause-paged : goal.next_pair_in-requires-clause-paged
next_pair_in-requires-clause-paged g c = paged_now _ _ c.args.room.now c.args.self.now _ c.requires.stands.2

pub returns-clause-told : goal.returns-clause-told
returns-clause-told g c = told_in c.next_pair_in.result _ c.args.room.now c.args.self.now (deal_lines c.args.room.now c.args.deal c.args.count) (above c.args.k) c.next_pair_in.ensures.told

pub returns-clause-book : goal.returns-clause-book
returns-clause-book g c = λ p b s.
    look_stays p _ c.args.room.now c.args.self.now b s 17 _ c.next_pair_in.new.room c.next_pair_in.new.store c.next_pair_in.auto.room c.next_pair_in.ensures.tables c.next_pair_in.result c.next_pair_in.ensures.onto c.next_pair_in.ensures.finds

pub returns-clause-looked : goal.returns-clause-looked
returns-clause-looked g c =
    look_looked _ _ c.args.room.now c.args.self.now _ c.requires.stands.2 17 _ c.next_pair_in.new.room c.next_pair_in.new.store c.next_pair_in.auto.room c.next_pair_in.ensures.tables c.next_pair_in.result c.next_pair_in.ensures.onto c.next_pair_in.ensures.finds

pub next_pair_in-requires-clause-succs : goal.next_pair_in-requires-clause-succs
next_pair_in-requires-clause-succs g c = (c.requires.stands.2.succs, c.requires.succs)
