use Rattle.store.proofs.Grows.{appended}
use Rattle.store.proofs.Store.append.Goals as goal

pub returns-clause-appends : goal.returns-clause-appends
returns-clause-appends g c = appended _ _ c.args.part.now c.make_room.new.part c.join_next.new.part c.args.self.now _ c.args.item c.requires.intact c.in_ok-make_room.ensures.spills
    c.join_next.ensures.head c.join_next.ensures.frames c.join_next.array_long
