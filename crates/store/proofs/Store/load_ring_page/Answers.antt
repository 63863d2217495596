use Rattle.store.proofs.Views.{intact_read, intact_part}
use Rattle.store.proofs.Store.load_ring_page.Goals as goal

pub returns-clause-intact : goal.returns-clause-intact
returns-clause-intact g c =
    let i = c.requires.intact in let l = c.load_scratch.ensures in
    intact_read _ _ _ c.args.self.now _ _ _ l.reads (intact_part _ c.args.part.now c.load_scratch.new.part c.args.self.now c.load_scratch.array_long l.frames l.head i)
