use Rattle.std.proofs.Common.{refl}
use Rattle.pager.proofs.Frees.{taken_range}
use Rattle.pager.proofs.Acts.{came_of, onto_came, can_change, written, written_came}
use Rattle.pager.proofs.PagerPageStore.write.Goals as goal

pub write_page-requires-clause-table : goal.write_page-requires-clause-table
write_page-requires-clause-table g c = (came_of c.requires.whole.1).intact.table

pub write_page-requires-clause-free : goal.write_page-requires-clause-free
write_page-requires-clause-free g c = (came_of c.requires.whole.1).intact.pins

pub returns-clause-got : goal.returns-clause-got
returns-clause-got g c =
    let k = came_of c.requires.whole.1 in let t = taken_range _ _ _ k.frees c.args.p c.requires.asks.0 in
    let s = c.args.self.now.store.now in let part = c.args.self.now.part.now in
    let can = can_change s.imaged _ c.args.p c.requires.asks.1.0 in
    written _ part s k.intact k.frees k.small c.args.p c.args.from.now c.write_page.new.part can (c.write_page.ensures.staged _ s k.intact can t.0 t.1) c.requires.asks.0

pub returns-clause-passed : goal.returns-clause-passed
returns-clause-passed g c =
    let k = came_of c.requires.whole.1 in let t = taken_range _ _ _ k.frees c.args.p c.requires.asks.0 in
    let s = c.args.self.now.store.now in let part = c.args.self.now.part.now in
    let can = can_change s.imaged _ c.args.p c.requires.asks.1.0 in
    ((λ a. onto_came (written_came _ part s k.intact k.frees k.small c.args.p c.args.from.now c.write_page.new.part can (c.write_page.ensures.staged _ s k.intact can t.0 t.1) c.requires.asks.0)), refl)
