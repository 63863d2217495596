use Rattle.std.proofs.Common.{◌∷◌, ap}
use Rattle.pager.proofs.Frees.{taken_range}
use Rattle.pager.proofs.Acts.{came_of, read_got, read_passed}
use Rattle.pager.proofs.PagerPageStore.read.Goals as goal

pub read_page-requires-clause-intact : goal.read_page-requires-clause-intact
read_page-requires-clause-intact g c = (came_of c.requires.whole.1).intact

pub read_page-requires-clause-near : goal.read_page-requires-clause-near
read_page-requires-clause-near g c =
    let a = taken_range _ _ _ (came_of c.requires.whole.1).frees c.args.p c.requires.asks.1.0 in (a.0, (a.1, c.requires.asks.1.1))

pub returns-clause-got : goal.returns-clause-got
returns-clause-got g c =
    let k = came_of c.requires.whole.1 in read_got _ c.args.self.now.part.now c.args.self.now.store.now k.intact k.frees k.small c.args.p _ _ _ c.read_page.result c.read_page.ensures.got

pub returns-clause-passed : goal.returns-clause-passed
returns-clause-passed g c =
    let k = came_of c.requires.whole.1 in
    ((λ a. read_passed _ c.args.self.now.part.now c.args.self.now.store.now k.intact k.frees k.small c.args.p _ _ _ _ c.read_page.ensures.got), ap (λ t. c.args.self.now.device.ghost_name ∷ c.args.self.now.part.ghost_name ∷ c.args.self.now.store.ghost_name ∷ t) c.read_page.ensures.tied)
