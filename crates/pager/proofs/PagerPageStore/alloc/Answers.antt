use Rattle.std.proofs.Common.{◌∷◌, ap, arith}
use Rattle.pager.proofs.Frees.{top_range, frees_new}
use Rattle.pager.proofs.Acts.{came_of, alloc_got, alloc_passed}
use Rattle.pager.proofs.PagerPageStore.alloc.Goals as goal

pub alloc-requires-clause-intact : goal.alloc-requires-clause-intact
alloc-requires-clause-intact g c = (came_of c.requires.whole.1).intact

pub alloc-requires-clause-old : goal.alloc-requires-clause-old
alloc-requires-clause-old g c = λ n. let k = came_of c.requires.whole.1 in let t = top_range _ _ _ k.frees n in (t.0, omega (arith, t.1, k.frees.near))

pub alloc-requires-clause-new : goal.alloc-requires-clause-new
alloc-requires-clause-new g c = λ n. let k = came_of c.requires.whole.1 in ((frees_new _ _ _ k.frees n c.requires.asks.1).high, k.small)

pub returns-clause-got : goal.returns-clause-got
returns-clause-got g c =
    let k = came_of c.requires.whole.1 in alloc_got _ c.args.self.now.part.now c.args.self.now.store.now k.intact k.frees k.small _ _ _ c.requires.asks.1 c.alloc.result c.alloc.ensures.allocs

pub returns-clause-passed : goal.returns-clause-passed
returns-clause-passed g c =
    let k = came_of c.requires.whole.1 in
    ((λ a. alloc_passed _ c.args.self.now.part.now c.args.self.now.store.now k.intact k.frees k.small _ _ _ c.requires.asks.1 c.alloc.result c.alloc.ensures.allocs), ap (λ t. c.args.self.now.device.ghost_name ∷ c.args.self.now.part.ghost_name ∷ c.args.self.now.store.ghost_name ∷ t) c.alloc.ensures.tied)
