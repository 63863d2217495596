use Rattle.std.proofs.Common.{◌≤◌, refl, arith}
use Rattle.pager.proofs.Frees.{taken_range}
use Rattle.pager.proofs.Acts.{came_of, onto_came, can_change, first_word, freed, freed_came}
use Rattle.pager.proofs.PagerPageStore.release.Goals as goal

pub release-requires-clause-table : goal.release-requires-clause-table
release-requires-clause-table g c = (came_of c.requires.whole.1).intact.table

pub release-requires-clause-free : goal.release-requires-clause-free
release-requires-clause-free g c = (came_of c.requires.whole.1).intact.pins

pub returns-clause-got : goal.returns-clause-got
returns-clause-got g c =
    let k = came_of c.requires.whole.1 in
    let one : 1 ≤ _ = omega (arith, c.requires.asks.0) in
    let t = taken_range _ _ _ k.frees c.args.p one in
    let s = c.args.self.now.store.now in
    let can = can_change s.imaged _ c.args.p c.requires.asks.1 in
    let b = c.release.ensures.staged _ k.intact can t.0 t.1 in
    freed _ c.args.self.now.part.now s k.intact k.frees k.small c.args.p _ c.release.new.part can b one (first_word s.root.free) c.release.new.self c.release.ensures.root

pub returns-clause-passed : goal.returns-clause-passed
returns-clause-passed g c =
    let k = came_of c.requires.whole.1 in
    let one : 1 ≤ _ = omega (arith, c.requires.asks.0) in
    let t = taken_range _ _ _ k.frees c.args.p one in
    let s = c.args.self.now.store.now in
    let can = can_change s.imaged _ c.args.p c.requires.asks.1 in
    let b = c.release.ensures.staged _ k.intact can t.0 t.1 in
    let i = c.release.ensures.intact _ k.intact can t.0 t.1 in
    ((λ a. onto_came (freed_came _ c.args.self.now.part.now s k.intact k.frees k.small c.args.p _ c.release.new.part can b one (first_word s.root.free) c.release.new.self c.release.ensures.root i)), refl)
