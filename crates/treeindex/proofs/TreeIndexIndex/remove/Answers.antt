use Rattle.std.proofs.Common.{◌∷◌, true, ap, arith}
use Rattle.std.proofs.lemmas.Result.{err_from_is_err_and}
use Rattle.pager.proofs.Calls.{low}
use Rattle.treeindex.proofs.TreeIndexIndex.remove.Goals as goal
use Rattle.treeindex.proofs.Rooms.{came_of, tables_stay, passes, now_pairs, goes}

pub remove-requires-clause-paged : goal.remove-requires-clause-paged
remove-requires-clause-paged g c = (came_of c.requires.whole.2).paged

pub remove-requires-clause-ready : goal.remove-requires-clause-ready
remove-requires-clause-ready g c =
    let r = c.requires.asks.1.spare in record { still = r.still; spare = omega (arith, low _ _ _ (came_of c.requires.whole.2).paged, r.spare) }

pub remove-requires-clause-asks : goal.remove-requires-clause-asks
remove-requires-clause-asks g c = omega (arith, low _ _ _ (came_of c.requires.whole.2).paged, c.requires.asks.0)

pub returns-in_err-remove-clause-done : goal.returns-in_err-remove-clause-done
returns-in_err-remove-clause-done g c = let p = err_from_is_err_and c.from_residual.result c.from_residual.ensures.1 in rw p.1 tt

pub returns-in_err-remove-clause-tables : goal.returns-in_err-remove-clause-tables
returns-in_err-remove-clause-tables g c = tables_stay c.args.room.now _ c.requires.room

pub returns-in_err-remove-clause-passed : goal.returns-in_err-remove-clause-passed
returns-in_err-remove-clause-passed g c =
    let n = c.remove.new in
    let p = err_from_is_err_and c.from_residual.result c.from_residual.ensures.1 in
    rw p.1 (record {
      onto = λ a v. goes _ _ c.args.self.now.store.now _ _ n.store c.in_err-remove.ensures.ends;
      tied = ap (λ t. c.args.self.now.device.ghost_name ∷ c.args.self.now.store.ghost_name ∷ t) c.remove.ensures.tied;
    })

pub returns-clause-done : goal.returns-clause-done
returns-clause-done g c = now_pairs c.args.room.now c.requires.room _ _ _ _ _ _ c.remove.new.words c.remove.new.store c.in_ok-remove.ensures.ends

pub returns-clause-asked : goal.returns-clause-asked
returns-clause-asked g c = omega (arith, low _ _ _ (came_of c.requires.whole.2).paged, c.in_ok-remove.ensures.ends.left)

pub returns-clause-tables : goal.returns-clause-tables
returns-clause-tables g c = tables_stay c.args.room.now _ c.requires.room

pub returns-clause-passed : goal.returns-clause-passed
returns-clause-passed g c =
    let n = c.remove.new in
    record {
      onto = λ a v. passes c.args.room.now c.requires.room _ _ _ _ _ _ n.words n.store true c.in_ok-remove.ensures.ends;
      tied = ap (λ t. c.args.self.now.device.ghost_name ∷ c.args.self.now.store.ghost_name ∷ t) c.remove.ensures.tied;
    }
