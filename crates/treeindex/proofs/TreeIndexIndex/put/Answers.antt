use Rattle.std.proofs.Common.{◌∷◌, true, ap, arith}
use Rattle.std.proofs.lemmas.Result.{err_from_is_err_and}
use Rattle.pager.proofs.Calls.{low}
use Rattle.treeindex.proofs.TreeIndexIndex.put.Goals as goal
use Rattle.treeindex.proofs.Rooms.{came_of, tables_stay, passes, now_pairs, goes}

pub put-requires-clause-paged : goal.put-requires-clause-paged
put-requires-clause-paged g c = (came_of c.requires.whole.2).paged

pub put-requires-clause-ready : goal.put-requires-clause-ready
put-requires-clause-ready g c =
    let r = c.requires.asks.1.spare in record { still = r.still; spare = omega (arith, low _ _ _ (came_of c.requires.whole.2).paged, r.spare) }

pub put-requires-clause-room : goal.put-requires-clause-room
put-requires-clause-room g c = omega (arith, low _ _ _ (came_of c.requires.whole.2).paged, c.requires.asks.1.room)

pub put-requires-clause-few : goal.put-requires-clause-few
put-requires-clause-few g c = c.requires.asks.1.few

pub put-requires-clause-asks : goal.put-requires-clause-asks
put-requires-clause-asks g c = omega (arith, low _ _ _ (came_of c.requires.whole.2).paged, c.requires.asks.0)

pub returns-in_err-put-clause-done : goal.returns-in_err-put-clause-done
returns-in_err-put-clause-done g c = let p = err_from_is_err_and c.from_residual.result c.from_residual.ensures.1 in rw p.1 tt

pub returns-in_err-put-clause-tables : goal.returns-in_err-put-clause-tables
returns-in_err-put-clause-tables g c = tables_stay c.args.room.now _ c.requires.room

pub returns-in_err-put-clause-passed : goal.returns-in_err-put-clause-passed
returns-in_err-put-clause-passed g c =
    let n = c.put.new in
    let p = err_from_is_err_and c.from_residual.result c.from_residual.ensures.1 in
    rw p.1 (record {
      onto = λ a v. goes _ _ c.args.self.now.store.now _ _ n.store c.in_err-put.ensures.ends;
      tied = ap (λ t. c.args.self.now.device.ghost_name ∷ c.args.self.now.store.ghost_name ∷ t) c.put.ensures.tied;
    })

pub returns-clause-done : goal.returns-clause-done
returns-clause-done g c = now_pairs c.args.room.now c.requires.room _ _ _ _ _ _ c.put.new.words c.put.new.store c.in_ok-put.ensures.ends

pub returns-clause-asked : goal.returns-clause-asked
returns-clause-asked g c = omega (arith, low _ _ _ (came_of c.requires.whole.2).paged, c.in_ok-put.ensures.ends.left)

pub returns-clause-tables : goal.returns-clause-tables
returns-clause-tables g c = tables_stay c.args.room.now _ c.requires.room

pub returns-clause-passed : goal.returns-clause-passed
returns-clause-passed g c =
    let n = c.put.new in
    record {
      onto = λ a v. passes c.args.room.now c.requires.room _ _ _ _ _ _ n.words n.store true c.in_ok-put.ensures.ends;
      tied = ap (λ t. c.args.self.now.device.ghost_name ∷ c.args.self.now.store.ghost_name ∷ t) c.put.ensures.tied;
    }
