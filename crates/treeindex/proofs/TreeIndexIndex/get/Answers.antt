use Rattle.std.proofs.Common.{◌∷◌, refl, ap, arith}
use Rattle.std.specs.Result.{is_ok}
use Rattle.pager.proofs.Calls.{low}
use Rattle.treeindex.proofs.TreeIndexIndex.get.Goals as goal
use Rattle.treeindex.proofs.Rooms.{came_of, tables_stay, passes, now_pairs, if_ok}

pub get-requires-clause-paged : goal.get-requires-clause-paged
get-requires-clause-paged g c = (came_of c.requires.whole.2).paged

pub get-requires-clause-asks : goal.get-requires-clause-asks
get-requires-clause-asks g c = omega (arith, low _ _ _ (came_of c.requires.whole.2).paged, c.requires.asks)

pub returns-clause-asked : goal.returns-clause-asked
returns-clause-asked g c =
    let n = c.get.new in
    let h = low _ _ _ (came_of c.requires.whole.2).paged in
    let m = g.D.Device.medium c.args.self.now.device.now in
    let e = g.D.Device.medium n.d in
    if_ok c.args.room.now c.requires.room m c.args.self.now.store.now _ c.args.self.now.store.now.root.height 0 e n.words n.store c.get.result
    (λ x. record { same = now_pairs c.args.room.now c.requires.room _ _ _ _ _ _ n.words n.store x; spent = record { left = omega (arith, h, x.left); get = refl; next = refl; change = refl } }) c.get.ensures.ends

pub returns-clause-tables : goal.returns-clause-tables
returns-clause-tables g c = tables_stay c.args.room.now _ c.requires.room

pub returns-clause-passed : goal.returns-clause-passed
returns-clause-passed g c =
    let n = c.get.new in
    record {
      onto = λ a v. passes c.args.room.now c.requires.room _ _ _ _ 0 _ n.words n.store (is_ok c.get.result) c.get.ensures.ends;
      tied = ap (λ t. c.args.self.now.device.ghost_name ∷ c.args.self.now.store.ghost_name ∷ t) c.get.ensures.tied;
    }
