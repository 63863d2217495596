use Rattle.std.proofs.Common.{List, ℕ, ◌+◌, ◌*◌, ◌≤◌, sym, subst}
use Rattle.std.specs.Result.{is_ok, IfOk}
use Rattle.node.specs.Pairs.{put_in}
use Rattle.tree.specs.Grow.{New}
use Rattle.pager.specs.Ground.{room_by}
use Rattle.pager.specs.Volume.{Ends, pairs_in, view_of}
use Rattle.treeindex.proofs.in_part.put.Goals as goal

pub put-requires-clause-room : goal.put-requires-clause-room
put-requires-clause-room g c = subst (λ (p : List ℕ). c.args.store.now.root.height + 1 ≤ room_by (g.D.Device.medium c.args.d.now).pages c.args.store.now.root (view_of (g.D.Device.medium c.args.d.now) p)) (sym c.part_of.ensures.same) c.requires.room

pub returns-clause-got : goal.returns-clause-got
returns-clause-got g c = subst (λ (p : List ℕ). IfOk c.put.result (New c.args.k (pairs_in (g.D.Device.medium c.args.d.now) p c.args.store.now))) c.part_of.ensures.same c.put.ensures.got

pub returns-clause-ends : goal.returns-clause-ends
returns-clause-ends g c =
    let m = g.D.Device.medium c.args.d.now in
    let s = c.args.store.now in
    let e = c.put.new in
    subst (λ (p : List ℕ). Ends (put_in c.args.k c.args.x (pairs_in m p s)) (3 * s.root.height + 1) (2 * s.root.height + 1) m p s (is_ok c.put.result) (g.D.Device.medium e.d) e.part e.store) c.part_of.ensures.same c.put.ensures.ends
