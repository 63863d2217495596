use Rattle.std.proofs.Common.{arith}
use Rattle.std.proofs.lemmas.Result.{err_from_is_err_and}
use Rattle.store.specs.Store.{next}
use Rattle.store.proofs.Lasts.{sealed, either_like, lost_either}
use Rattle.store.proofs.Store.seal.Goals as goal

pub returns-in_err-make_last-clause-seals : goal.returns-in_err-make_last-clause-seals
returns-in_err-make_last-clause-seals g c =
    let p = err_from_is_err_and c.from_residual.result c.from_residual.ensures.1 in
    rw p.1 (lost_either (g.D.Device.medium c.args.d.now) _ (next c.args.part.now) (c.in_err-make_last.ensures.settles _ c.requires.intact.ready))

pub write_head-requires : goal.write_head-requires
write_head-requires g c =
    let s = c.in_ok-make_last.ensures.settles _ c.requires.intact.ready in
    record {
      kept = s.ready.kept;
      sound = s.ready.follows.ok;
      firm = s.ready.last tt;
      asks = omega (arith, c.requires.asks, s.left);
    }

pub returns-in_err-write_head-clause-seals : goal.returns-in_err-write_head-clause-seals
returns-in_err-write_head-clause-seals g c =
    let p = err_from_is_err_and c.from_residual-in_err-write_head.result c.from_residual-in_err-write_head.ensures.1 in
    let s = c.in_ok-make_last.ensures.settles _ c.requires.intact.ready in
    rw p.1 (either_like (g.D.Device.medium c.args.d.now) (g.D.Device.medium c.make_last.new.d) _ (next c.args.part.now) s.pages s.shown c.in_err-write_head.ensures.moves)

pub returns-clause-seals : goal.returns-clause-seals
returns-clause-seals g c = sealed _ _ _ c.args.part.now c.args.self.now c.make_last.new.self c.requires.intact (c.in_ok-make_last.ensures.settles _ c.requires.intact.ready) c.in_ok-write_head.ensures.moves
