use Rattle.std.proofs.Common.{true, false}
use Rattle.std.proofs.lemmas.Result.{err_from_is_err_and}
use Rattle.store.proofs.Shots.{shot, shot_lost}
use Rattle.store.proofs.Store.image.Goals as goal

pub returns-in_err-write_images-clause-shoots : goal.returns-in_err-write_images-clause-shoots
returns-in_err-write_images-clause-shoots g c =
    let p = err_from_is_err_and c.from_residual.result c.from_residual.ensures.1 in
    rw p.1 (shot_lost _ _ c.args.part.now c.args.self.now false c.requires.intact c.in_err-write_images.ensures.row tt)

pub returns-clause-shoots : goal.returns-clause-shoots
returns-clause-shoots g c = shot _ _ c.args.part.now c.args.self.now true c.requires.intact c.in_ok-write_images.ensures.row tt
