use Rattle.std.proofs.Common.{sym, ap, ◌∙◌, arith}
use Rattle.std.proofs.lemmas.Result.{err_from_is_err_and}
use Rattle.frames.specs.Layout.{Cache}
use Rattle.frames.specs.Frames.{slot_of}
use Rattle.store.proofs.Comes.{read_lost}
use Rattle.store.proofs.Views.{intact_read, got_disk}
use Rattle.store.proofs.Store.read_page.Goals as goal

pub returns-in_err-read-clause-got : goal.returns-in_err-read-clause-got
returns-in_err-read-clause-got g c =
    let p = err_from_is_err_and c.from_residual.result c.from_residual.ensures.1 in
    rw p.1 (read_lost _ _ _ _ c.requires.intact.ready.kept.safe c.in_err-read.ensures.reads)

pub returns-clause-got : goal.returns-clause-got
returns-clause-got g c =
    let r = c.in_ok-read.ensures.reads in
    let m = g.D.Device.medium c.args.d.now in let e = g.D.Device.medium c.read.new.self in
    got_disk m e c.args.part.now c.keep.new.part c.args.self.now c.args.p c.read.new.into (ap (λ (d : Cache). slot_of d c.args.p) (sym c.look-frames.ensures) ∙ sym c.in_default.ensures.slot) r
    (c.keep.ensures.kept e c.args.self.now (intact_read m e c.args.part.now c.args.self.now _ _ _ r c.requires.intact) c.requires.near.0 (omega (arith, c.requires.near.1.0, r.pages)) (r.got tt ∙ sym (ap (λ s. s c.args.p) r.shown)))
