use Rattle.std.proofs.Common.{ℕ, List, true, false, refl, subst}
use Rattle.std.proofs.lemmas.Result.{err_from_is_err_and}
use Rattle.store.specs.Medium.{Wrote}
use Rattle.store.specs.Store.{next_of}
use Rattle.store.proofs.Lasts.{moves_cut, moves_sync}
use Rattle.store.proofs.lasting.write_head.Goals as goal

pub returns-in_err-write-clause-moves : goal.returns-in_err-write-clause-moves
returns-in_err-write-clause-moves g c =
    let p = err_from_is_err_and c.from_residual.result c.from_residual.ensures.1 in
    let w = subst (λ (b : List ℕ). Wrote 1 (g.D.Device.medium c.args.d.now) 0 b false (g.D.Device.medium c.write.new.self)) c.next_page.ensures.words c.in_err-write.ensures.wrote in
    rw p.1 (moves_cut _ _ (next_of c.args.part.now) c.requires.kept c.requires.sound c.requires.firm _ false w refl w.on (λ q x i. i))

pub returns-clause-moves : goal.returns-clause-moves
returns-clause-moves g c =
    let w = subst (λ (b : List ℕ). Wrote 1 (g.D.Device.medium c.args.d.now) 0 b true (g.D.Device.medium c.write.new.self)) c.next_page.ensures.words c.in_ok-write.ensures.wrote in
    moves_sync _ _ _ (next_of c.args.part.now) _ c.requires.kept c.requires.sound c.requires.firm w c.sync.ensures.synced
