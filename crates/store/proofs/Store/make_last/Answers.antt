use Rattle.std.proofs.lemmas.Result.{err_from_is_err_and}
use Rattle.store.proofs.Lasts.{settle_lost}
use Rattle.store.proofs.Store.make_last.Goals as goal

pub returns-in_err-sync-clause-settles : goal.returns-in_err-sync-clause-settles
returns-in_err-sync-clause-settles g c =
    let p = err_from_is_err_and c.from_residual.result c.from_residual.ensures.1 in
    rw p.1 (λ h y. settle_lost _ _ h _ y c.in_err-sync.ensures.synced)
