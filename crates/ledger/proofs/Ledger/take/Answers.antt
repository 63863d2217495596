use Rattle.std.proofs.Common.{ℕ, List, length, true, false, not, T, sym, ap, ◌∙◌, subst, arith}
use Rattle.std.proofs.lemmas.Result.{err_from_is_err_and}
use Rattle.store.specs.declared.Store.{Store}
use Rattle.store.specs.Store.{cache}
use Rattle.ledger.proofs.Parting.{lent}
use Rattle.ledger.proofs.Standing.{take_stays, take_tree}
use Rattle.ledger.proofs.Ledger.take.Goals as goal

pub take_batch-requires-clause-long : goal.take_batch-requires-clause-long
take_batch-requires-clause-long g c = c.requires.stands.2.intact.long

pub take_batch-requires-clause-intact : goal.take_batch-requires-clause-intact
take_batch-requires-clause-intact g c = c.requires.stands.2.intact

pub take_batch-requires-clause-worked : goal.take_batch-requires-clause-worked
take_batch-requires-clause-worked g c = let s = c.requires.stands.2 in omega (arith, s.done, ap (λ x. length x) s.sealed)

pub returns-in_err-lasted-clause-book : goal.returns-in_err-lasted-clause-book
returns-in_err-lasted-clause-book g c = λ p b s.
    let n = err_from_is_err_and c.from_residual.result c.from_residual.ensures.1 in
    rw n.1 (take_stays p _ c.args.room.now c.args.self.now b s _ _ _ c.take_batch.new.store (lent c.args.room.now c.take_batch.new.words s.ring.room c.take_batch.auto.words) false c.in_err-lasted.ensures.takes)

pub returns-in_err-lasted-clause-asked : goal.returns-in_err-lasted-clause-asked
returns-in_err-lasted-clause-asked g c = let n = err_from_is_err_and c.from_residual.result c.from_residual.ensures.1 in rw n.1 tt

pub returns-in_err-lasted-clause-room : goal.returns-in_err-lasted-clause-room
returns-in_err-lasted-clause-room g c = (lent c.args.room.now c.take_batch.new.words c.requires.stands.2.ring.room c.take_batch.auto.words).only

pub returns-clause-book : goal.returns-clause-book
returns-clause-book g c = λ p b s.
    take_stays p _ c.args.room.now c.args.self.now b s _ _ _ c.take_batch.new.store (lent c.args.room.now c.take_batch.new.words s.ring.room c.take_batch.auto.words) true c.in_ok-lasted.ensures.takes

pub returns-clause-done : goal.returns-clause-done
returns-clause-done g c =
    let k = c.in_ok-lasted.ensures.takes in
    let t = (lent c.args.room.now c.take_batch.new.words c.requires.stands.2.ring.room c.take_batch.auto.words).part in
    (subst (λ (x : Store). T (not x.imaged)) (sym k.store) tt, (ap (λ (x : Store). x.worked) k.store, ap (λ (x : List ℕ). (cache x).count) t ∙ k.empty))

pub returns-clause-asked : goal.returns-clause-asked
returns-clause-asked g c = c.in_ok-lasted.ensures.takes.left

pub returns-clause-room : goal.returns-clause-room
returns-clause-room g c = (lent c.args.room.now c.take_batch.new.words c.requires.stands.2.ring.room c.take_batch.auto.words).only

pub returns-in_err-lasted-clause-tree : goal.returns-in_err-lasted-clause-tree
returns-in_err-lasted-clause-tree g c = let n = err_from_is_err_and c.from_residual.result c.from_residual.ensures.1 in rw n.1 tt

pub returns-clause-tree : goal.returns-clause-tree
returns-clause-tree g c = let s = c.requires.stands.2 in
    take_tree _ _ c.args.room.now c.args.self.now _ s _ _ _ c.take_batch.new.store (lent c.args.room.now c.take_batch.new.words s.ring.room c.take_batch.auto.words) c.in_ok-lasted.ensures.takes
