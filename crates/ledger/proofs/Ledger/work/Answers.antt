use Rattle.std.proofs.Common.{arith}
use Rattle.std.proofs.lemmas.Result.{err_from_is_err_and}
use Rattle.treeindex.proofs.Rooms.{came_of}
use Rattle.ledger.proofs.Works.{paged_now, ready_now, worked_cut, worked_few, worked_on, worked_stands, worked_upkept}
use Rattle.ledger.proofs.Ledger.work.Goals as goal

pub apply_in-requires-clause-paged : goal.apply_in-requires-clause-paged
apply_in-requires-clause-paged g c = paged_now _ _ c.args.room.now c.args.self.now _ c.requires.stands.2

pub apply_in-requires-clause-ready : goal.apply_in-requires-clause-ready
apply_in-requires-clause-ready g c = ready_now _ _ c.args.room.now c.args.self.now _ c.requires.stands.2 c.requires.workable

pub returns-in_err-self-clause-book : goal.returns-in_err-self-clause-book
returns-in_err-self-clause-book g c = λ p b s.
    let n = err_from_is_err_and c.from_residual.result c.from_residual.ensures.1 in
    rw n.1 (worked_cut p _ c.args.room.now c.args.self.now b s _ _ c.apply_in.new.store c.in_err-self.ensures.onto)

pub returns-in_err-self-clause-upkept : goal.returns-in_err-self-clause-upkept
returns-in_err-self-clause-upkept g c = let n = err_from_is_err_and c.from_residual.result c.from_residual.ensures.1 in rw n.1 tt

pub overflow_add-self : goal.overflow_add-self
overflow_add-self g c =
    let few = worked_few _ _ c.args.room.now c.args.self.now _ c.requires.stands.2 _ c.apply_in.new.room c.apply_in.new.store (came_of c.in_ok-self.ensures.onto) c.args.counts.now c.in_ok-self.field-0 c.in_ok-self.ensures.goes in
    omega (arith, few)

pub returns-clause-book : goal.returns-clause-book
returns-clause-book g c = λ p b s.
    worked_stands p _ c.args.room.now c.args.self.now b s _ c.apply_in.new.room c.apply_in.new.store (came_of c.in_ok-self.ensures.onto) c.args.counts.now c.in_ok-self.field-0 c.in_ok-self.ensures.goes

pub returns-clause-worked : goal.returns-clause-worked
returns-clause-worked g c =
    worked_on _ _ c.args.room.now c.args.self.now _ c.requires.stands.2 _ c.apply_in.new.room c.apply_in.new.store (came_of c.in_ok-self.ensures.onto) c.args.counts.now c.in_ok-self.field-0 c.in_ok-self.ensures.goes

pub returns-clause-upkept : goal.returns-clause-upkept
returns-clause-upkept g c =
    worked_upkept _ _ c.args.room.now c.args.self.now _ c.requires.stands.2 _ c.apply_in.new.room c.apply_in.new.store (came_of c.in_ok-self.ensures.onto) c.args.counts.now c.in_ok-self.field-0 c.in_ok-self.ensures.goes
