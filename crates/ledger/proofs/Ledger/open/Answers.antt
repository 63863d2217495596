use Rattle.std.proofs.Common.{not, T, sym, ◌∙◌, subst}
use Rattle.std.proofs.lemmas.Result.{err_from_is_err_and}
use Rattle.ledger.proofs.Parting.{lent, only_aside}
use Rattle.ledger.proofs.Opens.{lasts_lost}
use Rattle.ledger.proofs.Filing.{aside_trans}
use Rattle.ledger.proofs.Telling.{opened_here, stands_told}
use Rattle.ledger.proofs.Ledger.open.Goals as goal

pub returns-in_err-store-clause-opens : goal.returns-in_err-store-clause-opens
returns-in_err-store-clause-opens g c = λ p b h.
    let n = err_from_is_err_and c.from_residual.result c.from_residual.ensures.1 in
    rw n.1 (lasts_lost p _ b h.lasts h.book _ c.in_err-store.ensures.opens)

pub returns-in_err-store-clause-aside : goal.returns-in_err-store-clause-aside
returns-in_err-store-clause-aside g c = only_aside _ _ (lent c.args.room.now c.open.new.words c.requires.size c.open.auto.words).only

pub load_queue-requires-clause-raised : goal.load_queue-requires-clause-raised
load_queue-requires-clause-raised g c = let k = c.requires.rests in (k.0, k.1, opened_here k.0 _ k.1 k.2 _ _ _ _ _ c.in_ok-store.ensures.opens (lent c.args.room.now c.open.new.words c.requires.size c.open.auto.words))

pub returns-in_err-queue-clause-opens : goal.returns-in_err-queue-clause-opens
returns-in_err-queue-clause-opens g c = λ p b h.
    let n = err_from_is_err_and c.from_residual-in_err-queue.result c.from_residual-in_err-queue.ensures.1 in
    rw n.1 (c.in_err-queue.ensures.loads p b (opened_here p _ b h _ _ _ _ _ c.in_ok-store.ensures.opens (lent c.args.room.now c.open.new.words c.requires.size c.open.auto.words)))

pub returns-in_err-queue-clause-aside : goal.returns-in_err-queue-clause-aside
returns-in_err-queue-clause-aside g c = aside_trans _ _ _ (only_aside _ _ (lent c.args.room.now c.open.new.words c.requires.size c.open.auto.words).only) c.load_queue.ensures.aside

pub returns-in_err-queue-clause-tied : goal.returns-in_err-queue-clause-tied
returns-in_err-queue-clause-tied g c = c.load_queue.ensures.tied ∙ c.open.ensures.tied

pub tell_queue-requires-clause-queue : goal.tell_queue-requires-clause-queue
tell_queue-requires-clause-queue g c = let k = c.requires.rests in (c.in_ok-queue.ensures.loads k.0 k.1 (opened_here k.0 _ k.1 k.2 _ _ _ _ _ c.in_ok-store.ensures.opens (lent c.args.room.now c.open.new.words c.requires.size c.open.auto.words))).ring

pub tell_queue-requires-clause-raised : goal.tell_queue-requires-clause-raised
tell_queue-requires-clause-raised g c = let k = c.requires.rests in (k.0, k.1, (c.in_ok-queue.ensures.loads k.0 k.1 (opened_here k.0 _ k.1 k.2 _ _ _ _ _ c.in_ok-store.ensures.opens (lent c.args.room.now c.open.new.words c.requires.size c.open.auto.words))).raised)

pub returns-in_err-tell_queue-clause-opens : goal.returns-in_err-tell_queue-clause-opens
returns-in_err-tell_queue-clause-opens g c = λ p b h.
    let n = err_from_is_err_and c.from_residual-in_err-tell_queue.result c.from_residual-in_err-tell_queue.ensures.1 in
    rw n.1 (c.in_err-tell_queue.ensures.raises p b (c.in_ok-queue.ensures.loads p b (opened_here p _ b h _ _ _ _ _ c.in_ok-store.ensures.opens (lent c.args.room.now c.open.new.words c.requires.size c.open.auto.words))).raised)

pub returns-in_err-tell_queue-clause-aside : goal.returns-in_err-tell_queue-clause-aside
returns-in_err-tell_queue-clause-aside g c = aside_trans _ _ _ (only_aside _ _ (lent c.args.room.now c.open.new.words c.requires.size c.open.auto.words).only) (aside_trans _ _ _ c.load_queue.ensures.aside c.tell_queue.ensures.aside)

pub returns-in_err-tell_queue-clause-tied : goal.returns-in_err-tell_queue-clause-tied
returns-in_err-tell_queue-clause-tied g c = c.tell_queue.ensures.tied ∙ c.load_queue.ensures.tied ∙ c.open.ensures.tied

pub returns-clause-opens : goal.returns-clause-opens
returns-clause-opens g c = λ p b h.
    let q = c.in_ok-queue.ensures.loads p b (opened_here p _ b h _ _ _ _ _ c.in_ok-store.ensures.opens (lent c.args.room.now c.open.new.words c.requires.size c.open.auto.words)) in
    let e = c.in_ok-tell_queue.ensures in
    stands_told p _ c.load_queue.new.room c.in_ok-store.store b c.in_ok-queue.queue q _ c.tell_queue.new.room c.tell_queue.new.store (e.raises p b q.raised) e.lines e.shown e.queue

pub returns-clause-idle : goal.returns-clause-idle
returns-clause-idle g c =
    let k = c.requires.rests in
    let h = c.in_ok-tell_queue.ensures.raises k.0 k.1 (c.in_ok-queue.ensures.loads k.0 k.1 (opened_here k.0 _ k.1 k.2 _ _ _ _ _ c.in_ok-store.ensures.opens (lent c.args.room.now c.open.new.words c.requires.size c.open.auto.words))).raised in
    (h.none, subst (λ b. T (not b)) (sym h.plain) tt)

pub returns-clause-aside : goal.returns-clause-aside
returns-clause-aside g c = aside_trans _ _ _ (only_aside _ _ (lent c.args.room.now c.open.new.words c.requires.size c.open.auto.words).only) (aside_trans _ _ _ c.load_queue.ensures.aside c.tell_queue.ensures.aside)

pub returns-clause-tied : goal.returns-clause-tied
returns-clause-tied g c = c.tell_queue.ensures.tied ∙ c.load_queue.ensures.tied ∙ c.open.ensures.tied
