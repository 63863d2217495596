use Rattle.std.proofs.Common.{◌≤◌, refl, ap, ◌∙◌, arith}
use Rattle.std.proofs.lemmas.Result.{err_from_is_err_and}
use Rattle.store.specs.Head.{head_of}
use Rattle.store.specs.Store.{next}
use Rattle.ledger.specs.Ledger.{part_of}
use Rattle.ledger.proofs.Parting.{lent, only_aside}
use Rattle.ledger.proofs.Opens.{raised_lost}
use Rattle.ledger.proofs.Filing.{no_queue, took_none, took_room, took_more, took_all, aside_trans}
use Rattle.ledger.proofs.open.load_queue.Goals as goal

pub loop-i-init : goal.loop-i-init
loop-i-init g c = record { took = took_none _ _ _ _ c.requires.size refl (no_queue _ _ refl); tied = refl }

pub load_queue_page-requires-clause-intact : goal.load_queue_page-requires-clause-intact
load_queue_page-requires-clause-intact g c = let h = c.requires.raised in (c.loop-i.invariant.took.raised h.0 h.1 h.2).intact

pub load_queue_page-requires-clause-page : goal.load_queue_page-requires-clause-page
load_queue_page-requires-clause-page g c = omega (arith, c.loop-i-test.true, c.queue_pages-i-end.ensures, ap (λ w. (head_of w).full) c.loop-i.invariant.took.head)

pub returns-in_err-places-clause-loads : goal.returns-in_err-places-clause-loads
returns-in_err-places-clause-loads g c = λ p b h.
    let n = err_from_is_err_and c.from_residual.result c.from_residual.ensures.1 in
    rw n.1 (raised_lost p _ _ _ b (c.loop-i.invariant.took.raised p b h) _ c.in_err-places.ensures.loads)

pub returns-in_err-places-clause-aside : goal.returns-in_err-places-clause-aside
returns-in_err-places-clause-aside g c =
    let k = c.loop-i.invariant.took in
    aside_trans _ _ _ k.aside (only_aside _ _ (lent c.loop-i.room c.load_queue_page.new.words k.ring.room c.load_queue_page.auto.words).only)

pub returns-in_err-places-clause-tied : goal.returns-in_err-places-clause-tied
returns-in_err-places-clause-tied g c = c.load_queue_page.ensures.tied ∙ c.loop-i.invariant.tied

pub add_page-queue-requires-clause-few : goal.add_page-queue-requires-clause-few
add_page-queue-requires-clause-few g c =
    let h = c.requires.raised in
    let k = c.loop-i.invariant.took in
    let le : c.loop-i.i ≤ (next (part_of c.args.room.now)).full = omega (arith, c.loop-i-test.true, c.queue_pages-i-end.ensures) in
    took_room h.0 _ c.args.room.now c.args.store.now h.1 h.2 c.loop-i.i _ c.loop-i.room c.loop-i.queue k le c.in_ok-places.places _ c.load_queue_page.new.words _ c.in_ok-places.ensures.loads
    (lent c.loop-i.room c.load_queue_page.new.words k.ring.room c.load_queue_page.auto.words)

pub loop-i-preserved : goal.loop-i-preserved
loop-i-preserved g c =
    let h = c.requires.raised in
    let k = c.loop-i.invariant.took in
    let le : c.loop-i.i ≤ (next (part_of c.args.room.now)).full = omega (arith, c.loop-i-test.true, c.queue_pages-i-end.ensures) in
    let e = c.add_page-queue.ensures in
    record {
      took = took_more h.0 _ c.args.room.now c.args.store.now h.1 h.2 c.loop-i.i _ c.loop-i.room c.loop-i.queue k le c.in_ok-places.places _ c.load_queue_page.new.words _ c.in_ok-places.ensures.loads
          (lent c.loop-i.room c.load_queue_page.new.words k.ring.room c.load_queue_page.auto.words) c.add_page-queue.new.room c.add_page-queue.result e.lines e.queue e.only;
      tied = c.load_queue_page.ensures.tied ∙ c.loop-i.invariant.tied;
    }

pub returns-clause-loads : goal.returns-clause-loads
returns-clause-loads g c = λ p b h.
    took_all p _ _ _ c.loop-i.i _ _ _ c.loop-i.invariant.took (omega (arith, c.loop-i-test.false, c.loop-i.auto.i-end, c.queue_pages-i-end.ensures)) b h
