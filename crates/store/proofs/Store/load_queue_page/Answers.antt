use Rattle.std.proofs.Common.{ap, ◌∙◌, arith}
use Rattle.std.proofs.lemmas.Result.{err_from_is_err_and}
use Rattle.store.specs.Head.{Head}
use Rattle.store.proofs.Comes.{read_lost}
use Rattle.store.proofs.Queued.{loaded_ring, loaded_head}
use Rattle.store.proofs.Views.{intact_part}
use Rattle.store.proofs.Store.load_queue_page.Goals as goal
use Rattle.store.proofs.Store.load_queue_page.Goals.{then-i-full+in_ok-load_ring_page, else-i-full}

pub load_ring_page-requires : goal.load_ring_page-requires
load_ring_page-requires g c = record { intact = c.requires.intact; full = omega (arith, c.if-i-full.true, c.full.ensures ∙ ap (λ (h : Head). h.full) c.next_head.ensures); asks = c.requires.asks }

pub returns-in_err-load_ring_page-clause-loads : goal.returns-in_err-load_ring_page-clause-loads
returns-in_err-load_ring_page-clause-loads g c =
    let p = err_from_is_err_and c.from_residual.result c.from_residual.ensures.1 in
    rw p.1 (read_lost _ _ _ _ c.requires.intact.ready.kept.safe c.in_err-load_ring_page.ensures.reads)

pub returns-clause-loads : goal.returns-clause-loads
returns-clause-loads g c =
    let f = c.full.ensures ∙ ap (λ (h : Head). h.full) c.next_head.ensures in
    elim c.if-i-full.branch [
      | then-i-full+in_ok-load_ring_page w ↦
          let y = w.in_ok-load_ring_page.ensures in
          rw (w.d-is) (loaded_ring _ _ c.args.part.now c.if-i-full.part c.args.self.now c.args.i c.places_on.result c.places_on.ensures.start c.places_on.ensures.end (omega (arith, w.if-i-full.true, f)) c.requires.intact
          (rw (w.part-is) y.reads) (rw (w.part-is) y.intact) (rw (w.part-is) y.head) (rw (w.part-is) y.frames))
      | else-i-full w ↦
          let y = w.next_to_scratch.ensures in
          rw (w.d-is) (loaded_head _ c.args.part.now c.if-i-full.part c.args.self.now c.args.i c.places_on.result c.places_on.ensures.start c.places_on.ensures.end (omega (arith, w.if-i-full.false, f, c.requires.page)) c.requires.intact
          (rw (w.part-is) y.scratch) c.if-i-full.array_long (rw (w.part-is) y.head) (rw (w.part-is) y.frames))
    ]

pub returns-clause-intact : goal.returns-clause-intact
returns-clause-intact g c =
    elim c.if-i-full.branch [
      | then-i-full+in_ok-load_ring_page w ↦ rw (w.d-is) (rw (w.part-is) w.in_ok-load_ring_page.ensures.intact)
      | else-i-full w ↦
          let y = w.next_to_scratch.ensures in
          rw (w.d-is) (intact_part _ c.args.part.now c.if-i-full.part c.args.self.now c.if-i-full.array_long (rw (w.part-is) y.frames) (rw (w.part-is) y.head) c.requires.intact)
    ]
