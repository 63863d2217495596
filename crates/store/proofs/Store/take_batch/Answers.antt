use Rattle.std.proofs.Common.{ℕ, ◌<◌, true, false, List, sym, ap, subst, inl, arith}
use Rattle.std.proofs.lemmas.Result.{err_from_is_err_and}
use Rattle.frames.specs.Layout.{cache_of}
use Rattle.frames.specs.Frames.{Sound as Framed, batch_page, batch_words, entry_in}
use Rattle.store.specs.Medium.{WroteAll}
use Rattle.store.specs.Head.{Sound}
use Rattle.store.specs.State.{Firm}
use Rattle.store.specs.Store.{frames_of, next, cache}
use Rattle.store.proofs.Grows.{length_queue}
use Rattle.store.proofs.Cached.{batch_used}
use Rattle.store.proofs.Batches.{over_sound, over_firm, over_cut, put_cut, put_done}
use Rattle.store.proofs.Store.take_batch.Goals as goal

pub returns-in_err-make_last-clause-takes : goal.returns-in_err-make_last-clause-takes
returns-in_err-make_last-clause-takes g c =
    let p = err_from_is_err_and c.from_residual.result c.from_residual.ensures.1 in
    let l = c.in_err-make_last.ensures.settles (next c.args.part.now) c.requires.intact.ready in
    rw p.1 (record { off = l.off; pages = l.pages; back = λ f b. let r = l.back f b in (r.0, inl r.1) })

pub take_over-requires : goal.take_over-requires
take_over-requires g c =
    let i = c.requires.intact in let k = i.ready.follows.ok in
    record {
      table = i.table;
      head = (k.few, k.side);
      ring = (k.turn, (k.room, omega (arith, k.done, k.brim, k.room, c.requires.worked, length_queue (next c.args.part.now) (g.D.Device.medium c.args.d.now).shown)));
    }

pub write_head-requires : goal.write_head-requires
write_head-requires g c =
    let part = c.args.part.now in let i = c.requires.intact in
    let m = g.D.Device.medium c.args.d.now in let a = g.D.Device.medium c.make_last.new.d in
    let x = c.in_ok-make_last.ensures.settles (next part) i.ready in
    let e = c.take_over.ensures.taken in
    record {
      kept = x.ready.kept;
      sound = subst (Sound a.pages) (sym e) (over_sound m a part c.args.self.now c.make_last.new.self i c.requires.imaged c.requires.worked x);
      firm = subst (Firm a) (sym e) (over_firm m a part c.args.self.now c.make_last.new.self i c.requires.imaged c.requires.worked x);
      asks = omega (arith, c.requires.asks, x.left);
    }

pub returns-in_err-write_head-clause-takes : goal.returns-in_err-write_head-clause-takes
returns-in_err-write_head-clause-takes g c =
    let p = err_from_is_err_and c.from_residual-in_err-write_head.result c.from_residual-in_err-write_head.ensures.1 in
    let part = c.args.part.now in let i = c.requires.intact in
    let m = g.D.Device.medium c.args.d.now in let a = g.D.Device.medium c.make_last.new.d in
    let x = c.in_ok-make_last.ensures.settles (next part) i.ready in
    rw p.1 (over_cut m a part c.args.self.now c.make_last.new.self i c.requires.imaged c.requires.worked x _ (next c.take_over.new.part) c.take_over.ensures.taken c.in_err-write_head.ensures.moves)

pub install-requires : goal.install-requires
install-requires g c =
    let part = c.args.part.now in let i = c.requires.intact in
    let x = c.in_ok-make_last.ensures.settles (next part) i.ready in
    let v = c.in_ok-write_head.ensures.moves in
    let e = c.take_over.ensures.frames in
    record {
      table = subst Framed (sym e) i.table;
      near = subst (λ (f : List ℕ). (k : ℕ) → k < (cache_of f).count → batch_page (cache_of f) k < (g.D.Device.medium c.write_head.new.d).pages) (sym e)
          (λ k l. let u = batch_used (frames_of part) i.table k l in omega (arith, (i.plain (entry_in (cache part) k) u.0 u.1).1, x.pages, v.pages));
      asks = omega (arith, c.requires.asks, x.left, v.left, ap (λ (f : List ℕ). (cache_of f).count) e);
    }

pub returns-in_err-install-clause-takes : goal.returns-in_err-install-clause-takes
returns-in_err-install-clause-takes g c =
    let p = err_from_is_err_and c.from_residual-in_err-install.result c.from_residual-in_err-install.ensures.1 in
    let part = c.args.part.now in let i = c.requires.intact in
    let m = g.D.Device.medium c.args.d.now in let a = g.D.Device.medium c.make_last.new.d in
    let b = g.D.Device.medium c.write_head.new.d in let e = g.D.Device.medium c.install.new.d in
    let x = c.in_ok-make_last.ensures.settles (next part) i.ready in
    rw p.1 (put_cut m a part c.args.self.now c.make_last.new.self i c.requires.imaged c.requires.worked x b e c.take_over.new.part false c.take_over.ensures.taken c.in_ok-write_head.ensures.moves
    (subst (λ (f : List ℕ). WroteAll (cache_of f).count (cache_of f).count (batch_page (cache_of f)) (batch_words (cache_of f)) b false e) c.take_over.ensures.frames c.in_err-install.ensures.row) tt)

pub settle-requires : goal.settle-requires
settle-requires g c = record { table = subst Framed (sym c.take_over.ensures.frames) c.requires.intact.table }

pub returns-clause-takes : goal.returns-clause-takes
returns-clause-takes g c =
    let part = c.args.part.now in let i = c.requires.intact in let mid = c.take_over.new.part in
    let m = g.D.Device.medium c.args.d.now in let a = g.D.Device.medium c.make_last.new.d in
    let b = g.D.Device.medium c.write_head.new.d in let e = g.D.Device.medium c.install.new.d in
    let x = c.in_ok-make_last.ensures.settles (next part) i.ready in
    let y = c.settle.ensures in
    put_done m a part c.args.self.now c.make_last.new.self i c.requires.imaged c.requires.worked x b e mid true c.take_over.ensures.taken c.in_ok-write_head.ensures.moves
    (subst (λ (f : List ℕ). WroteAll (cache_of f).count (cache_of f).count (batch_page (cache_of f)) (batch_words (cache_of f)) b true e) c.take_over.ensures.frames c.in_ok-install.ensures.row) tt
    c.settle.new.part c.take_over.ensures.frames y.head c.settle.array_long y.table y.cache y.shown y.clean
