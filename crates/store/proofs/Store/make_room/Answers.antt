use Rattle.std.proofs.Common.{◌≡◌, length, refl, ap, arith}
use Rattle.store.specs.Head.{Head}
use Rattle.store.specs.Store.{next}
use Rattle.store.proofs.Grows.{held_refl, ring_room}
use Rattle.store.proofs.Store.make_room.Goals as goal

pub spill-requires : goal.spill-requires
spill-requires g c =
    let k = c.requires.ready.follows.ok in
    let b : length (next c.args.part.now).own ≡ 128 = omega (arith, k.brim, c.own-own.ensures, ap (λ (h : Head). length h.own) c.next_head.ensures, c.if-own-lt-PER_PAGE.false) in
    record { ready = c.requires.ready; brim = b; room = ring_room _ _ (g.D.Device.medium c.args.d.now).shown k c.requires.room b; asks = c.requires.asks }

pub returns-then-own-lt-PER_PAGE-clause-spills : goal.returns-then-own-lt-PER_PAGE-clause-spills
returns-then-own-lt-PER_PAGE-clause-spills g c = record {
  held = held_refl _;
  ready = c.requires.ready;
  queue = refl;
  room = omega (arith, c.own-own.ensures, ap (λ (h : Head). length h.own) c.next_head.ensures, c.if-own-lt-PER_PAGE.true);
  frames = refl;
  store = refl;
  left = omega arith;
}
