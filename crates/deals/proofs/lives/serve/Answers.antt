use Rattle.std.proofs.Common.{◌≡◌, ℕ, T, ◌∷◌, sym, refl, ap, ◌∙◌, subst, arith}
use Rattle.deals.specs.Deals.{Told, aged}
use Rattle.deals.specs.Promise.{can}
use Rattle.deals.specs.Holds.{Holds, hears}
use Rattle.deals.specs.Sits.{Sits}
use Rattle.deals.proofs.Allowed.{sits_allowed}
use Rattle.deals.proofs.Steps.{quiet, came, ready_one, ready_none, alike_run, noted, told_one, told_none}
use Rattle.deals.proofs.lives.serve.Goals as goal
use Rattle.deals.proofs.lives.serve.Goals.{in-Some, in_default}

pub ask-requires-clause-one : goal.ask-requires-clause-one
ask-requires-clause-one g c = (came c.in-Some.ensures.0).0

pub ask-requires-clause-stands : goal.ask-requires-clause-stands
ask-requires-clause-stands g c =
    let p = c.requires.stands.0 in
    let h = c.loop-t.invariant p c.requires.stands.1 in
    (p, g.D.Pages.disk c.loop-t.d, h.0, h.2, quiet c.in-Some.who h.1 (came c.in-Some.ensures.0).1)

pub turn-requires-clause-stands : goal.turn-requires-clause-stands
turn-requires-clause-stands g c =
    let k : (p : ℕ) → Holds p (g.C.Clerks.seen c.args.c.now) (Sits p c.args.f.now c.args.room.now (g.D.Pages.disk c.args.d.now)) → Holds p (g.C.Clerks.seen c.next.new.self) (Sits p c.match-next.f c.match-next.room (g.D.Pages.disk c.allow.new.self)) =
    λ p h.
    elim c.match-next.branch [
      | in-Some w ↦ ready_one (Sits p) (sits_allowed 512 p) w.in-Some.who w.in-Some.o (c.loop-t.invariant p h) w.in-Some.ensures.0 (w.ask.ensures.asked p _) w.f-is w.room-is c.allow.ensures
      | in_default w ↦ ready_none (Sits p) (sits_allowed 512 p) (c.loop-t.invariant p h) w.in_default.is c.next.ensures.0 w.f-is w.room-is c.allow.ensures
    ] in
    (c.requires.stands.0, g.C.Clerks.seen c.next.new.self, k c.requires.stands.0 c.requires.stands.1)

pub returns-in-Err-clause-dark : goal.returns-in-Err-clause-dark
returns-in-Err-clause-dark g c = c.in-Err.ensures.only refl

pub returns-in-Err-clause-falls : goal.returns-in-Err-clause-falls
returns-in-Err-clause-falls g c =
    let k : (p : ℕ) → Holds p (g.C.Clerks.seen c.args.c.now) (Sits p c.args.f.now c.args.room.now (g.D.Pages.disk c.args.d.now)) → Holds p (g.C.Clerks.seen c.next.new.self) (Sits p c.match-next.f c.match-next.room (g.D.Pages.disk c.allow.new.self)) =
    λ p h.
    elim c.match-next.branch [
      | in-Some w ↦ ready_one (Sits p) (sits_allowed 512 p) w.in-Some.who w.in-Some.o (c.loop-t.invariant p h) w.in-Some.ensures.0 (w.ask.ensures.asked p _) w.f-is w.room-is c.allow.ensures
      | in_default w ↦ ready_none (Sits p) (sits_allowed 512 p) (c.loop-t.invariant p h) w.in_default.is c.next.ensures.0 w.f-is w.room-is c.allow.ensures
    ] in
    λ p h. c.in-Err.ensures.turns p _ (k p h)

pub turned-requires : goal.turned-requires
turned-requires g c =
    let k : (p : ℕ) → Holds p (g.C.Clerks.seen c.args.c.now) (Sits p c.args.f.now c.args.room.now (g.D.Pages.disk c.args.d.now)) → Holds p (g.C.Clerks.seen c.next.new.self) (Sits p c.match-next.f c.match-next.room (g.D.Pages.disk c.allow.new.self)) =
    λ p h.
    elim c.match-next.branch [
      | in-Some w ↦ ready_one (Sits p) (sits_allowed 512 p) w.in-Some.who w.in-Some.o (c.loop-t.invariant p h) w.in-Some.ensures.0 (w.ask.ensures.asked p _) w.f-is w.room-is c.allow.ensures
      | in_default w ↦ ready_none (Sits p) (sits_allowed 512 p) (c.loop-t.invariant p h) w.in_default.is c.next.ensures.0 w.f-is w.room-is c.allow.ensures
    ] in
    let p = c.requires.stands.0 in
    let h = c.requires.stands.1 in
    let e : c.pages-pages.result ≡ p = c.pages-pages.ensures ∙ h.2.seated.stands.lasts.pages in
    let w = c.in-Ok.ensures.turns p _ (k p h) in
    (omega (arith, c.more.ensures (subst T (sym c.if-more.true) tt), c.next.ensures.1), (aged can w.to, alike_run e refl (noted w)))

pub told-requires : goal.told-requires
told-requires g c =
    let k : (p : ℕ) → Holds p (g.C.Clerks.seen c.args.c.now) (Sits p c.args.f.now c.args.room.now (g.D.Pages.disk c.args.d.now)) → Holds p (g.C.Clerks.seen c.next.new.self) (Sits p c.match-next.f c.match-next.room (g.D.Pages.disk c.allow.new.self)) =
    λ p h.
    elim c.match-next.branch [
      | in-Some w ↦ ready_one (Sits p) (sits_allowed 512 p) w.in-Some.who w.in-Some.o (c.loop-t.invariant p h) w.in-Some.ensures.0 (w.ask.ensures.asked p _) w.f-is w.room-is c.allow.ensures
      | in_default w ↦ ready_none (Sits p) (sits_allowed 512 p) (c.loop-t.invariant p h) w.in_default.is c.next.ensures.0 w.f-is w.room-is c.allow.ensures
    ] in
    let p = c.requires.stands.0 in
    let h = c.requires.stands.1 in
    let e : c.pages-pages.result ≡ p = c.pages-pages.ensures ∙ h.2.seated.stands.lasts.pages in
    let w = c.in-Ok.ensures.turns p _ (k p h) in
    (omega (arith, c.more.ensures (subst T (sym c.if-more.true) tt), c.next.ensures.1, c.turned.ensures.1), (hears c.in-Ok.x (aged can w.to), alike_run e (ap (λ es. Told c.in-Some-x.who c.in-Some-x.a ∷ es) c.turned.ensures.0) (told_one w c.in-Some-x.who c.in-Some-x.a c.in-Some-x.is)))

pub loop-t-preserved-in-Some-x : goal.loop-t-preserved-in-Some-x
loop-t-preserved-in-Some-x g c =
    let k : (p : ℕ) → Holds p (g.C.Clerks.seen c.args.c.now) (Sits p c.args.f.now c.args.room.now (g.D.Pages.disk c.args.d.now)) → Holds p (g.C.Clerks.seen c.next.new.self) (Sits p c.match-next.f c.match-next.room (g.D.Pages.disk c.allow.new.self)) =
    λ p h.
    elim c.match-next.branch [
      | in-Some w ↦ ready_one (Sits p) (sits_allowed 512 p) w.in-Some.who w.in-Some.o (c.loop-t.invariant p h) w.in-Some.ensures.0 (w.ask.ensures.asked p _) w.f-is w.room-is c.allow.ensures
      | in_default w ↦ ready_none (Sits p) (sits_allowed 512 p) (c.loop-t.invariant p h) w.in_default.is c.next.ensures.0 w.f-is w.room-is c.allow.ensures
    ] in
    λ p h.
    let w = c.in-Ok.ensures.turns p _ (k p h) in
    (hears c.in-Ok.x (aged can w.to), alike_run refl (c.told.ensures.0 ∙ ap (λ es. Told c.in-Some-x.who c.in-Some-x.a ∷ es) c.turned.ensures.0) (told_one w c.in-Some-x.who c.in-Some-x.a c.in-Some-x.is), w.stands)

pub loop-t-preserved : goal.loop-t-preserved
loop-t-preserved g c =
    let k : (p : ℕ) → Holds p (g.C.Clerks.seen c.args.c.now) (Sits p c.args.f.now c.args.room.now (g.D.Pages.disk c.args.d.now)) → Holds p (g.C.Clerks.seen c.next.new.self) (Sits p c.match-next.f c.match-next.room (g.D.Pages.disk c.allow.new.self)) =
    λ p h.
    elim c.match-next.branch [
      | in-Some w ↦ ready_one (Sits p) (sits_allowed 512 p) w.in-Some.who w.in-Some.o (c.loop-t.invariant p h) w.in-Some.ensures.0 (w.ask.ensures.asked p _) w.f-is w.room-is c.allow.ensures
      | in_default w ↦ ready_none (Sits p) (sits_allowed 512 p) (c.loop-t.invariant p h) w.in_default.is c.next.ensures.0 w.f-is w.room-is c.allow.ensures
    ] in
    λ p h.
    let w = c.in-Ok.ensures.turns p _ (k p h) in
    (hears c.in-Ok.x (aged can w.to), alike_run refl c.turned.ensures.0 (told_none w c.in_default-x.is), w.stands)
