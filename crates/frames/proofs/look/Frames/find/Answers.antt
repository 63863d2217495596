use Rattle.std.proofs.Common.{◌≡◌, ℕ, List, subst, Some, length, ap, sym, ◌∙◌, arith}
use Rattle.frames.specs.Layout.{Cache}
use Rattle.frames.specs.Frames.{place_in, slot_of}
use Rattle.frames.proofs.Slots.{Rows, rows, slot_zero, in_use}
use Rattle.frames.proofs.Turns.{position_place, position_some, stands_there}
use Rattle.frames.proofs.look.Frames.find.Goals as goal

pub returns-then-p-eq-FREE-clause-slot : goal.returns-then-p-eq-FREE-clause-slot
returns-then-p-eq-FREE-clause-slot c = sym (slot_zero c.args.self.now.pages c.args.p c.if-p-eq-FREE.true)

pub returns-in_err-number-clause-slot : goal.returns-in_err-number-clause-slot
returns-in_err-number-clause-slot c =
    let ps = c.args.self.now.pages in
    c.from_residual.ensures ∙ c.in_err-number.ensures ∙ position_place c.args.p c.pages.result.now
    ∙ ap (λ (xs : List ℕ). place_in xs c.args.p) (c.pages.ensures ∙ ap (λ (d : Cache). d.pages) c.self.view_is)
    ∙ sym (in_use ps c.args.p (omega (arith, c.if-p-eq-FREE.false)))

pub new-requires : goal.new-requires
new-requires c =
    omega (arith, position_some c.args.p c.pages.result.now c.in_ok-number.number c.in_ok-number.ensures, ap length c.pages.ensures, (rows c.self.inside.part.now c.self.invariant.sized).pages)

pub returns : goal.returns
returns c =
    let b = c.args.self.now in
    let there : Some c.new.result ≡ slot_of c.args.self.now c.args.p = ap (λ n. Some n) c.new.ensures ∙ c.in_ok-number.ensures ∙ position_place c.args.p c.pages.result.now
    ∙ ap (λ (xs : List ℕ). place_in xs c.args.p) (c.pages.ensures ∙ ap (λ (d : Cache). d.pages) c.self.view_is)
    ∙ sym (in_use b.pages c.args.p (omega (arith, c.if-p-eq-FREE.false))) in
    record { slot = there; stands = stands_there b (subst Rows c.self.view_is (rows c.self.inside.part.now c.self.invariant.sized)) c.args.p c.new.result (sym there) }
