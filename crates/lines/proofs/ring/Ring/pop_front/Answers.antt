use Rattle.std.proofs.Common.{◌≡◌, ◌+◌, ◌-◌, ◌<◌, ◌≤◌, ◌⊎◌, ◌∷◌, sym, refl, ap, ◌∙◌, inl, inr, arith}
use Rattle.lines.specs.Rings.{lines_of}
use Rattle.lines.proofs.Circle.{ring, pop_lines}
use Rattle.lines.proofs.ring.Ring.pop_front.Goals as goal
use Rattle.lines.proofs.ring.Ring.pop_front.Goals.{then-self, else-self}

pub returns : goal.returns
returns c =
    let w = c.args.words.now in
    let r = c.args.self in
    let s = c.if-self.start in
    let either : ((r.start + 1 < r.cap) × (s ≡ r.start + 1)) ⊎ ((r.cap ≤ r.start + 1) × (s ≡ 0)) = elim c.if-self.branch [ then-self v ↦ inl (v.if-self.true, v.start-is) | else-self v ↦ inr (v.if-self.false, v.start-is) ] in
    let low : s < r.cap = elim either [ inl p ↦ omega arith | inr p ↦ omega arith ] in
    record {
      lines = pop_lines w r s (omega arith) (omega arith) c.requires.1 either ∙ ap (λ x. x ∷ lines_of w (ring r.cap s (r.count - 1))) (sym c.read_line-line.ensures);
      holds = record { words = omega arith; start = low; count = omega arith; small = omega arith };
      shrunk = (refl, omega arith);
    }
