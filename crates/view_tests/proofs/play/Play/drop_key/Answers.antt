use Rattle.std.proofs.Common.{◌≡◌, ℕ, List, length, sym, ap, ◌∙◌, subst, arith}
use Rattle.lines.specs.declared.line.Line.TheVariants.{Cleared}
use Rattle.lines.specs.Tables.{queue_lines}
use Rattle.view.specs.Upkeep.{next_key}
use Rattle.view_tests.specs.Play.{Sane}
use Rattle.view_tests.proofs.Sanely.{drop_ok, whole, same_seen, asked_whole, asked_sane, asked_queue}
use Rattle.view_tests.proofs.play.Play.drop_key.Goals as goal

pub invariant_of-self : goal.invariant_of-self
invariant_of-self c =
    let p = c.self.inside in
    let t = p.index.items.items in
    let u = c.drop_line.new.index.items.items in
    let a = c.as_mut_slice.result.now in
    let b = c.drop_line.new.room in
    let k = c.args.k in
    let e = c.in_ok-line.ensures in
    let full : length p.room.items ≡ p.room.len = omega arith in
    let back = asked_whole t u p.room.len p.room.items a b p.queue c.as_mut_slice.ensures.value full e.asked.same c.drop_line.auto.room c.drop_line.ensures.tables in
    let asked = asked_sane t u p.room.len p.room.items a b p.queue c.as_mut_slice.ensures.value full e.asked.same c.drop_line.auto.room c.drop_line.ensures.tables p.counts c.self.invariant in
    let now = subst (λ (w : List ℕ). Sane u w p.counts p.queue) (sym c.as_mut_slice-2.ensures.value) asked in
    let said = c.say.ensures.sane u p.queue now (drop_ok u k c.in_ok-line.line (e.told ∙ ap (λ x. Cleared k (next_key k x)) (sym e.asked.same))) in
    subst (λ (w : List ℕ). Sane u w c.say.new.counts p.queue) (sym (whole p.room.len c.say.new.room _ (omega arith) (ap length back ∙ omega arith))) said

pub returns : goal.returns
returns c =
    let p = c.self.inside in
    let t = p.index.items.items in
    let u = c.drop_line.new.index.items.items in
    let a = c.as_mut_slice.result.now in
    let b = c.drop_line.new.room in
    let q = p.queue in
    let e = c.in_ok-line.ensures in
    let full : length p.room.items ≡ p.room.len = omega arith in
    let back = asked_whole t u p.room.len p.room.items a b q c.as_mut_slice.ensures.value full e.asked.same c.drop_line.auto.room c.drop_line.ensures.tables in
    let queue = ap (λ w. queue_lines w q) (whole p.room.len c.say.new.room _ (omega arith) (ap length back ∙ omega arith))
    ∙ (c.say.ensures.queue q
    ∙ (ap (λ w. queue_lines w q) c.as_mut_slice-2.ensures.value
    ∙ asked_queue t u p.room.len p.room.items a b q c.as_mut_slice.ensures.value full e.asked.same c.drop_line.auto.room c.drop_line.ensures.tables)) in
    ap (λ s. record { pairs = s; ring = q }) (same_seen t u _ _ e.asked.same queue) ∙ c.self.view_is
