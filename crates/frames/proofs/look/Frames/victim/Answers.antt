use Rattle.std.proofs.Common.{◌≡◌, ◌+◌, ◌%◌, ap, map, subst, ◌∙◌}
use Rattle.std.specs.List.{find, range_with_len}
use Rattle.frames.specs.Layout.{Cache}
use Rattle.frames.specs.Frames.{Table, Chosen}
use Rattle.frames.specs.Columns.{is_idle}
use Rattle.frames.proofs.Slots.{Rows, rows}
use Rattle.frames.proofs.Turns.{chosen_round, chosen_some}
use Rattle.frames.proofs.look.Frames.victim.Goals as goal

pub returns : goal.returns
returns c =
    let b = c.args.self.now in
    let t = subst Table c.self.view_is c.self.invariant.table in
    let r = subst Rows c.self.view_is (rows c.self.inside.part.now c.self.invariant.sized) in
    let here : c.new.result ≡ (c.args.self.now).hand = c.new.ensures ∙ c.hand.ensures ∙ ap (λ (d : Cache). d.hand) c.self.view_is in
    let e = c.first_idle.ensures ∙ ap (λ n. find (is_idle b) (map (λ s. (n + s) % 120) (range_with_len 0 120))) here in
    let chosen : Chosen c.args.self.now c.first_idle.result = rw e (chosen_round b t) in
    record { chosen = chosen; some = λ few. chosen_some b t r few _ chosen }
