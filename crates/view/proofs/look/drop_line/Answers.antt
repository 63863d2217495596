use Rattle.std.proofs.Common.{ap, ◌∙◌}
use Rattle.lines.specs.declared.line.Line.TheVariants.{Cleared}
use Rattle.view.specs.Upkeep.{key_of, next_key}
use Rattle.view.proofs.look.drop_line.Goals as goal

pub returns : goal.returns
unfolding next_key
returns g c =
    let e = c.in_ok-next.ensures in
    record { told = ap (Cleared c.args.k) (c.key_of-above.ensures ∙ ap key_of e.told); asked = e.asked; tables = c.next.ensures.tables; passed = e.passed }
