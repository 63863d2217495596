use Rattle.std.proofs.Common.{ap, ◌∙◌, sym, arith}
use Rattle.node.proofs.Entries.{amended_key}
use Rattle.node.specs.Node.{amended}
use Rattle.node.proofs.Node.amend.Goals as goal

pub returns-in-Some : goal.returns-in-Some
returns-in-Some c =
    let v = c.args.self.now in let j = c.args.j in
    c.set.ensures ∙ ap (λ es. record v { pairs = es }) (amended_key j v.pairs c.in-Some.key c.entry-child.result (omega arith) c.entry-child.ensures ∙ ap (λ o. amended v.pairs j o) (sym c.in-Some.is))
