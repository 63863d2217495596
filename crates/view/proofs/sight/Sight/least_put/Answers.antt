use Rattle.std.proofs.Common.{refl, ◌∙◌, rules}
use Rattle.std.proofs.lemmas.Iterator.Consumers.{YieldsList-from_first, fold_from_yields_List}
use Rattle.view.specs.Nexts.{least_line}
use Rattle.view.specs.Room.{says_of}
use Rattle.view.proofs.Onward.{least_fold}
use Rattle.view.proofs.sight.Sight.least_put.Goals as goal

pub returns : goal.returns
returns c =
    let f = says_of c.args.self.now in
    fold_from_yields_List _ (λ b l. least_line f c.args.k l b) c.args.best c.fold.result c.fold.ensures.ran (YieldsList-from_first (λ x. x) (λ rest. rest) c.args.lines refl) (λ a x b q s. search rules)
    ∙ least_fold f c.args.k c.args.lines c.args.best
