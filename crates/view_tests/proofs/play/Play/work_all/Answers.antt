use Rattle.std.proofs.Common.{rules}
use Rattle.view_tests.specs.Play.{Found}
use Rattle.view_tests.proofs.Turns.{stays, chosen}
use Rattle.view_tests.proofs.play.Play.work_all.Goals as goal

pub returns : goal.returns
returns c =
    let ran = c.try_fold.ensures.ran in
    let same = stays (λ (p : Found). p.pairs) _ (λ p x q t. search rules) ran.0 _ _ ran.5 in
    chosen ran.1 _ _ _ ran.6 (λ m. search rules) (λ x t. search rules)
