use Rattle.std.proofs.Common.{rules, ◌≡◌}
use Rattle.std.specs.Option.{option_flatten}
use Rattle.std.specs.Result.{result_ok}
use Rattle.player.proofs.PlayingLemmas.{asks_first}
use Rattle.player.proofs.plays.Player.answer_to.Goals as goal

pub returns-clause-played : goal.returns-clause-played
returns-clause-played g c =
    let is : c.flatten.result ≡ option_flatten (result_ok c.wait_for.result) = search rules in
    rw is (asks_first c.wait_for.result c.ask.ensures.asked c.wait_for.ensures.played)
