use Rattle.std.proofs.Common.{rules, ◌≡◌, ◌∙◌, sym, Some, None}
use Rattle.player.proofs.PlayingLemmas.{book_from_word, book_from_pairs, book_unread}
use Rattle.player.proofs.plays.Player.read_book.Goals as goal

pub returns-in-Some-Some-clause-played : goal.returns-in-Some-Some-clause-played
returns-in-Some-Some-clause-played g c =
    let is : c.found_in.result ≡ Some (Some c.in-Some-Some.word) = search rules in
    book_from_word c.answer_to.ensures.played (sym c.found_in.ensures ∙ is) c.put.ensures c.read_on.ensures.played

pub returns-in-Some-None-clause-played : goal.returns-in-Some-None-clause-played
returns-in-Some-None-clause-played g c =
    let is : c.found_in.result ≡ Some None = search rules in
    book_from_pairs c.answer_to.ensures.played (sym c.found_in.ensures ∙ is) c.read_on-in-Some-None.ensures.played

pub returns-in-None-clause-played : goal.returns-in-None-clause-played
returns-in-None-clause-played g c = book_unread c.answer_to.ensures.played (sym c.found_in.ensures ∙ c.in-None.is)
