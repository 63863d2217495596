use Rattle.std.proofs.Common.{rules, ◌≡◌, None}
use Rattle.player.proofs.PlayingLemmas.{no_reader, book_ends}
use Rattle.player.proofs.plays.Player.play_book.Goals as goal

pub returns-in_default-clause-plays : goal.returns-in_default-clause-plays
returns-in_default-clause-plays g c =
    let nobody : c.first_free.result ≡ None = search rules in
    no_reader (rw nobody at c.first_free.ensures) c.put.ensures

pub returns-clause-plays : goal.returns-clause-plays
returns-clause-plays g c = book_ends c.in-Some.ensures c.read_book.ensures.played c.end_reading.ensures.played.1 c.put-2.ensures
