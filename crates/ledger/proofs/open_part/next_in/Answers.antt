use Rattle.std.proofs.Common.{ap, ◌∙◌, arith}
use Rattle.view.specs.Upkeep.{key_of}
use Rattle.pager.proofs.Calls.{low}
use Rattle.ledger.proofs.Asking.{above_key, in_eleven}
use Rattle.ledger.proofs.open_part.next_in.Goals as goal

pub next-requires-clause-asks : goal.next-requires-clause-asks
next-requires-clause-asks g c = let h = low _ _ _ c.requires.paged in omega (arith, h, c.requires.asks)

pub returns-clause-got : goal.returns-clause-got
returns-clause-got g c = c.key_of.ensures ∙ ap key_of c.in_ok-found.ensures.got ∙ above_key c.args.k _

pub returns-clause-ends : goal.returns-clause-ends
returns-clause-ends g c = in_eleven _ _ _ _ _ _ _ (low _ _ _ c.requires.paged) c.in_ok-found.ensures.ends
