use Rattle.std.proofs.Common.{refl, subst, length, List, ℕ, MutBor, Option, MatchOption, ◌≢◌}
use Rattle.std.specs.Array.{IsWholeChunk}
use Rattle.store.proofs.part.part_of.Goals as goal

pub returns : goal.returns
returns c =
    let words = c.args.words.now in
    let whole = subst (λ (o : Option (MutBor (List ℕ))). MatchOption o (length words ≢ 62976) (λ y. IsWholeChunk words y.now 62976)) c.unwrap.ensures c.as_mut_array.ensures.cases in
    ((refl, λ w. refl), record { lends = tt; same = whole.same })
