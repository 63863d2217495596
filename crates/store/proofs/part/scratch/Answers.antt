use Rattle.std.proofs.Common.{refl}
use Rattle.store.specs.Store.{scratch_of}
use Rattle.store.proofs.part.scratch.Goals as goal

pub returns-clause-words : goal.returns-clause-words
unfolding scratch_of
returns-clause-words c = refl
