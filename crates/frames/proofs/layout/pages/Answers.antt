use Rattle.std.proofs.Common.{refl}
use Rattle.frames.specs.Layout.{cache_of}
use Rattle.frames.proofs.layout.pages.Goals as goal

pub returns : goal.returns
unfolding cache_of
returns c = refl
