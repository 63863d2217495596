use Rattle.std.proofs.Common.{ap, ◌∙◌}
use Rattle.frames.specs.Layout.{Cache, cache_of}
use Rattle.frames.specs.Frames.{shown_by}
use Rattle.frames.proofs.Shown.{cleared_shown}
use Rattle.frames.proofs.Tables.{sound_as, cleared_table}
use Rattle.frames.proofs.change.FramesMut.reset.Goals as goal

pub invariant_of-result : goal.invariant_of-result
invariant_of-result c = record { sound = sound_as _ _ (c.clear.auto.part ∙ c.requires) c.clear.ensures (cleared_table (cache_of c.args.part.now).frames) }

pub returns-clause-shown : goal.returns-clause-shown
returns-clause-shown c = λ s. ap (λ (d : Cache). shown_by d s) c.clear.ensures ∙ cleared_shown (cache_of c.args.part.now).frames s
