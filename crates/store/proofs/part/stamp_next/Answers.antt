use Rattle.std.proofs.Common.{◌∙◌, rules}
use Rattle.store.proofs.Places.{frames_parts, head_parts}
use Rattle.store.proofs.part.stamp_next.Goals as goal

pub returns-clause-head : goal.returns-clause-head
returns-clause-head c = search (rules, head_parts)

pub returns-clause-frames : goal.returns-clause-frames
returns-clause-frames c = frames_parts _ _ c.split_at_mut-held.ensures.front_len ∙ c.split_at_mut-held.ensures.front
