use Rattle.std.proofs.Common.{ap, ◌∙◌}
use Rattle.frames.specs.Layout.{cache_of, placed, with_frames}
use Rattle.frames.proofs.Words.{frame_set}
use Rattle.frames.proofs.layout.put_frame.Goals as goal

pub returns-clause-cache : goal.returns-clause-cache
returns-clause-cache c =
    let part = c.args.part.now in
    let w = c.args.words.now in
    ap cache_of c.put_page.ensures ∙ frame_set part c.number.result c.requires.0 c.number.ensures.low w c.requires.1
    ∙ ap (λ i. with_frames (cache_of part) (placed (cache_of part).frames i w)) c.number.ensures.is
