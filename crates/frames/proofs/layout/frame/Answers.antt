use Rattle.std.proofs.Common.{ap, ◌∙◌}
use Rattle.frames.specs.Layout.{cache_of, frame_in}
use Rattle.frames.proofs.Words.{frame_read}
use Rattle.frames.proofs.layout.frame.Goals as goal

pub returns-clause-words : goal.returns-clause-words
returns-clause-words c =
    let part = c.args.part.now in
    c.page.ensures.words ∙ frame_read part c.number.result c.requires c.number.ensures.low
    ∙ ap (frame_in (cache_of part).frames) c.number.ensures.is
