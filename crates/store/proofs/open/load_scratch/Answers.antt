use Rattle.std.proofs.Common.{◌≡◌, length, ◌∙◌}
use Rattle.store.proofs.Places.{length_scratch, scratch_scratch, scratch_frames, scratch_next}
use Rattle.store.proofs.open.load_scratch.Goals as goal

pub returns : goal.returns
returns g c =
    let part = c.args.part.now in
    let l : length c.read.new.into ≡ 512 = c.read.auto.into ∙ length_scratch part c.told-part in
    record {
      reads = rw (scratch_scratch part c.told-part c.read.new.into l) c.read.ensures.reads;
      head = scratch_next part c.told-part c.read.new.into l;
      frames = scratch_frames part c.told-part c.read.new.into l;
      tied = c.read.ensures.tied;
    }
