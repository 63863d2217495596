use Rattle.std.proofs.Common.{◌+◌, set, ap, ◌∙◌}
use Rattle.frames.specs.Layout.{Cache, cache_of, with_entries, with_marks, with_count}
use Rattle.frames.proofs.Slots.{rows}
use Rattle.frames.proofs.Tables.{sound_as, listed_table}
use Rattle.frames.proofs.change.FramesMut.list.Goals as goal

pub invariant_of-self : goal.invariant_of-self
invariant_of-self c =
    let part = c.args.self.now.part.now in
    let s = c.args.self.now.sound in
    let i = c.args.slot in
    let n = c.batch_len-place.result in
    let place = c.batch_len-place.ensures.count ∙ ap (λ (d : Cache). d.count) c.look.ensures in
    let e = c.put_count.ensures ∙ ap (λ d. with_count d (n + 1)) (c.put.ensures.cache ∙ ap (λ (d : Cache). with_marks d (set d.marks i (n + 1))) c.put_entry.ensures)
    ∙ ap (λ k. with_count (with_marks (with_entries (cache_of part) (set (cache_of part).entries k i)) (set (cache_of part).marks i (k + 1))) (k + 1)) place in
    record {
      sound = sound_as _ _ (c.put_count.auto.part ∙ c.put.auto.part ∙ c.put_entry.auto.part ∙ s.sized) e
          (listed_table (cache_of part) s.table (rows part s.sized) i c.put.ensures.low c.requires.clean c.requires.used c.requires.room);
    }
