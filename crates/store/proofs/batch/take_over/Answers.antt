use Rattle.std.proofs.Common.{◌≡◌, take, ap, ◌∙◌, rules}
use Rattle.frames.specs.Layout.{Cache, cache_of}
use Rattle.frames.specs.Frames.{batch_pages}
use Rattle.store.specs.Head.{Head, head_of, taken, freed, rooted, batched}
use Rattle.store.specs.HeadPages.{head_in}
use Rattle.store.specs.Store.{next, cache}
use Rattle.store.proofs.Places.{frames_parts, head_parts}
use Rattle.store.proofs.batch.take_over.Goals as goal

pub returns-clause-taken : goal.returns-clause-taken
returns-clause-taken c =
    let h = head_of c.new-head.result.words.now in
    let here : head_of c.new-head.result.words.now ≡ next c.args.part.now =
    ap head_of (c.new-head.ensures.same ∙ c.split_at_mut-page.ensures.front ∙ ap (take 512) c.split_at_mut-held.ensures.back) in
    let shown : c.new-frames.result ≡ cache c.args.part.now = c.new-frames.ensures ∙ ap cache_of c.split_at_mut-held.ensures.front in
    let e : head_in c.put_work.new.self ≡ taken (batch_pages (cache c.args.part.now)) c.args.root c.args.worked (next c.args.part.now) =
    c.put_work.ensures.head ∙ ap (λ (b : Head). freed c.args.worked (rooted c.args.root b)) (c.name_batch.ensures.head
    ∙ ap (λ (d : Cache). batched (batch_pages d) h) shown ∙ ap (batched (batch_pages (cache c.args.part.now))) here) in
    search (rules, head_parts)

pub returns-clause-frames : goal.returns-clause-frames
returns-clause-frames c = frames_parts _ _ c.split_at_mut-held.ensures.front_len ∙ c.split_at_mut-held.ensures.front
