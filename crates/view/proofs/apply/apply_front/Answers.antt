use Rattle.std.proofs.Common.{◌≡◌, [], ◌∷◌, length, sym, ap, ◌∙◌, subst, rules}
use Rattle.lines.specs.Tables.{behind}
use Rattle.view.specs.Writes.{with_lines}
use Rattle.view.proofs.Applying.{has_applied, applied_pairs, applied_rising, applied_succs, applied_deals}
use Rattle.view.proofs.Tabled.{queue_in_on}
use Rattle.view.proofs.apply.apply_front.Goals as goal

pub returns : goal.returns
returns g c =
    let w = c.args.room.now in
    let x = c.work_in.new.room in
    let y = c.keep_queue.new.room in
    let v = c.keep_deals.new.room in
    let ns = c.args.counts.now in
    let r = c.args.queue in
    let l = c.front_of-line.result.0 in
    let s = c.front_of-line.result.1 in
    let h = c.change_by-change.result in
    let d = c.work_in.new.index in
    let t = g.D.Index.pairs c.args.index.now (behind w) in
    let u = g.D.Index.pairs d (behind v) in
    let e = c.in_ok-work_in.ensures in
    let back : behind v ≡ behind x = c.keep_deals.ensures.behind ∙ c.keep_queue.ensures.only.behind in
    let tree : u ≡ with_lines t (l ∷ []) = ap (g.D.Index.pairs d) back ∙ e.done in
    let long : length v ≡ length w = c.keep_deals.auto.room ∙ (c.keep_queue.auto.room ∙ c.work_in.auto.room) in
    let a = has_applied t u w x y v ns r s l h c.work_in.auto.room c.work_in.ensures.tables c.front_of-line.ensures.lines c.change_by-change.ensures tree c.keep_queue.ensures.lines c.keep_queue.ensures.only c.keep_deals.ensures.lines c.keep_deals.ensures.queue in
    record {
      applied = a;
      pairs = applied_pairs t u w v ns r s a;
      up = applied_rising t u w v ns r s a c.requires.up;
      succs = applied_succs t u w v ns r s a c.requires.up c.requires.succs;
      deals = applied_deals t u w v ns r s a c.requires.up c.requires.succs;
      queue = (queue_in_on w v s long c.front_of-line.ensures.queue.0, c.front_of-line.ensures.queue.1);
      gone = search rules;
      asked = e.asked;
      passed = record { onto = λ a o k. subst (g.D.Index.onto a o _ d) (sym back) (e.passed.onto a o k); tied = e.passed.tied };
    }
