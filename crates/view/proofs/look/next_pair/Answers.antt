use Rattle.std.proofs.Common.{◌≡◌, ◌+◌, sym, ap, ◌∙◌, arith, rules}
use Rattle.std.specs.Option.{option_map}
use Rattle.lines.specs.Tables.{behind}
use Rattle.node.specs.Pairs.{find}
use Rattle.view.specs.Room.{own_of, queue_of, pairs_seen}
use Rattle.view.specs.Writes.{with_lines}
use Rattle.view.proofs.Asking.{spent_more, spent_both}
use Rattle.view.proofs.Done.{rising_lines}
use Rattle.view.proofs.Onward.{next_none, next_word}
use Rattle.view.proofs.Tabled.{seen_on}
use Rattle.view.proofs.look.next_pair.Goals as goal

pub returns-in_default : goal.returns-in_default
returns-in_default g c =
    let w = c.args.room.now in
    let t = g.D.Index.pairs c.args.index.now (behind w) in
    let b = g.D.Index.budget c.args.index.now in
    let e = c.in_ok-p.ensures in
    record {
      told = next_none (pairs_seen t w c.args.view) c.args.k (sym c.in_default.is ∙ e.told);
      asked = record { same = e.asked.same; spent = spent_more b.next (b.next + b.get) b (g.D.Index.budget c.next_key.new.index) (omega arith) e.asked.spent };
      tables = c.next_key.ensures.tables;
      passed = e.passed;
    }

pub returns : goal.returns
returns g c =
    let w = c.args.room.now in
    let t = g.D.Index.pairs c.args.index.now (behind w) in
    let s = pairs_seen t w c.args.view in
    let b = g.D.Index.budget c.args.index.now in
    let d = g.D.Index.budget c.next_key.new.index in
    let e = c.in_ok-p.ensures in
    let f = c.in_ok-word.ensures in
    let p = c.in-Some.p in
    let up = rising_lines (with_lines t (queue_of w c.args.view)) (own_of w c.args.view) (rising_lines t (queue_of w c.args.view) c.requires.up) in
    let on = seen_on w c.next_key.new.room c.args.view c.next_key.auto.room c.next_key.ensures.tables c.requires.stands t (g.D.Index.pairs c.next_key.new.index (behind c.next_key.new.room)) e.asked.same in
    let m : c.map.result ≡ option_map (λ x. (p, x)) c.in_ok-word.word = search rules in
    record {
      told = m ∙ next_word s c.args.k p c.in_ok-word.word up (sym c.in-Some.is ∙ e.told) (f.told ∙ ap (find p) on);
      asked = record {
        same = f.asked.same ∙ e.asked.same;
        spent = spent_both b.next b.get b d (g.D.Index.budget c.look.new.index) e.asked.spent (spent_more d.get b.get d (g.D.Index.budget c.look.new.index) (omega (arith, e.asked.spent.get)) f.asked.spent);
      };
      tables = c.look.ensures.tables ∙ c.next_key.ensures.tables;
      passed = record { onto = λ a x h. f.passed.onto a x (e.passed.onto a x h); tied = f.passed.tied ∙ e.passed.tied };
    }
