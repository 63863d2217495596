use Rattle.std.proofs.Common.{◌≡◌, sym, ap, ◌∙◌, subst}
use Rattle.lines.specs.Tables.{behind}
use Rattle.view.specs.Nexts.{Rises, Onward}
use Rattle.view.specs.Room.{own_of, queue_of, says_of}
use Rattle.view.specs.Upkeep.{key_of, next_key}
use Rattle.view.proofs.Onward.{rises, onward_key}
use Rattle.view.proofs.Tabled.{stands_on, said_on}
use Rattle.view.proofs.look.next_key.Goals as goal

pub new-requires : goal.new-requires
new-requires g c = stands_on c.args.room.now c.next.new.room c.args.view c.next.auto.room c.next.ensures.tables c.requires.stands

pub onward-requires : goal.onward-requires
onward-requires g c =
    let w = c.args.room.now in
    let x = c.args.view in
    let t = g.D.Index.pairs c.args.index.now (behind w) in
    let e = c.new.ensures ∙ said_on w c.next.new.room x c.next.auto.room c.next.ensures.tables c.requires.stands in
    subst (λ s. Rises (says_of s)) (sym e) (rises t (queue_of w x) (own_of w x) c.args.k c.requires.up c.requires.succs.0 c.requires.succs.1)

pub returns : goal.returns
unfolding next_key
returns g c =
    let w = c.args.room.now in
    let x = c.args.view in
    let t = g.D.Index.pairs c.args.index.now (behind w) in
    let e = c.in_ok-next.ensures in
    let first : c.key_of-first.result ≡ next_key c.args.k t = c.key_of-first.ensures ∙ ap key_of e.told in
    let said = c.new.ensures ∙ said_on w c.next.new.room x c.next.auto.room c.next.ensures.tables c.requires.stands in
    let on = subst (λ s. Onward s.queue s.own c.args.k c.key_of-first.result c.onward.result) said c.onward.ensures in
    record {
      told = onward_key t (queue_of w x) (own_of w x) c.args.k c.key_of-first.result c.onward.result c.requires.up c.requires.succs.0 c.requires.succs.1 first on;
      asked = e.asked;
      tables = c.next.ensures.tables;
      passed = e.passed;
    }
