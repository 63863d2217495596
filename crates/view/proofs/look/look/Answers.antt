use Rattle.std.proofs.Common.{◌≡◌, ℕ, Option, refl, sym, ap, ◌∙◌}
use Rattle.std.proofs.lemmas.Result.{IfOk-weaker}
use Rattle.lines.specs.Tables.{behind}
use Rattle.node.specs.Pairs.{find}
use Rattle.view.specs.Room.{own_of, queue_of, pairs_seen, says_of}
use Rattle.view.specs.Sight.{viewed}
use Rattle.view.proofs.Asking.{spent_none}
use Rattle.view.proofs.Looks.{viewed_found}
use Rattle.view.proofs.Onward.{found_said, found_asked}
use Rattle.view.proofs.look.look.Goals as goal

pub returns-in-Some : goal.returns-in-Some
returns-in-Some g c =
    let w = c.args.room.now in
    let t = g.D.Index.pairs c.args.index.now (behind w) in
    let q = queue_of w c.args.view in
    let o = own_of w c.args.view in
    let b = g.D.Index.budget c.args.index.now in
    let said = c.says.ensures ∙ ap (λ s. says_of s c.args.k) c.new.ensures in
    let e = c.word.ensures ∙ found_said t q o c.args.k c.says.result said c.in-Some.seen (sym c.in-Some.is) in
    record { found = e; told = e ∙ viewed_found t q o c.args.k c.requires.up; asked = record { same = refl; spent = spent_none b.get b }; tables = refl; passed = record { onto = λ a u h. h; tied = refl } }

pub returns-in-None : goal.returns-in-None
returns-in-None g c =
    let w = c.args.room.now in
    let t = g.D.Index.pairs c.args.index.now (behind w) in
    let q = queue_of w c.args.view in
    let o = own_of w c.args.view in
    let k = c.args.k in
    let said = c.says.ensures ∙ ap (λ s. says_of s k) c.new.ensures in
    let e = found_asked t q o k c.says.result said (sym c.in-None.is) in
    let P : Option ℕ → Type 0 = λ a. a ≡ find k t in
    record {
      found = IfOk-weaker c.get.result P (λ a. a ≡ viewed t q o k) (λ a h. h ∙ e) c.get.ensures.told;
      told = IfOk-weaker c.get.result P (λ a. a ≡ find k (pairs_seen t w c.args.view)) (λ a h. h ∙ (e ∙ viewed_found t q o k c.requires.up)) c.get.ensures.told;
      asked = c.get.ensures.asked;
      tables = c.get.ensures.tables;
      passed = c.get.ensures.passed;
    }
