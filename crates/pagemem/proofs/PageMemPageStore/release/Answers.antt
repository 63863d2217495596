use Rattle.std.proofs.Common.{true, refl, arith, rules}
use Rattle.pagemem.specs.Memory.{kept}
use Rattle.pagemem.proofs.Marks.{fits_of, given_back, count_near, mark_near}
use Rattle.pagemem.proofs.PageMemPageStore.release.Goals as goal

pub give_back-requires : goal.give_back-requires
give_back-requires c =
    let m = c.args.self.now in
    (mark_near m.marks.now c.args.p (omega (arith, c.requires.asks.0)), count_near m.marks.now m.words.now (fits_of true m.marks.now m.words.now c.requires.whole.1))

pub returns : goal.returns
returns c =
    let m = c.args.self.now in
    let t = given_back m.marks.now c.give_back.new.marks m.words.now c.args.p (fits_of true m.marks.now m.words.now c.requires.whole.1) (mark_near m.marks.now c.args.p (omega (arith, c.requires.asks.0))) c.requires.asks.0 c.give_back.ensures in
    record { got = t.0; passed = ((λ a h. kept refl t.1), search rules) }
