use Rattle.std.proofs.Common.{true, refl, rules}
use Rattle.pagemem.specs.Memory.{kept}
use Rattle.pagemem.proofs.Marks.{fits_of, taken}
use Rattle.pagemem.proofs.PageMemPageStore.alloc.Goals as goal

pub returns : goal.returns
returns c =
    let m = c.args.self.now in let e = c.take_free.ensures in
    let t = taken m.marks.now c.take_free.new.marks m.words.now c.take_free.result (fits_of true m.marks.now m.words.now c.requires.whole.1) c.requires.asks.1 e.near e.was e.is in
    record { got = t.0; passed = ((λ a h. kept refl t.1), search rules) }
