use Rattle.std.proofs.Common.{true, refl, rules}
use Rattle.pagemem.specs.Memory.{kept}
use Rattle.pagemem.proofs.Marks.{page_in_lem, fits_of, wrote, fits_wrote}
use Rattle.pagemem.proofs.PageMemPageStore.write.Goals as goal

pub returns : goal.returns
returns c =
    let m = c.args.self.now in let b = c.args.from.now in
    let h = page_in_lem m.marks.now m.words.now c.args.p c.requires.asks.0 (fits_of true m.marks.now m.words.now c.requires.whole.1) in
    rw c.put_page.ensures (record {
      got = wrote m.marks.now m.words.now b c.args.p c.requires.asks.1.1 h;
      passed = ((λ a k. kept refl (fits_wrote m.marks.now m.words.now b c.args.p c.requires.asks.1.1 h (fits_of true m.marks.now m.words.now k))), search rules);
    })
