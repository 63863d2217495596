use Rattle.std.proofs.Common.{refl, arith, rules}
use Rattle.pagemem.specs.Memory.{Good, kept}
use Rattle.pagemem.proofs.Marks.{good_low, is_fine, good_still}
use Rattle.pagemem.proofs.mem_tree.MemTree.next.Goals as goal

pub next-requires-clause-asks : goal.next-requires-clause-asks
next-requires-clause-asks c =
    let m = c.args.self.now in let l = good_low m.marks.now m.words.now m.root c.requires in (c.requires.sound, (omega arith, l))

pub next-requires-clause-whole : goal.next-requires-clause-whole
next-requires-clause-whole c = (record { marks = c.args.self.now.marks; words = c.args.self.now.words }, kept refl c.requires.fits)

pub unwrap-requires : goal.unwrap-requires
unwrap-requires c = is_fine c.next.result c.next.new.s.marks.now c.next.new.s.words.now (c.next.ensures.passed.0 (record { marks = c.args.self.now.marks; words = c.args.self.now.words }) (kept refl c.requires.fits))

pub returns-clause-usable : goal.returns-clause-usable
returns-clause-usable c =
    let m = c.args.self.now in let n = c.next.new.s in
    let g : Good n.marks.now n.words.now c.args.self.now.root = good_still c.next.result c.unwrap.result n.marks.now n.words.now c.unwrap.ensures (c.next.ensures.passed.0 (record { marks = m.marks; words = m.words }) (kept refl c.requires.fits)) m.marks.now m.words.now m.root _ _ c.requires c.next.ensures.got in search rules
