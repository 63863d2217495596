use Rattle.std.proofs.Common.{refl, arith, rules}
use Rattle.pagemem.specs.Memory.{Good, kept}
use Rattle.pagemem.proofs.Marks.{good_low, is_fine, good_dropped}
use Rattle.pagemem.proofs.mem_tree.MemTree.drop.Goals as goal

pub drop-requires-clause-asks : goal.drop-requires-clause-asks
drop-requires-clause-asks c =
    let m = c.args.self.now in let l = good_low m.marks.now m.words.now m.root c.requires in (c.requires.sound, (c.requires.once, omega arith))

pub drop-requires-clause-budget : goal.drop-requires-clause-budget
drop-requires-clause-budget c =
    let m = c.args.self.now in let l = good_low m.marks.now m.words.now m.root c.requires in omega arith

pub drop-requires-clause-whole : goal.drop-requires-clause-whole
drop-requires-clause-whole c = (record { marks = c.args.self.now.marks; words = c.args.self.now.words }, kept refl c.requires.fits)

pub unwrap-requires : goal.unwrap-requires
unwrap-requires c = is_fine c.drop.result c.drop.new.s.marks.now c.drop.new.s.words.now (c.drop.ensures.passed.0 (record { marks = c.args.self.now.marks; words = c.args.self.now.words }) (kept refl c.requires.fits))

pub returns-clause-usable : goal.returns-clause-usable
returns-clause-usable c =
    let m = c.args.self.now in let n = c.drop.new.s in
    let g : Good n.marks.now n.words.now c.drop.new.self = good_dropped c.drop.result c.unwrap.result n.marks.now n.words.now c.unwrap.ensures (c.drop.ensures.passed.0 (record { marks = m.marks; words = m.words }) (kept refl c.requires.fits)) m.marks.now m.words.now m.root c.drop.new.self _ _ c.drop.ensures.got in search rules
