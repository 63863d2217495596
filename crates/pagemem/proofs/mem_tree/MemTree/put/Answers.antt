use Rattle.std.proofs.Common.{refl, arith, rules}
use Rattle.pagemem.specs.Memory.{Good, kept}
use Rattle.pagemem.proofs.Marks.{good_low, is_fine, good_grown}
use Rattle.pagemem.proofs.mem_tree.MemTree.put.Goals as goal

pub put-requires-clause-asks : goal.put-requires-clause-asks
put-requires-clause-asks c =
    let m = c.args.self.now in let l = good_low m.marks.now m.words.now m.root c.requires in (c.requires.sound, (c.requires.once, (l, (omega arith, omega (arith, c.if-free_pages-self.false)))))

pub put-requires-clause-budget : goal.put-requires-clause-budget
put-requires-clause-budget c =
    let m = c.args.self.now in let l = good_low m.marks.now m.words.now m.root c.requires in omega arith

pub put-requires-clause-whole : goal.put-requires-clause-whole
put-requires-clause-whole c = (record { marks = c.args.self.now.marks; words = c.args.self.now.words }, kept refl c.requires.fits)

pub unwrap-requires : goal.unwrap-requires
unwrap-requires c = is_fine c.put.result c.put.new.s.marks.now c.put.new.s.words.now (c.put.ensures.passed.0 (record { marks = c.args.self.now.marks; words = c.args.self.now.words }) (kept refl c.requires.fits))

pub returns-clause-usable : goal.returns-clause-usable
returns-clause-usable c =
    let m = c.args.self.now in let n = c.put.new.s in
    let g : Good n.marks.now n.words.now c.put.new.self = good_grown c.put.result c.unwrap.result n.marks.now n.words.now c.unwrap.ensures (c.put.ensures.passed.0 (record { marks = m.marks; words = m.words }) (kept refl c.requires.fits)) m.marks.now m.words.now m.root c.put.new.self _ _ _ c.put.ensures.got in search rules
