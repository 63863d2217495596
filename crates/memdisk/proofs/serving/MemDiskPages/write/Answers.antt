use Rattle.std.proofs.Common.{refl, ap, ◌∙◌, rules}
use Rattle.pages.specs.Pages.{page_at, pages_in}
use Rattle.memdisk.proofs.Places.{page_put}
use Rattle.memdisk.proofs.Disks.{writing_done, writing_cut, writing_dark}
use Rattle.memdisk.proofs.serving.MemDiskPages.write.Goals as goal

pub returns-in-Ok-clause-writes : goal.returns-in-Ok-clause-writes
returns-in-Ok-clause-writes c =
    let k = c.keep_shown.new.self in
    let same = ap pages_in (c.keep_shown.ensures.shown ∙ c.ask.ensures.pages.shown) in
    writing_done c.args.self.now c.ask.new.self k _ c.args.p c.args.bytes.now c.put_page.new.words c.in-Ok.ensures refl c.keep_shown.ensures
    (ap page_at c.put_page.ensures ∙ page_put c.args.p k.shown.now c.args.bytes.now (search rules) (rw same (search rules))) c.put_page.auto.words

pub returns-in-Err-Cut-clause-writes : goal.returns-in-Err-Cut-clause-writes
returns-in-Err-Cut-clause-writes c =
    let a = rw c.in-Err-Cut.field-0-is at c.in-Err-Cut.ensures in
    let g = rw c.of.ensures at c.keep.ensures in
    writing_cut c.args.self.now c.ask.new.self c.keep.new.self c.args.p _ c.args.bytes.now a g c.saturating_sub-self.ensures

pub returns-in-Err-Dark-clause-writes : goal.returns-in-Err-Dark-clause-writes
returns-in-Err-Dark-clause-writes c =
    let a = rw c.in-Err-Dark.field-0-is at c.in-Err-Dark.ensures in
    writing_dark c.args.self.now c.ask.new.self c.args.p c.args.bytes.now a
