use Rattle.std.proofs.Common.{◌≡◌, length, set, ◌∙◌, arith}
use borrow.Rule.Slice.PartMut.{put_mid}
use Rattle.node.specs.Node.{level_of}
use Rattle.node.proofs.Rows.{length_row, first_length}
use Rattle.node.proofs.Written.{shortened, moved, leveled}
use Rattle.node.proofs.Node.split_off.Goals as goal

pub returns-clause-first : goal.returns-clause-first
returns-clause-first c = shortened c.self.inside.words c.args.self.now c.self.invariant c.self.view_is c.len-n.result c.len-n.ensures.is c.args.h (omega arith)

pub returns-clause-later : goal.returns-clause-later
returns-clause-later c =
    let q = set c.later.inside.words 1 (level_of c.self.inside.words) in
    let z = leveled c.later.inside.words (level_of c.self.inside.words) c.later.invariant in
    let is = z.0 in
    let a = c.copy_row.new.row in
    let b = c.copy_row-2.new.row in
    let la : length a ≡ 255 = c.copy_row.auto.row ∙ length_row q 255 2 is.0 (omega arith) in
    let lb : length b ≡ 255 = c.copy_row-2.auto.row ∙ length_row (put_mid 2 255 q a) 255 257 (first_length q a is.0 la) (omega arith) in
    moved c.self.inside.words c.args.self.now c.len-n.result c.args.h c.self.invariant c.self.view_is c.len-n.ensures.is (omega arith) q is z.1 a b la lb c.copy_row.ensures c.copy_row-2.ensures
