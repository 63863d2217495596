use Rattle.std.proofs.Common.{◌≡◌, length, ◌∙◌, arith}
use borrow.Rule.Slice.PartMut.{put_mid}
use Rattle.node.proofs.Rows.{length_row, first_length}
use Rattle.node.proofs.Written.{appended}
use Rattle.node.proofs.Node.append.Goals as goal

pub returns : goal.returns
returns c =
    let p = c.self.inside.words in
    let is = c.self.invariant in
    let a = c.copy_row.new.row in
    let b = c.copy_row-2.new.row in
    let la : length a ≡ 255 = c.copy_row.auto.row ∙ length_row p 255 2 is.0 (omega arith) in
    let lb : length b ≡ 255 = c.copy_row-2.auto.row ∙ length_row (put_mid 2 255 p a) 255 257 (first_length p a is.0 la) (omega arith) in
    appended p c.args.self.now is c.self.view_is c.len-n.result c.len-n.ensures.is a b la lb
    c.right.inside.words c.args.right.now c.len-m.result c.right.invariant c.right.view_is c.len-m.ensures.is (omega arith) c.copy_row.ensures c.copy_row-2.ensures
