use Rattle.std.proofs.Common.{◌≡◌, length, ◌∙◌, arith}
use borrow.Rule.Slice.PartMut.{put_mid}
use Rattle.node.proofs.Rows.{length_row, first_length}
use Rattle.node.proofs.Written.{removed}
use Rattle.node.proofs.Node.remove_at.Goals as goal

pub returns-clause-pairs : goal.returns-clause-pairs
returns-clause-pairs c =
    let p = c.self.inside.words in
    let is = c.self.invariant in
    let a = c.shift_out.new.row in
    let b = c.shift_out-2.new.row in
    let la : length a ≡ 255 = c.shift_out.auto.row ∙ length_row p 255 2 is.0 (omega arith) in
    let lb : length b ≡ 255 = c.shift_out-2.auto.row ∙ length_row (put_mid 2 255 p a) 255 257 (first_length p a is.0 la) (omega arith) in
    removed p c.args.self.now is c.self.view_is c.len-n.result c.len-n.ensures.is a b la lb c.args.i c.shift_out.ensures c.shift_out-2.ensures
