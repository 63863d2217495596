use Rattle.std.proofs.Common.{◌≡◌, length, ◌∙◌, arith}
use borrow.Rule.Slice.PartMut.{put_mid}
use Rattle.node.proofs.Rows.{length_row, first_length}
use Rattle.node.proofs.Written.{inserted}
use Rattle.node.proofs.Node.insert_at.Goals as goal

pub returns : goal.returns
returns c =
    let p = c.self.inside.words in
    let is = c.self.invariant in
    let a = c.shift_in.new.row in
    let b = c.shift_in-2.new.row in
    let la : length a ≡ 255 = c.shift_in.auto.row ∙ length_row p 255 2 is.0 (omega arith) in
    let lb : length b ≡ 255 = c.shift_in-2.auto.row ∙ length_row (put_mid 2 255 p a) 255 257 (first_length p a is.0 la) (omega arith) in
    inserted p c.args.self.now is c.self.view_is c.len-n.result c.len-n.ensures.is a b la lb c.args.i c.args.entry (omega arith) (omega arith) c.shift_in.ensures c.shift_in-2.ensures
