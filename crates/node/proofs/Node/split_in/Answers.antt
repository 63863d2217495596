use Rattle.std.proofs.Common.{◌≡◌, length, ap, ◌∙◌, arith}
use Rattle.std.proofs.lemmas.List.{length-take-le, length-drop}
use Rattle.node.proofs.Halves.{first_half, later_half}
use Rattle.node.proofs.Node.split_in.Goals as goal

pub insert_at-requires : goal.insert_at-requires
insert_at-requires c =
    let n : length c.split_off.new.self.pairs ≡ 127 = ap (λ v. length v.pairs) c.split_off.ensures.first ∙ length-take-le 127 c.args.self.now.pairs (omega arith) in
    record { room = omega arith; place = omega arith }

pub insert_at-requires-else-i-lt-HALF : goal.insert_at-requires-else-i-lt-HALF
insert_at-requires-else-i-lt-HALF c =
    let n : length c.split_off-else-i-lt-HALF.new.later.pairs ≡ 127 = ap (λ v. length v.pairs) c.split_off-else-i-lt-HALF.ensures.later ∙ simp length-drop (omega arith) in
    record { room = omega arith; place = omega arith }

pub returns-then-i-lt-HALF : goal.returns-then-i-lt-HALF
returns-then-i-lt-HALF c =
    let v = c.args.self.now in
    let h = first_half v.level v.pairs c.args.i c.args.entry c.requires.full (omega arith) in
    simp (c.insert_at.ensures, c.split_off.ensures.first, c.split_off.ensures.later) h

pub returns-else-i-lt-HALF : goal.returns-else-i-lt-HALF
returns-else-i-lt-HALF c =
    let v = c.args.self.now in
    let h = later_half v.level v.pairs c.args.i c.args.entry c.requires.full c.if-i-lt-HALF.false c.requires.place in
    simp (c.insert_at-else-i-lt-HALF.ensures, c.split_off-else-i-lt-HALF.ensures.first, c.split_off-else-i-lt-HALF.ensures.later) h
