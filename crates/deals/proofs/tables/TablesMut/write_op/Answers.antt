use Rattle.std.proofs.Common.{◌≡◌, ℕ, ◌+◌, ◌*◌, ◌<◌, ◌≤◌, List, length, ◌∙◌, refl, ap, arith}
use borrow.Rule.Slice.PartMut.{put_mid}
use Rattle.deals.specs.Tables.{op_of, Sound, SameLines, OnlyAsk}
use Rattle.deals.proofs.Offs.{mid_off, op_put}
use Rattle.deals.proofs.Holding.{only_ask}
use Rattle.deals.proofs.tables.TablesMut.write_op.Goals as goal

put : (r y : List ℕ) (c k : ℕ) → Sound r → c < 32 → length y ≡ k → k ≡ 3 → OnlyAsk c r (put_mid (259584 + 3 * c) k r y) × SameLines r (put_mid (259584 + 3 * c) k r y)
put r y c k i few long three = let fits : 259584 + 3 * c + k ≤ length r = omega (arith, i.wide) in rw three (only_ask r _ c i few (mid_off (259584 + 3 * c) 3 r y (omega (arith, i.wide)) (long ∙ three)))

asked : (r y : List ℕ) (c k : ℕ) → Sound r → c < 32 → length y ≡ k → k ≡ 3 → OnlyAsk c r (put_mid (259584 + 3 * c) k r y)
asked r y c k i few long three = (put r y c k i few long three).0

kept : (r y : List ℕ) (c k : ℕ) → Sound r → c < 32 → length y ≡ k → k ≡ 3 → SameLines r (put_mid (259584 + 3 * c) k r y)
kept r y c k i few long three = (put r y c k i few long three).1

pub invariant_of-self : goal.invariant_of-self
invariant_of-self c = record { sound = (asked c.args.self.now.room.now c.copy_from_slice.new.self c.index.result _ c.args.self.now.sound c.index.ensures.low (omega arith) (omega arith)).sound }

pub returns : goal.returns
returns c =
    let few : c.args.c < 32 = omega arith in
    let r = c.args.self.now.room.now in
    let y = c.copy_from_slice.new.self in
    rw c.index.ensures.is
    (record {
      lent = refl;
      written = op_put r y c.args.c _ (omega (arith, c.args.self.now.sound.wide)) (omega arith) (omega arith) ∙ ap op_of c.copy_from_slice.ensures.after ∙ c.into-words.ensures;
      lines = kept r y c.args.c _ c.args.self.now.sound few (omega arith) (omega arith);
      others = asked r y c.args.c _ c.args.self.now.sound few (omega arith) (omega arith);
    })
