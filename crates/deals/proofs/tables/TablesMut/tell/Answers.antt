use Rattle.std.proofs.Common.{◌≡◌, ℕ, ◌+◌, ◌-◌, ◌*◌, ◌<◌, List, [], ◌∷◌, ◌++◌, map, length, refl, ap, ◌∙◌, arith}
use Rattle.lines.specs.declared.line.Line.{Line}
use Rattle.lines.specs.Rings.{lines_of}
use Rattle.lines.specs.Tables.{deal_ring}
use Rattle.deals.specs.Deals.{Said}
use Rattle.deals.specs.Rows.{line_for, with_above, gone_by, bare}
use Rattle.deals.specs.Tables.{count_at, lines_in}
use Rattle.deals.proofs.Backs.{bare_push, bare_line}
use Rattle.deals.proofs.Desks.{noted_deals, noted_lines, noted_others, told_count, lines_part}
use Rattle.deals.proofs.tables.TablesMut.tell.Goals as goal

pub invariant_of-self : goal.invariant_of-self
invariant_of-self c =
    let short : count_at c.args.self.now.room.now c.index-deal.result < 1024 = rw c.index-deal.ensures.is c.requires in
    record { sound = (noted_others c.args.self.now.room.now c.note.new.words c.index-deal.result _ _ c.args.self.now.sound c.index-deal.ensures.low (omega arith) (omega arith) (omega arith)).sound }

pub returns : goal.returns
returns c =
    let r = c.args.self.now.room.now in
    let i = c.args.self.now.sound in
    let y = c.note.new.words in
    let who = c.args.c in
    let few : who < 32 = omega arith in
    let said : Said = record { op = c.args.said.op; told = c.args.said.answer } in
    let k : ℕ = 3072 * who + 3072 - 3072 * who in
    let wide : k ≡ 3072 = omega arith in
    let long : length y ≡ k = omega arith in
    let short : count_at r who < 1024 = c.requires in
    let noted = rw c.index-deal.ensures.is at c.note.ensures in
    let line : Line = with_above c.args.said.above (line_for c.args.said.op c.args.said.answer) in
    let plain : lines_of y (deal_ring (count_at r who + 1)) ≡ gone_by c.args.said.op (lines_in r who) ++ line ∷ [] = noted ∙ ap (λ (ls : List Line). gone_by c.args.said.op ls ++ line ∷ []) (lines_part r who k wide) in
    rw c.index-deal.ensures.is
    (record {
      lent = refl;
      deals = λ s n d. noted_deals r y who k (count_at r who + 1) i few wide long (omega arith) s s.book ((s.clerk who).deal ++ said ∷ []) n d
          (told_count r who (s.clerk who).deal said (d who few))
          (ap (map bare) plain ∙ bare_push (lines_in r who) (s.clerk who).deal said line (d who few).lines (bare_line c.args.said.above c.args.said.op c.args.said.answer));
      lines = noted_lines r y who k (count_at r who + 1) i few wide long (omega arith) _ plain;
      others = noted_others r y who k (count_at r who + 1) i few wide long (omega arith);
    })
