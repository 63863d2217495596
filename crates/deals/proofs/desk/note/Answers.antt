use Rattle.std.proofs.Common.{◌≡◌, ℕ, ◌+◌, List, [], ◌∷◌, ◌++◌, sym, ap, ◌∙◌}
use Rattle.lines.specs.declared.line.Line.{Line}
use Rattle.lines.specs.declared.ring.Ring.{Ring}
use Rattle.lines.specs.Rings.{lines_of}
use Rattle.lines.specs.Tables.{deal_ring}
use Rattle.deals.specs.Rows.{gone_by}
use Rattle.deals.proofs.Backs.{gone_none, gone_back, ring_is}
use Rattle.deals.proofs.desk.note.Goals as goal
use Rattle.deals.proofs.desk.note.Goals.{in-Back, in_default}

-- the lines before the push
went : (c : goal.After-slice_known-2-1) → lines_of c.match-said.words c.deal_ring-ring.result ≡ gone_by c.args.said.op (lines_of c.args.words.now c.deal_ring-ring.result)
went c =
    let r = c.deal_ring-ring.result in
    let ls = lines_of c.args.words.now r in
    elim c.match-said.branch [
      | in-Back w ↦ ap (λ (x : List ℕ). lines_of x r) w.words-is ∙ w.go_back.ensures.lines ∙ sym (gone_back c.args.said.op w.in-Back.j ls w.in-Back.is)
      | in_default w ↦ ap (λ (x : List ℕ). lines_of x r) w.words-is ∙ sym (gone_none c.args.said.op ls w.in_default.not-Back)
    ]

pub returns : goal.returns
returns c =
    let d = c.deal_ring-ring.ensures in
    let grown = c.push.ensures.grown in
    let ring : c.push.result ≡ deal_ring (c.args.n + 1) = ring_is c.push.result (c.args.n + 1) (grown.0 ∙ ap (λ (x : Ring). x.cap) d) (grown.1.0 ∙ ap (λ (x : Ring). x.start) d) (grown.1.1 ∙ ap (λ (x : Ring). x.count + 1) d) in
    let pushed = rw (ring, d) at (c.push.ensures.lines ∙ ap (λ (ls : List Line). ls ++ c.into.result ∷ []) (went c)) in
    pushed ∙ ap (λ (l : Line). gone_by c.args.said.op (lines_of c.args.words.now (deal_ring c.args.n)) ++ l ∷ []) c.into.ensures
