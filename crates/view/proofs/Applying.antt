-- The front of the queue has gone into the tree: the pairs are the same, and what is kept above dropped keys is right.
use Rattle.std.proofs.Common.{◌≡◌, ℕ, ◌<◌, List, [], ◌∷◌, map, length, get_or, Option, sym, ap, ◌∙◌, subst}
use Rattle.lines.specs.declared.line.Line.{Line}
use Rattle.lines.specs.declared.ring.Ring.{Ring}
use Rattle.lines.specs.Tables.{tables, deal_lines, queue_lines, OnlyQueue}
use Rattle.lines.proofs.Parts.{same_deals, same_queue}
use Rattle.view.specs.declared.kept.Change.{Change}
use Rattle.view.specs.Room.{Applied}
use Rattle.view.specs.Upkeep.{change_by, kept_by, SuccOk}
use Rattle.view.specs.Writes.{with_lines, Rising}
use Rattle.view.proofs.Found.{Pairs}
use Rattle.view.proofs.Done.{rising_lines, lines_front}
use Rattle.view.proofs.Upkeeps.{kept_lines, kept_succ_lem}

-- the room as the record is taken (w), as it is in the tree (x), as the queue is kept (y), and as the deals are (v)
module _ (t u : Pairs) (w x y v ns : List ℕ) (r s : Ring) (l : Line) (h : Option Change)
    (long : length x ≡ length w) (same : tables x ≡ tables w) (was : queue_lines w r ≡ l ∷ queue_lines w s) (is : h ≡ change_by l) (tree : u ≡ with_lines t (l ∷ []))
    (queued : queue_lines y s ≡ map (kept_by h) (queue_lines x s)) (only : OnlyQueue x y)
    (dealt : (c : ℕ) → c < 32 → deal_lines v c (get_or ns c 0) ≡ map (kept_by h) (deal_lines y c (get_or ns c 0))) (rest : (q : Ring) → queue_lines v q ≡ queue_lines y q) where
  pub has_applied : Applied t u w v ns r s
  has_applied = record {
    front = l;
    rest = queue_lines w s;
    was = was;
    tree = tree;
    queue = rest s ∙ (queued ∙ (ap (λ k. map (kept_by k) (queue_lines x s)) is ∙ ap (map (kept_by (change_by l))) (same_queue w x long same s)));
    deals = λ c low. dealt c low ∙ (ap (λ k. map (kept_by k) (deal_lines y c (get_or ns c 0))) is ∙ ap (map (kept_by (change_by l))) (only.deals c (get_or ns c 0) low ∙ same_deals w x long same c (get_or ns c 0) low));
  }

module _ (t u : Pairs) (w v ns : List ℕ) (r s : Ring) (a : Applied t u w v ns r s) where
  pub applied_pairs : with_lines u (queue_lines v s) ≡ with_lines t (queue_lines w r)
  applied_pairs =
      ap (with_lines u) a.queue
      ∙ (kept_lines u (change_by a.front) a.rest
      ∙ (ap (λ k. with_lines k a.rest) a.tree
      ∙ (sym (lines_front t a.front a.rest) ∙ ap (with_lines t) (sym a.was))))

  pub applied_rising : Rising t → Rising u
  applied_rising up = subst Rising (sym a.tree) (rising_lines t (a.front ∷ []) up)

  module _ (up : Rising t) (ok : SuccOk t (queue_lines w r)) where
    front_ok : SuccOk t (a.front ∷ a.rest)
    front_ok = subst (SuccOk t) a.was ok

    kept : (ls ms : List Line) → ms ≡ map (kept_by (change_by a.front)) ls → SuccOk t ls → SuccOk u ms
    kept ls ms e g = rw (a.tree, e) (kept_succ_lem t a.front ls up front_ok.0 g)

    pub applied_succs : SuccOk u (queue_lines v s)
    applied_succs = kept a.rest (queue_lines v s) a.queue front_ok.1

    pub applied_deals : (c : ℕ) → c < 32 → SuccOk t (deal_lines w c (get_or ns c 0)) → SuccOk u (deal_lines v c (get_or ns c 0))
    applied_deals c low g = kept (deal_lines w c (get_or ns c 0)) (deal_lines v c (get_or ns c 0)) (a.deals c low) g
