-- The pages of two nodes, by what the nodes hold.
use Rattle.std.proofs.Common.{ℕ, List, length, sym, ap, ◌∙◌, arith}
use Rattle.node.specs.Node.{Contents, contents_of, Page, Shared, Shares, Beside, Neighbours, key_at}
use Rattle.node.proofs.Words.{pairs_length}

pub neighbours : (b c : List ℕ) (l : ℕ) → Beside b c l → Neighbours (contents_of b) (contents_of c)
neighbours b c l n =
    let x = pairs_length b n.is in let y = pairs_length c n.is' in
    record { level = n.level' ∙ sym n.level; some = omega (arith, n.some); some' = omega (arith, n.some'); both = omega (arith, n.both) }

pub shared : (b c : List ℕ) (x y : Contents) (l : ℕ) (es : List (ℕ × ℕ)) → Page b x.level x.pairs → Page c y.level y.pairs → Shares x y l es → Shared b c l (key_at y.pairs 0) es
shared b c x y l es p q s =
    let n = pairs_length b p.is in let m = pairs_length c q.is in
    record {
      is = p.is;
      is' = q.is;
      level = p.level ∙ s.level;
      level' = q.level ∙ s.level';
      pairs = cc (p.pairs, q.pairs, s.pairs);
      full = omega (arith, n, ap length p.pairs, s.full);
      full' = omega (arith, m, ap length q.pairs, s.full');
      key = ap (λ (es : List (ℕ × ℕ)). key_at es 0) q.pairs;
    }
