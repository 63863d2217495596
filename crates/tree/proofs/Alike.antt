-- A tree in a view that has the same pages.
use Rattle.std.proofs.Common.{◌≡◌, ℕ, zero, suc, ◌+◌, ◌≤◌, List, [], ◌∷◌, ◌++◌, sym, refl, ap, ◌∙◌, subst, ap₂, arith}
use Rattle.node.specs.Pairs.{Up}
use Rattle.node.specs.Node.{pairs_of}
use Rattle.tree.specs.Tree.{joined, pairs_at, pages_at, occ, Kids, Node, Well}
use Rattle.tree.proofs.Kids.{occ-++}
use Rattle.tree.proofs.Down.{occ_here}

pub record Alike (v w : ℕ → List ℕ) (l p : ℕ) : Type 0 where
  pub pairs : pairs_at w l p ≡ pairs_at v l p
  pub pages : pages_at w l p ≡ pages_at v l p
  pub well : (m lo hi : ℕ) → Well v m l p lo hi → Well w m l p lo hi

pub record AlikeAll (v w : ℕ → List ℕ) (l : ℕ) (es : List (ℕ × ℕ)) : Type 0 where
  pub pairs : joined (λ c. pairs_at w l c) es ≡ joined (λ c. pairs_at v l c) es
  pub pages : joined (λ c. pages_at w l c) es ≡ joined (λ c. pages_at v l c) es
  pub well : (m lo hi : ℕ) → Kids (λ c a b. Well v m l c a b) lo hi es → Kids (λ c a b. Well w m l c a b) lo hi es

module _ (v w : ℕ → List ℕ) where
  all_alike : (l : ℕ) → ((p : ℕ) → ((q : ℕ) → 1 ≤ occ q (pages_at v l p) → w q ≡ v q) → Alike v w l p) → (es : List (ℕ × ℕ)) → ((q : ℕ) → 1 ≤ occ q (joined (λ c. pages_at v l c) es) → w q ≡ v q) → AlikeAll v w l es
  all_alike l f [] h = record { pairs = refl; pages = refl; well = λ m lo hi k. k }
  all_alike l f (e ∷ es) h =
      let o : (q : ℕ) → occ q (pages_at v l e.1 ++ joined (λ c. pages_at v l c) es) ≡ occ q (pages_at v l e.1) + occ q (joined (λ c. pages_at v l c) es) = λ q. occ-++ q (pages_at v l e.1) (joined (λ c. pages_at v l c) es) in
      let a = f e.1 (λ q z. h q (omega (arith, o q))) in
      let r = all_alike l f es (λ q z. h q (omega (arith, o q))) in
      record {
        pairs = ap₂ (λ (x y : List (ℕ × ℕ)). x ++ y) a.pairs r.pairs;
        pages = ap₂ (λ (x y : List ℕ). x ++ y) a.pages r.pages;
        well = λ m lo hi k. (k.0, (k.1.0, k.1.1, a.well m lo k.1.0 k.1.2, r.well m k.1.0 hi k.1.3));
      }

  pub alike : (l p : ℕ) → ((q : ℕ) → 1 ≤ occ q (pages_at v l p) → w q ≡ v q) → Alike v w l p
  unfolding pairs_at pages_at Well
  alike zero p h =
      let e = h p (occ_here p []) in
      record { pairs = ap pairs_of e; pages = refl; well = λ m lo hi y. subst (λ b. Node b m 0 × Up lo hi (pairs_of b)) (sym e) y }
  alike (suc l) p h =
      let e = h p (occ_here p (joined (λ c. pages_at v l c) (pairs_of (v p)))) in
      let r = all_alike l (λ q g. alike l q g) (pairs_of (v p)) (λ q z. h q (omega arith)) in
      record {
        pairs = ap (λ b. joined (λ c. pairs_at w l c) (pairs_of b)) e ∙ r.pairs;
        pages = ap (λ b. p ∷ joined (λ c. pages_at w l c) (pairs_of b)) e ∙ ap (λ ps. p ∷ ps) r.pages;
        well = λ m lo hi y. subst (λ b. Node b m (suc l) × Kids (λ c a b. Well w 85 l c a b) lo hi (pairs_of b)) (sym e) (y.0, r.well 85 lo hi y.1);
      }

  pub alike_all : (l : ℕ) (es : List (ℕ × ℕ)) → ((q : ℕ) → 1 ≤ occ q (joined (λ c. pages_at v l c) es) → w q ≡ v q) → AlikeAll v w l es
  alike_all l es h = all_alike l (λ p g. alike l p g) es h
