-- Children side by side, and the way down to one of them.
use Rattle.std.proofs.Common.{◌≡◌, ℕ, zero, suc, ◌+◌, ◌<◌, ◌≤◌, List, [], ◌∷◌, ◌++◌, length, get_or, take, drop, sym, refl, ap, ◌∙◌, subst, append_assoc, arith}
use Rattle.node.specs.Pairs.{Up}
use Rattle.node.specs.Node.{pairs_of}
use Rattle.tree.specs.Tree.{joined, pairs_at, occ, Kids, Well, Node}
use Rattle.node.proofs.Pairs.{up_low, up-++}

-- the child at place i: from a to b, between those before and those after
pub record At (W : ℕ → ℕ → ℕ → Type 0) (lo hi : ℕ) (es : List (ℕ × ℕ)) (i : ℕ) : Type 0 where
  pub a : ℕ
  pub b : ℕ
  pub key : (get_or es i (0, 0)).0 ≡ a
  pub up : a < b
  pub kid : W (get_or es i (0, 0)).1 a b
  pub left : Kids W lo a (take i es)
  pub right : Kids W b hi (drop (suc i) es)

module _ (W : ℕ → ℕ → ℕ → Type 0) where
  pub kids_le : (lo hi : ℕ) (es : List (ℕ × ℕ)) → Kids W lo hi es → lo ≤ hi
  kids_le lo hi [] k = omega (arith, k)
  kids_le lo hi (e ∷ es) (z, (mid, l, w, r)) = omega (arith, l, kids_le mid hi es r)

  pub kids_at : (lo hi : ℕ) (es : List (ℕ × ℕ)) (i : ℕ) → i < length es → Kids W lo hi es → At W lo hi es i
  kids_at lo hi [] i h k = absurd (omega arith)
  kids_at lo hi (e ∷ es) zero h (z, (mid, l, w, r)) = record { a = lo; b = mid; key = z; up = l; kid = w; left = refl; right = r }
  kids_at lo hi (e ∷ es) (suc i) h (z, (mid, l, w, r)) =
      let t = kids_at mid hi es i (omega arith) r in
      record { a = t.a; b = t.b; key = t.key; up = t.up; kid = t.kid; left = (z, (mid, l, w, t.left)); right = t.right }

  pub kids-++ : (lo mid hi : ℕ) (xs ys : List (ℕ × ℕ)) → Kids W lo mid xs → Kids W mid hi ys → Kids W lo hi (xs ++ ys)
  kids-++ lo mid hi [] ys k r = subst (λ n. Kids W n hi ys) (sym k) r
  kids-++ lo mid hi (e ∷ xs) ys (z, (m, l, w, k)) r = (z, (m, l, w, kids-++ m mid hi xs ys k r))

  -- keys of the entries rise
  pub kids_up : (lo hi : ℕ) (es : List (ℕ × ℕ)) → Kids W lo hi es → Up lo hi es
  kids_up lo hi [] k = omega (arith, k)
  kids_up lo hi (e ∷ es) (z, (mid, l, w, r)) = (omega (arith, z), up_low (suc e.0) mid hi es (omega (arith, z, l)) (kids_up mid hi es r))

  -- what the children hold rises
  pub kids_joined : (f : ℕ → List (ℕ × ℕ)) → ((c a b : ℕ) → W c a b → Up a b (f c)) → (lo hi : ℕ) (es : List (ℕ × ℕ)) → Kids W lo hi es → Up lo hi (joined f es)
  kids_joined f g lo hi [] k = omega (arith, k)
  kids_joined f g lo hi (e ∷ es) (z, (mid, l, w, r)) = up-++ lo mid hi (f e.1) (joined f es) (g e.1 lo mid w) (kids_joined f g mid hi es r)

  -- where the next begins
  pub kids_next : (b hi : ℕ) (es : List (ℕ × ℕ)) (i : ℕ) → Kids W b hi (drop (suc i) es) → (suc i < length es → (get_or es (suc i) (0, 0)).0 ≡ b) × (length es ≤ suc i → b ≡ hi)
  kids_next b hi [] i k = ((λ h. absurd (omega arith)), (λ h. k))
  kids_next b hi (e ∷ []) zero k = ((λ h. absurd (omega arith)), (λ h. k))
  kids_next b hi (e ∷ (f ∷ es)) zero k = ((λ h. k.0), (λ h. absurd (omega arith)))
  kids_next b hi (e ∷ es) (suc i) k = let r = kids_next b hi es i k in ((λ h. r.0 (omega arith)), (λ h. r.1 (omega arith)))

pub joined_at : {A : Type 0} (f : ℕ → List A) (es : List (ℕ × ℕ)) (i : ℕ) → i < length es →
    joined f es ≡ joined f (take i es) ++ (f (get_or es i (0, 0)).1 ++ joined f (drop (suc i) es))
joined_at f [] i h = absurd (omega arith)
joined_at f (e ∷ es) zero h = refl
joined_at f (e ∷ es) (suc i) h = ap (λ r. f e.1 ++ r) (joined_at f es i (omega arith)) ∙ sym (append_assoc (f e.1) (joined f (take i es)) _)

pub well_up : (v : ℕ → List ℕ) (m l p lo hi : ℕ) → Well v m l p lo hi → Up lo hi (pairs_at v l p)
unfolding Well pairs_at
well_up v m zero p lo hi w = w.1
well_up v m (suc l) p lo hi w = kids_joined (λ c a b. Well v 85 l c a b) (λ c. pairs_at v l c) (λ c a b y. well_up v 85 l c a b y) lo hi (pairs_of (v p)) w.1

pub occ-++ : (q : ℕ) (xs ys : List ℕ) → occ q (xs ++ ys) ≡ occ q xs + occ q ys
occ-++ q [] ys = omega arith
occ-++ q (a ∷ xs) ys = omega (arith, occ-++ q xs ys)

pub well_node : (v : ℕ → List ℕ) (m l p lo hi : ℕ) → Well v m l p lo hi → Node (v p) m l
unfolding Well
well_node v m zero p lo hi w = w.0
well_node v m (suc l) p lo hi w = w.0
