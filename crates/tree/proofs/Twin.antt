-- Two trees side by side, whose roots were joined.
use Rattle.std.proofs.Common.{◌≡◌, ℕ, zero, suc, ◌+◌, ◌-◌, ◌<◌, ◌≤◌, cond, eqb, List, [], ◌∷◌, ◌++◌, length, get_or, take, drop, Some, None, Option, sym, refl, ap, ◌∙◌, subst, append-nil, arith, drop-cons}
use Rattle.std.proofs.lemmas.List.{length-append}
use Rattle.node.specs.Pairs.{Up}
use Rattle.node.specs.Node.{count_of, pairs_of, rows, beside, Beside}
use Rattle.tree.specs.Tree.{joined, pairs_at, pages_at, occ, Kids, Well}
use Rattle.tree.specs.Grow.{Holds}
use Rattle.tree.specs.Shrink.{gone}
use Rattle.node.proofs.Pairs.{up-++}
use Rattle.node.proofs.Words.{pairs_length}
use Rattle.tree.proofs.Kids.{kids-++, joined_at, occ-++, well_node}
use Rattle.tree.proofs.Down.{kids_of}
use Rattle.tree.proofs.Alike.{AlikeAll, alike_all}
use Rattle.tree.proofs.Parts.{up_parts, kids_parts, joined-++, occ_joined, one_here}

pub page_at_lem : (v : ℕ → List ℕ) (l q a : ℕ) → q ≡ a → 1 ≤ occ q (pages_at v l a)
unfolding pages_at
page_at_lem v zero q a z = omega (arith, one_here q a z)
page_at_lem v (suc l) q a z = omega (arith, one_here q a z)

pub well_less : (v : ℕ → List ℕ) (m m' l p lo hi : ℕ) → m' ≤ count_of (v p) → Well v m l p lo hi → Well v m' l p lo hi
unfolding Well
well_less v m m' zero p lo hi h w = (record { is = w.0.is; level = w.0.level; full = h }, w.1)
well_less v m m' (suc l) p lo hi h w = (record { is = w.0.is; level = w.0.level; full = h }, w.1)

abbrev pub Single : (ℕ → List ℕ) → ℕ → ℕ → ℕ → Type 0
Single u l a c = (q : ℕ) → occ q (pages_at u l a) + occ q (pages_at u l c) ≤ 1

abbrev pub Same : (ℕ → List ℕ) → (ℕ → List ℕ) → ℕ → ℕ → ℕ → Type 0
Same u v l a c = (q : ℕ) → 1 ≤ occ q (pages_at u l a) + occ q (pages_at u l c) → (q ≡ a → ⊥) → (q ≡ c → ⊥) → v q ≡ u q

deep : (u v : ℕ → List ℕ) (l a c : ℕ) → Single u (suc l) a c → Same u v (suc l) a c → AlikeAll u v l (pairs_of (u a) ++ pairs_of (u c))
unfolding pages_at
deep u v l a c on same =
    let f = λ (r : ℕ). pages_at u l r in
    let oj : (q : ℕ) → occ q (joined f (pairs_of (u a) ++ pairs_of (u c))) ≡ occ q (joined f (pairs_of (u a))) + occ q (joined f (pairs_of (u c))) = λ q. occ_joined q f (pairs_of (u a)) (pairs_of (u c)) in
    let on' : (q : ℕ) → (cond (eqb q a) 1 0 + occ q (joined f (pairs_of (u a)))) + (cond (eqb q c) 1 0 + occ q (joined f (pairs_of (u c)))) ≤ 1 = on in
    alike_all u v l (pairs_of (u a) ++ pairs_of (u c)) (λ q h. same q (omega (arith, oj q)) (λ z. omega (arith, h, oj q, on' q, one_here q a z)) (λ z. omega (arith, h, oj q, on' q, one_here q c z)))

pub twin_pages : (u v : ℕ → List ℕ) (l a c : ℕ) (o : Option ℕ) → Single u l a c → Same u v l a c → Holds v l a (pairs_of (u a) ++ pairs_of (u c)) (beside c o) → (lo q : ℕ) →
    occ q (joined (λ r. pages_at v l r) (rows lo a (beside c o))) + gone c o q ≡ occ q (pages_at u l a) + occ q (pages_at u l c)
unfolding pages_at
twin_pages u v zero a c None on same h lo q = omega arith
twin_pages u v zero a c (Some k) on same h lo q = omega arith
twin_pages u v (suc l) a c None on same h lo q =
    let f = λ (r : ℕ). pages_at u l r in let g = λ (r : ℕ). pages_at v l r in let al = deep u v l a c on same in
    omega (arith, ap (λ ps. occ q ps) (append-nil (joined g (pairs_of (v a)))), ap (λ es. occ q (joined g es)) h.pairs, ap (λ ps. occ q ps) al.pages, occ_joined q f (pairs_of (u a)) (pairs_of (u c)))
twin_pages u v (suc l) a c (Some k) on same h lo q =
    let f = λ (r : ℕ). pages_at u l r in let g = λ (r : ℕ). pages_at v l r in let al = deep u v l a c on same in
    omega (arith, ap (λ ps. occ q ps) (append-nil (joined g (pairs_of (v c)))), occ-++ q (joined g (pairs_of (v a))) (c ∷ (joined g (pairs_of (v c)) ++ [])), occ_joined q g (pairs_of (v a)) (pairs_of (v c)), ap (λ es. occ q (joined g es)) h.pairs, ap (λ ps. occ q ps) al.pages, occ_joined q f (pairs_of (u a)) (pairs_of (u c)))

pub twin_pairs : (u v : ℕ → List ℕ) (l a c : ℕ) (o : Option ℕ) → Single u l a c → Same u v l a c → Holds v l a (pairs_of (u a) ++ pairs_of (u c)) (beside c o) → (lo : ℕ) →
    joined (λ r. pairs_at v l r) (rows lo a (beside c o)) ≡ pairs_at u l a ++ pairs_at u l c
unfolding pairs_at
twin_pairs u v zero a c None on same h lo = append-nil (pairs_of (v a)) ∙ h.pairs
twin_pairs u v zero a c (Some k) on same h lo = ap (λ (r : List (ℕ × ℕ)). pairs_of (v a) ++ r) (append-nil (pairs_of (v c))) ∙ h.pairs
twin_pairs u v (suc l) a c None on same h lo =
    let f = λ (r : ℕ). pairs_at u l r in let g = λ (r : ℕ). pairs_at v l r in let al = deep u v l a c on same in
    append-nil (joined g (pairs_of (v a))) ∙ ap (λ es. joined g es) h.pairs ∙ al.pairs ∙ joined-++ f (pairs_of (u a)) (pairs_of (u c))
twin_pairs u v (suc l) a c (Some k) on same h lo =
    let f = λ (r : ℕ). pairs_at u l r in let g = λ (r : ℕ). pairs_at v l r in let al = deep u v l a c on same in
    ap (λ (r : List (ℕ × ℕ)). joined g (pairs_of (v a)) ++ r) (append-nil (joined g (pairs_of (v c)))) ∙ sym (joined-++ g (pairs_of (v a)) (pairs_of (v c))) ∙ ap (λ es. joined g es) h.pairs ∙ al.pairs ∙ joined-++ f (pairs_of (u a)) (pairs_of (u c))

pub twin_well : (u v : ℕ → List ℕ) (l a c : ℕ) (o : Option ℕ) → Single u l a c → Same u v l a c → Holds v l a (pairs_of (u a) ++ pairs_of (u c)) (beside c o) → (x y lo mid hi : ℕ) → 169 ≤ x + y → lo < mid → mid < hi →
    Well u x l a lo mid → Well u y l c mid hi → Kids (λ r a b. Well v 85 l r a b) lo hi (rows lo a (beside c o))
unfolding Well
twin_well u v zero a c None on same h x y lo mid hi e lm mh wa wc = (
  refl,
  (
    hi,
    omega arith,
    (
      record { is = h.is; level = h.level; full = omega (arith, wa.0.full, wc.0.full, pairs_length (u a) wa.0.is, pairs_length (u c) wc.0.is, pairs_length (v a) h.is, ap length h.pairs, length-append (pairs_of (u a)) (pairs_of (u c))) },
      subst (λ es. Up lo hi es) (sym h.pairs) (up-++ lo mid hi (pairs_of (u a)) (pairs_of (u c)) wa.1 wc.1),
    ),
    refl,
  ),
)
twin_well u v zero a c (Some k) on same h x y lo mid hi e lm mh wa wc =
    let t = up_parts lo hi (pairs_of (v a)) (pairs_of (v c)) (omega (arith, h.full, pairs_length (v a) h.is)) (omega (arith, h.full', pairs_length (v c) h.is'))
    (subst (λ es. Up lo hi es) (sym h.pairs) (up-++ lo mid hi (pairs_of (u a)) (pairs_of (u c)) wa.1 wc.1)) in (
      refl,
      (
        (get_or (pairs_of (v c)) 0 (0, 0)).0,
        t.low,
        (record { is = h.is; level = h.level; full = h.full }, t.left),
        (sym h.key, (hi, t.high, (record { is = h.is'; level = h.level'; full = h.full' }, t.right), refl)),
      ),
    )
twin_well u v (suc l) a c None on same h x y lo mid hi e lm mh wa wc =
    let al = deep u v l a c on same in (
      refl,
      (
        hi,
        omega arith,
        (
          record { is = h.is; level = h.level; full = omega (arith, wa.0.full, wc.0.full, pairs_length (u a) wa.0.is, pairs_length (u c) wc.0.is, pairs_length (v a) h.is, ap length h.pairs, length-append (pairs_of (u a)) (pairs_of (u c))) },
          subst (λ es. Kids (λ r a b. Well v 85 l r a b) lo hi es) (sym h.pairs) (al.well 85 lo hi (kids-++ (λ r a b. Well u 85 l r a b) lo mid hi (pairs_of (u a)) (pairs_of (u c)) wa.1 wc.1)),
        ),
        refl,
      ),
    )
twin_well u v (suc l) a c (Some k) on same h x y lo mid hi e lm mh wa wc =
    let al = deep u v l a c on same in
    let t = kids_parts (λ r a b. Well v 85 l r a b) lo hi (pairs_of (v a)) (pairs_of (v c)) (omega (arith, h.full, pairs_length (v a) h.is)) (omega (arith, h.full', pairs_length (v c) h.is'))
    (subst (λ es. Kids (λ r a b. Well v 85 l r a b) lo hi es) (sym h.pairs) (al.well 85 lo hi (kids-++ (λ r a b. Well u 85 l r a b) lo mid hi (pairs_of (u a)) (pairs_of (u c)) wa.1 wc.1))) in (
      refl,
      (
        (get_or (pairs_of (v c)) 0 (0, 0)).0,
        t.low,
        (record { is = h.is; level = h.level; full = h.full }, t.left),
        (sym h.key, (hi, t.high, (record { is = h.is'; level = h.level'; full = h.full' }, t.right), refl)),
      ),
    )

-- two children at j and the next, of which one may be thin
pub record Twins (v : ℕ → List ℕ) (l lo hi : ℕ) (es : List (ℕ × ℕ)) (j : ℕ) : Type 0 where
  pub a : ℕ
  pub b : ℕ
  pub c : ℕ
  pub x : ℕ
  pub y : ℕ
  pub key : (get_or es j (0, 0)).0 ≡ a
  pub up : a < b
  pub up' : b < c
  pub some : 84 ≤ x
  pub some' : 84 ≤ y
  pub both : 169 ≤ x + y
  pub kid : Well v x l (get_or es j (0, 0)).1 a b
  pub kid' : Well v y l (get_or es (suc j) (0, 0)).1 b c
  pub left : Kids (kids_of v l) lo a (take j es)
  pub right : Kids (kids_of v l) c hi (drop (suc (suc j)) es)

-- the child at i has at least n entries
pub record Fallen (v : ℕ → List ℕ) (n l lo hi : ℕ) (es : List (ℕ × ℕ)) (i : ℕ) : Type 0 where
  pub a : ℕ
  pub b : ℕ
  pub key : (get_or es i (0, 0)).0 ≡ a
  pub up : a < b
  pub kid : Well v n l (get_or es i (0, 0)).1 a b
  pub left : Kids (kids_of v l) lo a (take i es)
  pub right : Kids (kids_of v l) b hi (drop (suc i) es)

take_last : (j : ℕ) (es : List (ℕ × ℕ)) → j < length es → take (suc j) es ≡ take j es ++ (get_or es j (0, 0) ∷ [])
take_last j [] h = absurd (omega arith)
take_last zero (e ∷ es) h = refl
take_last (suc j) (e ∷ es) h = ap (λ r. e ∷ r) (take_last j es (omega arith))

kids_last : (W : ℕ → ℕ → ℕ → Type 0) (lo hi : ℕ) (xs : List (ℕ × ℕ)) (e : ℕ × ℕ) → Kids W lo hi (xs ++ (e ∷ [])) → (mid : ℕ) × Kids W lo mid xs × (e.0 ≡ mid) × (mid < hi) × W e.1 mid hi
kids_last W lo hi [] e (z, (m, l, w, r)) = (lo, refl, z, omega (arith, l, r), subst (λ n. W e.1 lo n) r w)
kids_last W lo hi (x ∷ xs) e (z, (m, l, w, r)) = let t = kids_last W m hi xs e r in (t.0, (z, (m, l, w, t.1)), t.2, t.3, t.4)

twins_at : (v : ℕ → List ℕ) (l lo hi : ℕ) (es : List (ℕ × ℕ)) (i : ℕ) → i < length es → 2 ≤ length es → Fallen v 84 l lo hi es i → (suc (i - 1) < length es) × Twins v l lo hi es (i - 1)
twins_at v l lo hi es zero h n f =
    let r = subst (λ ds. Kids (kids_of v l) f.b hi ds) (drop-cons es 1 (0, 0) (omega arith)) f.right in
    (omega arith, record { a = f.a; b = f.b; c = r.1.0; x = 84; y = 85; key = f.key; up = f.up; up' = r.1.1; some = omega arith; some' = omega arith; both = omega arith; kid = f.kid; kid' = r.1.2; left = f.left; right = r.1.3 })
twins_at v l lo hi es (suc i) h n f =
    let r = kids_last (kids_of v l) lo f.a (take i es) (get_or es i (0, 0)) (subst (λ ds. Kids (kids_of v l) lo f.a ds) (take_last i es (omega arith)) f.left) in
    let z : i ≡ suc i - 1 = omega arith in
    subst (λ j. (suc j < length es) × Twins v l lo hi es j) z
    (h, record { a = r.0; b = f.a; c = f.b; x = 85; y = 84; key = r.2; up = r.3; up' = f.up; some = omega arith; some' = omega arith; both = omega arith; kid = r.4; kid' = f.kid; left = r.1; right = f.right })

pub twins : (v : ℕ → List ℕ) (l lo hi : ℕ) (es : List (ℕ × ℕ)) (i j : ℕ) → j ≡ i - 1 → i < length es → 2 ≤ length es → Fallen v 84 l lo hi es i → (suc j < length es) × Twins v l lo hi es j
twins v l lo hi es i j e h n f = subst (λ j. (suc j < length es) × Twins v l lo hi es j) (sym e) (twins_at v l lo hi es i h n f)

pub twins_beside : (v : ℕ → List ℕ) (l lo hi : ℕ) (es : List (ℕ × ℕ)) (j : ℕ) → Twins v l lo hi es j → Beside (v (get_or es j (0, 0)).1) (v (get_or es (suc j) (0, 0)).1) l
twins_beside v l lo hi es j t =
    let n = well_node v t.x l (get_or es j (0, 0)).1 t.a t.b t.kid in let n' = well_node v t.y l (get_or es (suc j) (0, 0)).1 t.b t.c t.kid' in
    record { is = n.is; is' = n'.is; level = n.level; level' = n'.level; some = omega (arith, n.full, t.some); some' = omega (arith, n'.full, t.some'); both = omega (arith, n.full, n'.full, t.both) }

pub joined_two : {A : Type 0} (f : ℕ → List A) (es : List (ℕ × ℕ)) (j : ℕ) → suc j < length es →
    joined f es ≡ joined f (take j es) ++ (f (get_or es j (0, 0)).1 ++ (f (get_or es (suc j) (0, 0)).1 ++ joined f (drop (suc (suc j)) es)))
joined_two f es j h = joined_at f es j (omega arith) ∙ ap (λ ds. joined f (take j es) ++ (f (get_or es j (0, 0)).1 ++ joined f ds)) (drop-cons es (suc j) (0, 0) h)
