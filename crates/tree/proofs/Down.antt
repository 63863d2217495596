-- The way down to the child that has k.
use Rattle.std.proofs.Common.{◌≡◌, ℕ, zero, suc, ◌+◌, ◌<◌, ◌≤◌, List, [], ◌∷◌, ◌++◌, length, get_or, take, drop, Some, None, sym, refl, ap, ◌∙◌, subst, inl, inr, arith}
use Rattle.std.proofs.lemmas.Bool.{eq-eqb, cases_lt}
use Rattle.node.specs.Pairs.{Up, find, first, above}
use Rattle.node.specs.Node.{count_of, pairs_of, IsNode, Chosen, Rising, Reaches}
use Rattle.tree.specs.State.{PageState, Still}
use Rattle.tree.specs.Tree.{joined, pairs_at, pages_at, occ, Kids, Well, Mine, Asks, Sound, pairs_of_tree, keys_end, root_min}
use Rattle.node.proofs.Pairs.{find_in, above_left, above_some, above_none, above_first}
use Rattle.node.proofs.Words.{pairs_length}
use Rattle.tree.proofs.Kids.{At, kids_at, kids_up, kids_joined, kids_next, joined_at, well_up, occ-++}
use Rattle.std.proofs.lemmas.List.{drop_more, drop_all}

abbrev pub kids_of : (ℕ → List ℕ) → ℕ → ℕ → ℕ → ℕ → Type 0
kids_of v l c a b = Well v 85 l c a b

module _ (v : ℕ → List ℕ) (m l p lo hi k i : ℕ) (w : Well v m (suc l) p lo hi) (from : lo ≤ k) (to : k < hi) (ch : Chosen (pairs_of (v p)) k i) where
  pub kid : At (kids_of v l) lo hi (pairs_of (v p)) i
  unfolding Well
  kid = kids_at (kids_of v l) lo hi (pairs_of (v p)) i ch.here w.1

  pub kid_low : kid.a ≤ k
  kid_low = omega (arith, ch.low, kid.key)

  pub kid_high : k < kid.b
  kid_high = let n = kids_next (kids_of v l) kid.b hi (pairs_of (v p)) i kid.right in
      elim (cases_lt (suc i) (length (pairs_of (v p)))) [ inl h ↦ omega (arith, n.0 h, ch.high h) | inr h ↦ omega (arith, n.1 h) ]

  pub lefts : Up lo kid.a (joined (λ c. pairs_at v l c) (take i (pairs_of (v p))))
  lefts = kids_joined (kids_of v l) (λ c. pairs_at v l c) (λ c x y z. well_up v 85 l c x y z) lo kid.a (take i (pairs_of (v p))) kid.left

  pub rights : Up kid.b hi (joined (λ c. pairs_at v l c) (drop (suc i) (pairs_of (v p))))
  rights = kids_joined (kids_of v l) (λ c. pairs_at v l c) (λ c x y z. well_up v 85 l c x y z) kid.b hi (drop (suc i) (pairs_of (v p))) kid.right

  pub pairs_split : pairs_at v (suc l) p ≡ joined (λ c. pairs_at v l c) (take i (pairs_of (v p))) ++ (pairs_at v l (get_or (pairs_of (v p)) i (0, 0)).1 ++ joined (λ c. pairs_at v l c) (drop (suc i) (pairs_of (v p))))
  unfolding pairs_at
  pairs_split = joined_at (λ c. pairs_at v l c) (pairs_of (v p)) i ch.here

  pub find_down : find k (pairs_at v (suc l) p) ≡ find k (pairs_at v l (get_or (pairs_of (v p)) i (0, 0)).1)
  find_down = ap (λ es. find k es) pairs_split ∙ find_in lo kid.a kid.b hi k (joined (λ c. pairs_at v l c) (take i (pairs_of (v p)))) (pairs_at v l (get_or (pairs_of (v p)) i (0, 0)).1) (joined (λ c. pairs_at v l c) (drop (suc i) (pairs_of (v p)))) lefts rights kid_low kid_high

pub occ_here : (q : ℕ) (ps : List ℕ) → 1 ≤ occ q (q ∷ ps)
occ_here q ps = rw (eq-eqb q q refl) (omega arith)

pub mine_here : (d : PageState) (l p : ℕ) → Mine d l p → 1 ≤ d.taken p
unfolding pages_at
mine_here d zero p h = omega (arith, h p, occ_here p [])
mine_here d (suc l) p h = omega (arith, h p, occ_here p (joined (λ c. pages_at d.page l c) (pairs_of (d.page p))))

pub occ_kid : (v : ℕ → List ℕ) (l p i q : ℕ) → i < length (pairs_of (v p)) → occ q (pages_at v l (get_or (pairs_of (v p)) i (0, 0)).1) ≤ occ q (pages_at v (suc l) p)
unfolding pages_at
occ_kid v l p i q h =
    let f : ℕ → List ℕ = λ c. pages_at v l c in let es = pairs_of (v p) in
    omega (arith, ap (λ ps. occ q ps) (joined_at f es i h), occ-++ q (joined f (take i es)) (f (get_or es i (0, 0)).1 ++ joined f (drop (suc i) es)), occ-++ q (f (get_or es i (0, 0)).1) (joined f (drop (suc i) es)))

-- a leaf, and an inner node, may be asked
pub asks_leaf : (d : PageState) (l p k : ℕ) → l ≡ 0 → Asks d l p k → IsNode (d.page p) × Rising (pairs_of (d.page p))
unfolding Well
asks_leaf d zero p k e a = (a.well.0.is, (a.lo, (a.hi, a.well.1)))
asks_leaf d (suc l) p k e a = absurd (omega arith)

pub leaf_pairs : (v : ℕ → List ℕ) (l p : ℕ) → l ≡ 0 → pairs_at v l p ≡ pairs_of (v p)
unfolding pairs_at
leaf_pairs v zero p e = refl
leaf_pairs v (suc l) p e = absurd (omega arith)

kids_first : (W : ℕ → ℕ → ℕ → Type 0) (lo hi : ℕ) (es : List (ℕ × ℕ)) → Kids W lo hi es → 0 < length es → (get_or es 0 (0, 0)).0 ≡ lo
kids_first W lo hi [] k h = absurd (omega arith)
kids_first W lo hi (e ∷ es) k h = k.0

pub asks_inner : (d : PageState) (l p k : ℕ) → 0 < l → Asks d l p k → IsNode (d.page p) × Reaches (pairs_of (d.page p)) k
unfolding Well
asks_inner d zero p k e a = absurd (omega arith)
asks_inner d (suc l) p k e a =
    let n = a.well.0 in let ks = a.well.1 in let es = pairs_of (d.page p) in
    let h : 0 < length es = omega (arith, n.full, a.some, pairs_length (d.page p) n.is) in (
      n.is,
      record { lo = a.lo; hi = a.hi; up = kids_up (kids_of d.page l) a.lo a.hi es ks; some = h; from = omega (arith, a.from, kids_first (kids_of d.page l) a.lo a.hi es ks h) },
    )

-- down by one level, over a read
pub record Below (d e : PageState) (l j p c k : ℕ) : Type 0 where
  pub asks : Asks e j c k
  pub mine : Mine e j c
  pub finds : find k (pairs_at d.page l p) ≡ find k (pairs_at e.page j c)

below_suc : (d e : PageState) (l p c k i : ℕ) → Still 1 d e → Asks d (suc l) p k → Mine d (suc l) p → Chosen (pairs_of (d.page p)) k i → c ≡ (get_or (pairs_of (d.page p)) i (0, 0)).1 → Below d e (suc l) l p c k
below_suc d e l p c k i s a mi ch z =
    let x = kid d.page a.m l p a.lo a.hi k i a.well a.from a.to ch in
    let c' = (get_or (pairs_of (d.page p)) i (0, 0)).1 in
    let r : (v : ℕ → List ℕ) (t : ℕ → ℕ) (y : ℕ) → v ≡ d.page → t ≡ d.taken → y ≡ c' → Well v 85 l y x.a x.b × ((q : ℕ) → occ q (pages_at v l y) ≤ t q) × (find k (pairs_at d.page (suc l) p) ≡ find k (pairs_at v l y)) =
    λ v t y ve te ye. subst (λ y. Well v 85 l y x.a x.b × ((q : ℕ) → occ q (pages_at v l y) ≤ t q) × (find k (pairs_at d.page (suc l) p) ≡ find k (pairs_at v l y))) (sym ye)
    (subst (λ v. Well v 85 l c' x.a x.b × ((q : ℕ) → occ q (pages_at v l c') ≤ t q) × (find k (pairs_at d.page (suc l) p) ≡ find k (pairs_at v l c'))) (sym ve)
    (subst (λ (t : ℕ → ℕ). Well d.page 85 l c' x.a x.b × ((q : ℕ) → occ q (pages_at d.page l c') ≤ t q) × (find k (pairs_at d.page (suc l) p) ≡ find k (pairs_at d.page l c'))) (sym te)
    (x.kid, (λ q. omega (arith, mi q, occ_kid d.page l p i q ch.here)), find_down d.page a.m l p a.lo a.hi k i a.well a.from a.to ch))) in
    let f = r e.page e.taken c s.page s.taken z in
    record {
      asks = record { m = 85; lo = x.a; hi = x.b; some = omega arith; well = f.0; from = kid_low d.page a.m l p a.lo a.hi k i a.well a.from a.to ch; to = kid_high d.page a.m l p a.lo a.hi k i a.well a.from a.to ch };
      mine = f.1;
      finds = f.2;
    }

pub below : (d e : PageState) (l j p c k i : ℕ) → l ≡ suc j → Still 1 d e → Asks d l p k → Mine d l p → Chosen (pairs_of (d.page p)) k i → c ≡ (get_or (pairs_of (d.page p)) i (0, 0)).1 → Below d e l j p c k
below d e l j p c k i eq s a mi ch z = subst (λ n. Asks d n p k → Mine d n p → Below d e n j p c k) (sym eq) (λ a mi. below_suc d e j p c k i s a mi ch z) a mi

pub still_more : (a n : ℕ) (d e : PageState) → a ≤ n → Still a d e → Still n d e
still_more a n d e h s = record { page = s.page; taken = s.taken; room = s.room; left = omega (arith, s.left); dirty = s.dirty; spare = s.spare }

pub still_on : (a b n : ℕ) (d e f : PageState) → a + b ≤ n → Still a d e → Still b e f → Still n d f
still_on a b n d e f h s t = record { page = t.page ∙ s.page; taken = t.taken ∙ s.taken; room = t.room ∙ s.room; left = omega (arith, s.left, t.left); dirty = t.dirty ∙ s.dirty; spare = t.spare ∙ s.spare }

-- the tree as a whole
pub sound_asks : (d : PageState) (h l root k : ℕ) → h ≡ suc l → k < keys_end → Sound d h root → Asks d l root k × Mine d l root
unfolding Sound
sound_asks d h l root k e t s = subst (λ h. Sound d h root → Asks d l root k × Mine d l root) (sym e) (at_suc l) s
  where
    at_suc : (l : ℕ) → Sound d (suc l) root → Asks d l root k × Mine d l root
    at_suc zero s = (record { m = 1; lo = 0; hi = keys_end; some = omega arith; well = s.0; from = omega arith; to = t }, s.1)
    at_suc (suc l) s = (record { m = 2; lo = 0; hi = keys_end; some = omega arith; well = s.0; from = omega arith; to = t }, s.1)

pub tree_none : (v : ℕ → List ℕ) (h root : ℕ) → h ≡ 0 → pairs_of_tree v h root ≡ []
unfolding pairs_of_tree
tree_none v zero root e = refl
tree_none v (suc l) root e = absurd (omega arith)

pub tree_some : (v : ℕ → List ℕ) (h l root : ℕ) → h ≡ suc l → pairs_of_tree v h root ≡ pairs_at v l root
unfolding pairs_of_tree
tree_some v h l root e = ap (λ n. pairs_of_tree v n root) e

-- a tree whose nodes have entries has pairs
first-++ : (xs ys : List (ℕ × ℕ)) → 0 < length xs → first (xs ++ ys) ≡ first xs
first-++ [] ys h = absurd (omega arith)
first-++ (x ∷ xs) ys h = refl

some-++ : (xs ys : List (ℕ × ℕ)) → 0 < length xs → 0 < length (xs ++ ys)
some-++ [] ys h = absurd (omega arith)
some-++ (x ∷ xs) ys h = omega arith

some_kids : (v : ℕ → List ℕ) (l : ℕ) → ((c a b : ℕ) → Well v 85 l c a b → 0 < length (pairs_at v l c)) → (lo hi : ℕ) (es : List (ℕ × ℕ)) → 0 < length es → Kids (kids_of v l) lo hi es → 0 < length (joined (λ c. pairs_at v l c) es)
some_kids v l f lo hi [] h k = absurd (omega arith)
some_kids v l f lo hi (e ∷ es) h (z, (mid, x, w, r)) = some-++ (pairs_at v l e.1) (joined (λ c. pairs_at v l c) es) (f e.1 lo mid w)

pub well_some : (v : ℕ → List ℕ) (m l p lo hi : ℕ) → 0 < m → Well v m l p lo hi → 0 < length (pairs_at v l p)
unfolding Well pairs_at
well_some v m zero p lo hi h w = omega (arith, pairs_length (v p) w.0.is, w.0.full)
well_some v m (suc l) p lo hi h w = some_kids v l (λ c a b y. well_some v 85 l c a b (omega arith) y) lo hi (pairs_of (v p)) (omega (arith, pairs_length (v p) w.0.is, w.0.full)) w.1

-- any child may be asked for what it begins with
kid_asks_suc : (d : PageState) (l p c i k : ℕ) → Asks d (suc l) p k → Mine d (suc l) p → i < length (pairs_of (d.page p)) → c ≡ (get_or (pairs_of (d.page p)) i (0, 0)).1 → ((y : ℕ) × Asks d l c y) × Mine d l c × (0 < length (pairs_at d.page l c))
unfolding Well
kid_asks_suc d l p c i k a mi h z =
    let t = kids_at (kids_of d.page l) a.lo a.hi (pairs_of (d.page p)) i h a.well.1 in
    subst (λ c. ((y : ℕ) × Asks d l c y) × Mine d l c × (0 < length (pairs_at d.page l c))) (sym z) (
      (t.a, record { m = 85; lo = t.a; hi = t.b; some = omega arith; well = t.kid; from = omega arith; to = t.up }),
      (λ q. omega (arith, mi q, occ_kid d.page l p i q h)),
      well_some d.page 85 l (get_or (pairs_of (d.page p)) i (0, 0)).1 t.a t.b (omega arith) t.kid,
    )

pub kid_asks : (d : PageState) (l j p c i k : ℕ) → l ≡ suc j → Asks d l p k → Mine d l p → i < length (pairs_of (d.page p)) → c ≡ (get_or (pairs_of (d.page p)) i (0, 0)).1 → ((y : ℕ) × Asks d j c y) × Mine d j c × (0 < length (pairs_at d.page j c))
kid_asks d l j p c i k e a mi h z = subst (λ n. Asks d n p k → Mine d n p → ((y : ℕ) × Asks d j c y) × Mine d j c × (0 < length (pairs_at d.page j c))) (sym e) (λ a mi. kid_asks_suc d j p c i k a mi h z) a mi

-- over reads that changed nothing
pub asks_still : (n : ℕ) (d e : PageState) (l p : ℕ) → Still n d e → ((y : ℕ) × Asks d l p y) × Mine d l p → ((y : ℕ) × Asks e l p y) × Mine e l p
asks_still n d e l p s (a, mi) = (
  (a.0, record { m = a.1.m; lo = a.1.lo; hi = a.1.hi; some = a.1.some; well = subst (λ v. Well v a.1.m l p a.1.lo a.1.hi) (sym s.page) a.1.well; from = a.1.from; to = a.1.to }),
  (λ q. subst (λ v. occ q (pages_at v l p) ≤ e.taken q) (sym s.page) (subst (λ (t : ℕ → ℕ). occ q (pages_at d.page l p) ≤ t q) (sym s.taken) (mi q))),
)

pub asks_node : (d : PageState) (l p k : ℕ) → Asks d l p k → IsNode (d.page p) × (0 < count_of (d.page p))
unfolding Well
asks_node d zero p k a = (a.well.0.is, omega (arith, a.some, a.well.0.full))
asks_node d (suc l) p k a = (a.well.0.is, omega (arith, a.some, a.well.0.full))

list_first : (es : List (ℕ × ℕ)) → 0 < length es → first es ≡ Some (get_or es 0 (0, 0))
list_first [] h = absurd (omega arith)
list_first (e ∷ es) h = refl

pub first_leaf : (d : PageState) (l p k : ℕ) → l ≡ 0 → Asks d l p k → first (pairs_at d.page l p) ≡ Some (get_or (pairs_of (d.page p)) 0 (0, 0))
first_leaf d l p k e a = let n = asks_node d l p k a in
    ap first (leaf_pairs d.page l p e) ∙ list_first (pairs_of (d.page p)) (omega (arith, pairs_length (d.page p) n.0, n.1))

first_joined : (f : ℕ → List (ℕ × ℕ)) (es : List (ℕ × ℕ)) → 0 < length es → 0 < length (f (get_or es 0 (0, 0)).1) → first (joined f es) ≡ first (f (get_or es 0 (0, 0)).1)
first_joined f [] h l = absurd (omega arith)
first_joined f (e ∷ es) h l = first-++ (f e.1) (joined f es) l

pub first_inner : (d : PageState) (l j p c k : ℕ) → l ≡ suc j → Asks d l p k → Mine d l p → c ≡ (get_or (pairs_of (d.page p)) 0 (0, 0)).1 → first (pairs_at d.page l p) ≡ first (pairs_at d.page j c)
unfolding pairs_at
first_inner d l j p c k e a mi z =
    let n = asks_node d l p k a in let h : 0 < length (pairs_of (d.page p)) = omega (arith, pairs_length (d.page p) n.0, n.1) in
    let r = kid_asks d l j p (get_or (pairs_of (d.page p)) 0 (0, 0)).1 0 k e a mi h refl in
    ap (λ n. first (pairs_at d.page n p)) e ∙ first_joined (λ c. pairs_at d.page j c) (pairs_of (d.page p)) h r.2 ∙ ap (λ c. first (pairs_at d.page j c)) (sym z)

-- the first pair above k
module _ (v : ℕ → List ℕ) (m l p lo hi k i : ℕ) (w : Well v m (suc l) p lo hi) (from : lo ≤ k) (to : k < hi) (ch : Chosen (pairs_of (v p)) k i) where
  above_cut : above k (pairs_at v (suc l) p) ≡ above k (pairs_at v l (get_or (pairs_of (v p)) i (0, 0)).1 ++ joined (λ c. pairs_at v l c) (drop (suc i) (pairs_of (v p))))
  above_cut = let x = kid v m l p lo hi k i w from to ch in ap (λ es. above k es) (pairs_split v m l p lo hi k i w from to ch)
      ∙ above_left lo x.a k (joined (λ c. pairs_at v l c) (take i (pairs_of (v p)))) (pairs_at v l (get_or (pairs_of (v p)) i (0, 0)).1 ++ joined (λ c. pairs_at v l c) (drop (suc i) (pairs_of (v p)))) (lefts v m l p lo hi k i w from to ch) (omega (arith, kid_low v m l p lo hi k i w from to ch))

  pub above_some_down : (e : ℕ × ℕ) → Some e ≡ above k (pairs_at v l (get_or (pairs_of (v p)) i (0, 0)).1) → Some e ≡ above k (pairs_at v (suc l) p)
  above_some_down e h = sym (above_cut ∙ above_some k (pairs_at v l (get_or (pairs_of (v p)) i (0, 0)).1) (joined (λ c. pairs_at v l c) (drop (suc i) (pairs_of (v p)))) e (sym h))

  above_rest : None ≡ above k (pairs_at v l (get_or (pairs_of (v p)) i (0, 0)).1) → above k (pairs_at v (suc l) p) ≡ first (joined (λ c. pairs_at v l c) (drop (suc i) (pairs_of (v p))))
  above_rest h = let x = kid v m l p lo hi k i w from to ch in above_cut ∙ above_none k (pairs_at v l (get_or (pairs_of (v p)) i (0, 0)).1) (joined (λ c. pairs_at v l c) (drop (suc i) (pairs_of (v p)))) (sym h)
      ∙ above_first x.b hi k (joined (λ c. pairs_at v l c) (drop (suc i) (pairs_of (v p)))) (rights v m l p lo hi k i w from to ch) (kid_high v m l p lo hi k i w from to ch)

  pub above_end : length (pairs_of (v p)) ≡ suc i → None ≡ above k (pairs_at v l (get_or (pairs_of (v p)) i (0, 0)).1) → None ≡ above k (pairs_at v (suc l) p)
  above_end n h = sym (above_rest h ∙ ap (λ es. first (joined (λ c. pairs_at v l c) es)) (drop_all (suc i) (pairs_of (v p)) (omega arith)))

  pub above_right : (e : ℕ × ℕ) → suc i < length (pairs_of (v p)) → None ≡ above k (pairs_at v l (get_or (pairs_of (v p)) i (0, 0)).1) → 0 < length (pairs_at v l (get_or (pairs_of (v p)) (suc i) (0, 0)).1) → Some e ≡ first (pairs_at v l (get_or (pairs_of (v p)) (suc i) (0, 0)).1) → Some e ≡ above k (pairs_at v (suc l) p)
  above_right e n h s z = z ∙ sym (above_rest h ∙ ap (λ es. first (joined (λ c. pairs_at v l c) es)) (drop_more (pairs_of (v p)) (suc i) (0, 0) n)
      ∙ first-++ (pairs_at v l (get_or (pairs_of (v p)) (suc i) (0, 0)).1) (joined (λ c. pairs_at v l c) (drop (suc i + 1) (pairs_of (v p)))) s)

pub record Next (d e : PageState) (l j p c k i : ℕ) : Type 0 where
  pub some : (x : ℕ × ℕ) → Some x ≡ above k (pairs_at e.page j c) → Some x ≡ above k (pairs_at d.page l p)
  pub end : length (pairs_of (d.page p)) ≡ suc i → None ≡ above k (pairs_at e.page j c) → None ≡ above k (pairs_at d.page l p)
  pub right : (x : ℕ × ℕ) (q : ℕ) (f : PageState) → suc i < length (pairs_of (d.page p)) → q ≡ (get_or (pairs_of (d.page p)) (suc i) (0, 0)).1 → None ≡ above k (pairs_at e.page j c) → f.page ≡ d.page → Some x ≡ first (pairs_at f.page j q) → Some x ≡ above k (pairs_at d.page l p)

beyond_suc : (d e : PageState) (l p c k i : ℕ) → Still 1 d e → Asks d (suc l) p k → Mine d (suc l) p → Chosen (pairs_of (d.page p)) k i → c ≡ (get_or (pairs_of (d.page p)) i (0, 0)).1 → Next d e (suc l) l p c k i
beyond_suc d e l p c k i s a mi ch z =
    let same : above k (pairs_at e.page l c) ≡ above k (pairs_at d.page l (get_or (pairs_of (d.page p)) i (0, 0)).1) =
    ap (λ (v : ℕ → List ℕ). above k (pairs_at v l c)) s.page ∙ ap (λ c. above k (pairs_at d.page l c)) z in
    record {
      some = λ x h. above_some_down d.page a.m l p a.lo a.hi k i a.well a.from a.to ch x (h ∙ same);
      end = λ n h. above_end d.page a.m l p a.lo a.hi k i a.well a.from a.to ch n (h ∙ same);
      right = λ x q f n qe h fe y. above_right d.page a.m l p a.lo a.hi k i a.well a.from a.to ch x n (h ∙ same)
          (kid_asks_suc d l p (get_or (pairs_of (d.page p)) (suc i) (0, 0)).1 (suc i) k a mi n refl).2
          (y ∙ ap (λ (v : ℕ → List ℕ). first (pairs_at v l q)) fe ∙ ap (λ q. first (pairs_at d.page l q)) qe);
    }

pub beyond : (d e : PageState) (l j p c k i : ℕ) → l ≡ suc j → Still 1 d e → Asks d l p k → Mine d l p → Chosen (pairs_of (d.page p)) k i → c ≡ (get_or (pairs_of (d.page p)) i (0, 0)).1 → Next d e l j p c k i
beyond d e l j p c k i eq s a mi ch z = subst (λ n. Asks d n p k → Mine d n p → Next d e n j p c k i) (sym eq) (λ a mi. beyond_suc d e j p c k i s a mi ch z) a mi

pub sound_still : (n : ℕ) (d e : PageState) (h root : ℕ) → Still n d e → Sound d h root → Sound e h root
unfolding Sound
sound_still n d e zero root s x = tt
sound_still n d e (suc l) root s x = (
  subst (λ (v : ℕ → List ℕ). Well v (root_min l) l root 0 keys_end) (sym s.page) x.0,
  (λ q. omega (arith, x.1 q, ap (λ (t : ℕ → ℕ). t q) s.taken, ap (λ (v : ℕ → List ℕ). occ q (pages_at v l root)) s.page)),
)
