-- A tree that has taken a pair: at a leaf, and above a child that has.
use Rattle.std.proofs.Common.{◌≡◌, ℕ, zero, suc, ◌+◌, ◌*◌, ◌<◌, ◌≤◌, cond, eqb, List, [], ◌∷◌, ◌++◌, length, get_or, take, drop, Some, None, Option, sym, refl, ap, ◌∙◌, subst, ap₂, inl, inr, append-nil, arith}
use Rattle.std.specs.List.{insert}
use Rattle.node.specs.Pairs.{Up, put_in}
use Rattle.node.specs.Node.{count_of, level_of, pairs_of, IsNode, Chosen, rows}
use Rattle.tree.specs.State.{PageState, Still}
use Rattle.tree.specs.Tree.{joined, pairs_at, pages_at, occ, Kids, Well, Mine, Asks, Once}
use Rattle.tree.specs.Grow.{Entered, extra, fewest, Grew}
use Rattle.node.proofs.Pairs.{up_put, put_in_lem}
use Rattle.node.proofs.Words.{pairs_length}
use Rattle.tree.proofs.Kids.{kids-++, joined_at, occ-++, well_node}
use Rattle.tree.proofs.Down.{kid, kid_low, kid_high, lefts, rights, pairs_split, mine_here}
use Rattle.tree.proofs.Alike.{AlikeAll, alike_all}
use Rattle.tree.proofs.Spent.{spends_none, spends_then, after_still}
use Rattle.tree.proofs.Steps.{entered_on}
use Rattle.tree.proofs.Parts.{put_length, up_parts, kids_parts, joined-++, occ_joined, occ_one, occ_first, one_or, one_here, grown_length, same_list, more_list}

-- a new page is taken once
pub taken_once : (n : ℕ) (d e : PageState) (l p : ℕ) (es : List (ℕ × ℕ)) (o : Option (ℕ × ℕ)) → Entered n d e l p es o → Once d → (q : ℕ) → (d.taken q ≤ e.taken q) × (e.taken q ≤ 1)
taken_once n d e l p es None t on q = (omega (arith, t.taken q), omega (arith, t.taken q, on q))
taken_once n d e l p es (Some a) t on q = elim (one_or q a.1) [
  | inl z ↦ (omega (arith, t.taken q), omega (arith, t.taken q, on q))
  | inr z ↦ (omega (arith, t.taken q), omega (arith, t.taken q, one_here q a.1 z, ap (λ r. d.taken r) z, t.fresh))
]

leaf_well : (n : ℕ) (d e : PageState) (p k x : ℕ) (o : Option (ℕ × ℕ)) → Entered n d e 0 p (put_in k x (pairs_of (d.page p))) o → (m lo hi : ℕ) → Well d.page m 0 p lo hi → lo ≤ k → k < hi → Kids (λ c a b. Well e.page (fewest m o) 0 c a b) lo hi (rows lo p o)
unfolding Well
leaf_well n d e p k x None t m lo hi w a b =
    let h = t.holds in let len = put_length k x (pairs_of (d.page p)) in (
      refl,
      (
        hi,
        omega arith,
        (
          record { is = h.is; level = h.level; full = omega (arith, w.0.full, pairs_length (d.page p) w.0.is, pairs_length (e.page p) h.is, ap length h.pairs) },
          subst (λ es. Up lo hi es) (sym h.pairs) (up_put lo hi k x (pairs_of (d.page p)) w.1 a b),
        ),
        refl,
      ),
    )
leaf_well n d e p k x (Some s) t m lo hi w a b =
    let h = t.holds in
    let c = up_parts lo hi (pairs_of (e.page p)) (pairs_of (e.page s.1)) (omega (arith, h.full, pairs_length (e.page p) h.is)) (omega (arith, h.full', pairs_length (e.page s.1) h.is'))
    (subst (λ es. Up lo hi es) (sym h.pairs) (up_put lo hi k x (pairs_of (d.page p)) w.1 a b)) in
    let k' = (get_or (pairs_of (e.page s.1)) 0 (0, 0)).0 in (
      refl,
      (
        k',
        c.low,
        (record { is = h.is; level = h.level; full = h.full }, c.left),
        (sym h.key, (hi, c.high, (record { is = h.is'; level = h.level'; full = h.full' }, c.right), refl)),
      ),
    )

leaf_pairs : (n : ℕ) (d e : PageState) (p : ℕ) (es : List (ℕ × ℕ)) (o : Option (ℕ × ℕ)) → Entered n d e 0 p es o → (lo : ℕ) → joined (λ c. pairs_at e.page 0 c) (rows lo p o) ≡ es
unfolding pairs_at
leaf_pairs n d e p es None t lo = append-nil (pairs_of (e.page p)) ∙ t.holds.pairs
leaf_pairs n d e p es (Some s) t lo = ap (λ (r : List (ℕ × ℕ)). pairs_of (e.page p) ++ r) (append-nil (pairs_of (e.page s.1))) ∙ t.holds.pairs

leaf_pages : (n : ℕ) (d e : PageState) (p : ℕ) (es : List (ℕ × ℕ)) (o : Option (ℕ × ℕ)) → Entered n d e 0 p es o → (lo q : ℕ) → occ q (joined (λ c. pages_at e.page 0 c) (rows lo p o)) + d.taken q ≡ occ q (pages_at d.page 0 p) + e.taken q
unfolding pages_at
leaf_pages n d e p es None t lo q = omega (arith, t.taken q)
leaf_pages n d e p es (Some s) t lo q = omega (arith, t.taken q)

pub leaf_grew : (n : ℕ) (d e : PageState) (l p k x : ℕ) (o : Option (ℕ × ℕ)) → l ≡ 0 → Entered n d e 0 p (put_in k x (pairs_of (d.page p))) o → Once d → Grew n d e l p k x o
unfolding pages_at pairs_at
leaf_grew n d e zero p k x o z t on = record {
  well = λ m lo hi h w a b. leaf_well n d e p k x o t m lo hi w a b;
  pairs = leaf_pairs n d e p (put_in k x (pairs_of (d.page p))) o t;
  pages = leaf_pages n d e p (put_in k x (pairs_of (d.page p))) o t;
  others = λ q h y. t.others q (occ_one q p y) h;
  taken = taken_once n d e 0 p (put_in k x (pairs_of (d.page p))) o t on;
  room = omega (arith, t.room);
  left = t.left;
  spends = t.spends;
}
leaf_grew n d e (suc l) p k x o z t on = absurd (omega arith)

-- an inner node p, whose child c at place i has grown
module _ (d e : PageState) (m l p lo hi k x i n : ℕ) (o : Option (ℕ × ℕ)) (w : Well d.page m (suc l) p lo hi) (from : lo ≤ k) (to : k < hi)
    (ch : Chosen (pairs_of (d.page p)) k i) (mine : Mine d (suc l) p) (once : Once d) (g : Grew n d e l (get_or (pairs_of (d.page p)) i (0, 0)).1 k x o) where
  abbrev es : List (ℕ × ℕ)
  es = pairs_of (d.page p)

  abbrev c : ℕ
  c = (get_or es i (0, 0)).1

  abbrev f : ℕ → List ℕ
  f = λ r. pages_at d.page l r

  -- the entries afterwards
  abbrev pub grown : List (ℕ × ℕ)
  grown = take i es ++ (rows (get_or es i (0, 0)).0 c o ++ drop (suc i) es)

  parts : (q : ℕ) → occ q (joined f es) ≡ occ q (joined f (take i es)) + (occ q (f c) + occ q (joined f (drop (suc i) es)))
  parts q = ap (λ ps. occ q ps) (joined_at f es i ch.here) ∙ occ-++ q (joined f (take i es)) (f c ++ joined f (drop (suc i) es)) ∙ ap (λ r. occ q (joined f (take i es)) + r) (occ-++ q (f c) (joined f (drop (suc i) es)))

  whole : (q : ℕ) → cond (eqb q p) 1 0 + occ q (joined f es) ≤ d.taken q
  unfolding pages_at
  whole q = mine q

  here : 1 ≤ d.taken p
  here = omega (arith, whole p, one_here p p refl)

  pub same_page : e.page p ≡ d.page p
  same_page = g.others p here (omega (arith, whole p, once p, one_here p p refl, parts p))

  left_alike : AlikeAll d.page e.page l (take i es)
  left_alike = alike_all d.page e.page l (take i es) (λ q h. g.others q (omega (arith, whole q, parts q)) (omega (arith, whole q, parts q, once q)))

  right_alike : AlikeAll d.page e.page l (drop (suc i) es)
  right_alike = alike_all d.page e.page l (drop (suc i) es) (λ q h. g.others q (omega (arith, whole q, parts q)) (omega (arith, whole q, parts q, once q)))

  pub grown_pages : (q : ℕ) → occ q (joined (λ r. pages_at e.page l r) grown) + d.taken q ≡ occ q (joined f es) + e.taken q
  grown_pages q =
      let h = λ (r : ℕ). pages_at e.page l r in let rs = rows (get_or es i (0, 0)).0 c o in
      omega (arith, parts q, occ_joined q h (take i es) (rs ++ drop (suc i) es), occ_joined q h rs (drop (suc i) es), ap (λ ps. occ q ps) left_alike.pages, ap (λ ps. occ q ps) right_alike.pages, g.pages (get_or es i (0, 0)).0 q)

  pub grown_pairs : joined (λ r. pairs_at e.page l r) grown ≡ put_in k x (pairs_at d.page (suc l) p)
  grown_pairs =
      let h = λ (r : ℕ). pairs_at e.page l r in let h0 = λ (r : ℕ). pairs_at d.page l r in let rs = rows (get_or es i (0, 0)).0 c o in
      let y = kid d.page m l p lo hi k i w from to ch in
      joined-++ h (take i es) (rs ++ drop (suc i) es) ∙ ap₂ (λ (u v : List (ℕ × ℕ)). u ++ v) left_alike.pairs (joined-++ h rs (drop (suc i) es) ∙ ap₂ (λ (u v : List (ℕ × ℕ)). u ++ v) (g.pairs (get_or es i (0, 0)).0) right_alike.pairs)
      ∙ sym (ap (λ es. put_in k x es) (pairs_split d.page m l p lo hi k i w from to ch)
      ∙ put_in_lem lo y.a y.b hi k (joined h0 (take i es)) (h0 c) (joined h0 (drop (suc i) es)) (lefts d.page m l p lo hi k i w from to ch) (rights d.page m l p lo hi k i w from to ch) (kid_low d.page m l p lo hi k i w from to ch) (kid_high d.page m l p lo hi k i w from to ch) x)

  fewest_85 : (o : Option (ℕ × ℕ)) → fewest 85 o ≡ 85
  fewest_85 None = refl
  fewest_85 (Some a) = refl

-- the same for any bounds that the tree has
pub grown_kids : (d e : PageState) (m l p lo hi k x i n : ℕ) (o : Option (ℕ × ℕ)) (w : Well d.page m (suc l) p lo hi) (from : lo ≤ k) (to : k < hi)
    (ch : Chosen (pairs_of (d.page p)) k i) (mine : Mine d (suc l) p) (once : Once d) (g : Grew n d e l (get_or (pairs_of (d.page p)) i (0, 0)).1 k x o) →
    Kids (λ c a b. Well e.page 85 l c a b) lo hi (grown d e m l p lo hi k x i n o w from to ch mine once g)
grown_kids d e m l p lo hi k x i n o w from to ch mine once g =
    let es = pairs_of (d.page p) in
    let y = kid d.page m l p lo hi k i w from to ch in
    let W : ℕ → ℕ → ℕ → Type 0 = λ c a b. Well e.page 85 l c a b in
    let mid : Kids W y.a y.b (rows y.a (get_or es i (0, 0)).1 o) = subst (λ q. Kids (λ c a b. Well e.page q l c a b) y.a y.b (rows y.a (get_or es i (0, 0)).1 o)) (fewest_85 d e m l p lo hi k x i n o w from to ch mine once g o)
    (g.well 85 y.a y.b (omega arith) y.kid (kid_low d.page m l p lo hi k i w from to ch) (kid_high d.page m l p lo hi k i w from to ch)) in
    let mid' : Kids W y.a y.b (rows (get_or es i (0, 0)).0 (get_or es i (0, 0)).1 o) = subst (λ q. Kids W y.a y.b (rows q (get_or es i (0, 0)).1 o)) (sym y.key) mid in
    kids-++ W lo y.a hi (take i es) (rows (get_or es i (0, 0)).0 (get_or es i (0, 0)).1 o ++ drop (suc i) es) ((left_alike d e m l p lo hi k x i n o w from to ch mine once g).well 85 lo y.a y.left)
    (kids-++ W y.a y.b hi (rows (get_or es i (0, 0)).0 (get_or es i (0, 0)).1 o) (drop (suc i) es) mid' ((right_alike d e m l p lo hi k x i n o w from to ch mine once g).well 85 y.b hi y.right))

well_length : (v : ℕ → List ℕ) (m l p lo hi : ℕ) → Well v m (suc l) p lo hi → m ≤ length (pairs_of (v p))
unfolding Well
well_length v m l p lo hi w = omega (arith, w.0.full, pairs_length (v p) w.0.is)

rows_some : (a c : ℕ) (o : Option (ℕ × ℕ)) → 0 < length (rows a c o)
rows_some a c None = omega arith
rows_some a c (Some s) = omega arith

-- what the node's page, alone or with a new one, then makes of it
settled_well : (e1 e : PageState) (l p lo hi m n : ℕ) (es : List (ℕ × ℕ)) (o : Option (ℕ × ℕ)) → Entered n e1 e (suc l) p es o → m ≤ length es → Kids (λ c a b. Well e.page 85 l c a b) lo hi es → lo < hi → Kids (λ c a b. Well e.page (fewest m o) (suc l) c a b) lo hi (rows lo p o)
unfolding Well
settled_well e1 e l p lo hi m n es None t h k lh =
    let y = t.holds in
    (refl, (hi, lh, (record { is = y.is; level = y.level; full = omega (arith, pairs_length (e.page p) y.is, ap length y.pairs) }, subst (λ es. Kids (λ c a b. Well e.page 85 l c a b) lo hi es) (sym y.pairs) k), refl))
settled_well e1 e l p lo hi m n es (Some s) t h k lh =
    let y = t.holds in
    let c = kids_parts (λ c a b. Well e.page 85 l c a b) lo hi (pairs_of (e.page p)) (pairs_of (e.page s.1)) (omega (arith, y.full, pairs_length (e.page p) y.is)) (omega (arith, y.full', pairs_length (e.page s.1) y.is'))
    (subst (λ es. Kids (λ c a b. Well e.page 85 l c a b) lo hi es) (sym y.pairs) k) in (
      refl,
      (
        (get_or (pairs_of (e.page s.1)) 0 (0, 0)).0,
        c.low,
        (record { is = y.is; level = y.level; full = y.full }, c.left),
        (sym y.key, (hi, c.high, (record { is = y.is'; level = y.level'; full = y.full' }, c.right), refl)),
      ),
    )

settled_pairs : (e1 e : PageState) (l p n : ℕ) (es : List (ℕ × ℕ)) (o : Option (ℕ × ℕ)) → Entered n e1 e (suc l) p es o → (lo : ℕ) → joined (λ c. pairs_at e.page (suc l) c) (rows lo p o) ≡ joined (λ c. pairs_at e.page l c) es
unfolding pairs_at
settled_pairs e1 e l p n es None t lo = append-nil (joined (λ c. pairs_at e.page l c) (pairs_of (e.page p))) ∙ ap (λ es. joined (λ c. pairs_at e.page l c) es) t.holds.pairs
settled_pairs e1 e l p n es (Some s) t lo =
    ap (λ (r : List (ℕ × ℕ)). joined (λ c. pairs_at e.page l c) (pairs_of (e.page p)) ++ r) (append-nil (joined (λ c. pairs_at e.page l c) (pairs_of (e.page s.1))))
    ∙ sym (joined-++ (λ c. pairs_at e.page l c) (pairs_of (e.page p)) (pairs_of (e.page s.1))) ∙ ap (λ es. joined (λ c. pairs_at e.page l c) es) t.holds.pairs

settled_pages : (e1 e : PageState) (l p n : ℕ) (es : List (ℕ × ℕ)) (o : Option (ℕ × ℕ)) → Entered n e1 e (suc l) p es o → (lo q : ℕ) → occ q (joined (λ c. pages_at e.page (suc l) c) (rows lo p o)) ≡ cond (eqb q p) 1 0 + (occ q (joined (λ c. pages_at e.page l c) es) + extra o q)
unfolding pages_at
settled_pages e1 e l p n es None t lo q =
    let h = λ (r : ℕ). pages_at e.page l r in
    omega (arith, ap (λ ps. occ q ps) (append-nil (joined h (pairs_of (e.page p)))), ap (λ es. occ q (joined h es)) t.holds.pairs)
settled_pages e1 e l p n es (Some s) t lo q =
    let h = λ (r : ℕ). pages_at e.page l r in
    omega (arith, ap (λ ps. occ q ps) (append-nil (joined h (pairs_of (e.page s.1)))), occ-++ q (joined h (pairs_of (e.page p))) (s.1 ∷ (joined h (pairs_of (e.page s.1)) ++ [])), occ_joined q h (pairs_of (e.page p)) (pairs_of (e.page s.1)), ap (λ es. occ q (joined h es)) t.holds.pairs)

pub settled : (d e1 e : PageState) (m l p lo hi k x i n n2 : ℕ) (o o2 : Option (ℕ × ℕ)) (w : Well d.page m (suc l) p lo hi) (from : lo ≤ k) (to : k < hi)
    (ch : Chosen (pairs_of (d.page p)) k i) (mine : Mine d (suc l) p) (once : Once d) (g : Grew n d e1 l (get_or (pairs_of (d.page p)) i (0, 0)).1 k x o) →
    Entered n2 e1 e (suc l) p (grown d e1 m l p lo hi k x i n o w from to ch mine once g) o2 → Grew (n + n2) d e (suc l) p k x o2
unfolding pages_at
settled d e1 e m l p lo hi k x i n n2 o o2 w from to ch mine once g t =
    let es = pairs_of (d.page p) in let f = λ (r : ℕ). pages_at d.page l r in
    let gr = grown d e1 m l p lo hi k x i n o w from to ch mine once g in
    let wh : (q : ℕ) → cond (eqb q p) 1 0 + occ q (joined f es) ≤ d.taken q = whole d e1 m l p lo hi k x i n o w from to ch mine once g in
    let gp : (q : ℕ) → occ q (joined (λ r. pages_at e1.page l r) gr) + d.taken q ≡ occ q (joined f es) + e1.taken q = grown_pages d e1 m l p lo hi k x i n o w from to ch mine once g in
    let pt : (q : ℕ) → occ q (joined f es) ≡ occ q (joined f (take i es)) + (occ q (f (get_or es i (0, 0)).1) + occ q (joined f (drop (suc i) es))) = parts d e1 m l p lo hi k x i n o w from to ch mine once g in
    let notp : (q : ℕ) → 1 ≤ occ q (joined (λ r. pages_at e1.page l r) gr) → q ≡ p → ⊥ = λ q h z. omega (arith, gp q, wh q, once q, one_here q p z, (g.taken q).1) in
    let al = alike_all e1.page e.page l gr (λ q h. t.others q (notp q h) (omega (arith, gp q, wh q))) in
    record {
      well = λ m' lo' hi' h w' a' b'. settled_well e1 e l p lo' hi' m' n2 gr o2 t (omega (arith, grown_length i es (rows (get_or es i (0, 0)).0 (get_or es i (0, 0)).1 o) ch.here (rows_some (get_or es i (0, 0)).0 (get_or es i (0, 0)).1 o), well_length d.page m' l p lo' hi' w'))
          (al.well 85 lo' hi' (grown_kids d e1 m' l p lo' hi' k x i n o w' a' b' ch mine once g)) (omega arith);
      pairs = λ lo. settled_pairs e1 e l p n2 gr o2 t lo ∙ al.pairs ∙ grown_pairs d e1 m l p _ hi k x i n o w from to ch mine once g;
      pages = λ lo q. omega (arith, settled_pages e1 e l p n2 gr o2 t lo q, gp q, ap (λ ps. occ q ps) al.pages, t.taken q);
      others = λ q h z. t.others q (occ_first q p (joined f es) z) (omega (arith, (g.taken q).0)) ∙ g.others q h (omega (arith, pt q, z));
      taken = λ q. let y = taken_once n2 e1 e (suc l) p gr o2 t (λ r. (g.taken r).1) q in (omega (arith, y.0, (g.taken q).0), y.1);
      room = omega (arith, g.room, t.room);
      left = omega (arith, g.left, t.left);
      spends = spends_then (2 * l + 2) 2 (2 * suc l + 2) d e1 e (omega arith) g.spends t.spends;
    }

pub grew_from : (n : ℕ) (d d1 e : PageState) (l c c' k x : ℕ) (o : Option (ℕ × ℕ)) → Still 1 d d1 → c ≡ c' → Grew n d1 e l c k x o → Grew (n + 1) d e l c' k x o
grew_from n d d1 e l c c' k x o s z g =
    let tk : (r : ℕ) → d1.taken r ≡ d.taken r = λ r. ap (λ (t : ℕ → ℕ). t r) s.taken in
    let oc : (r : ℕ) → occ r (pages_at d1.page l c) ≡ occ r (pages_at d.page l c) = λ r. ap (λ (v : ℕ → List ℕ). occ r (pages_at v l c)) s.page in
    subst (λ c. Grew (n + 1) d e l c k x o) z (record {
      well = λ m lo hi h w a b. g.well m lo hi h (subst (λ (v : ℕ → List ℕ). Well v m l c lo hi) (sym s.page) w) a b;
      pairs = λ lo. g.pairs lo ∙ ap (λ (v : ℕ → List ℕ). put_in k x (pairs_at v l c)) s.page;
      pages = λ lo q. omega (arith, g.pages lo q, tk q, oc q);
      others = λ q h y. g.others q (omega (arith, tk q)) (oc q ∙ y) ∙ ap (λ (v : ℕ → List ℕ). v q) s.page;
      taken = λ q. (omega (arith, (g.taken q).0, tk q), (g.taken q).1);
      room = omega (arith, g.room, s.room);
      left = omega (arith, g.left, s.left);
      spends = after_still 1 (2 * l + 2) d d1 e s g.spends;
    })

pub grew_more : (n n' : ℕ) (d e : PageState) (l p k x : ℕ) (o : Option (ℕ × ℕ)) → n ≤ n' → Grew n d e l p k x o → Grew n' d e l p k x o
grew_more n n' d e l p k x o h g = record { well = g.well; pairs = g.pairs; pages = g.pages; others = g.others; taken = g.taken; room = g.room; left = omega (arith, g.left); spends = g.spends }

still_none : (d : PageState) → Still 0 d d
still_none d = record { page = refl; taken = refl; room = refl; left = omega arith; dirty = refl; spare = refl }

module _ (d d1 e1 : PageState) (j p c k x i n : ℕ) (o : Option (ℕ × ℕ)) (s : Still 1 d d1) (a : Asks d (suc j) p k) (mine : Mine d (suc j) p) (once : Once d)
    (ch : Chosen (pairs_of (d.page p)) k i) (z : c ≡ (get_or (pairs_of (d.page p)) i (0, 0)).1) (g : Grew n d1 e1 j c k x o) where
  from_d : Grew (n + 1) d e1 j (get_or (pairs_of (d.page p)) i (0, 0)).1 k x o
  from_d = grew_from n d d1 e1 j c (get_or (pairs_of (d.page p)) i (0, 0)).1 k x o s z g

  page_same : e1.page p ≡ d.page p
  page_same = same_page d e1 a.m j p a.lo a.hi k x i (n + 1) o a.well a.from a.to ch mine once from_d

  level_same : level_of (e1.page p) ≡ suc j
  level_same = ap (λ b. level_of b) page_same ∙ (well_node d.page a.m (suc j) p a.lo a.hi a.well).level

  may_enter : (1 ≤ e1.taken p) × IsNode (e1.page p) × (i + 1 ≤ count_of (e1.page p))
  may_enter =
      let nd = well_node d.page a.m (suc j) p a.lo a.hi a.well in (
        omega (arith, (from_d.taken p).0, mine_here d (suc j) p mine),
        subst (λ b. IsNode b) (sym page_same) nd.is,
        subst (λ b. i + 1 ≤ count_of b) (sym page_same) (omega (arith, ch.here, pairs_length (d.page p) nd.is)),
      )

  finish : (e : PageState) (n2 l' : ℕ) (es : List (ℕ × ℕ)) (o2 : Option (ℕ × ℕ)) → l' ≡ suc j → es ≡ take i (pairs_of (d.page p)) ++ (rows (get_or (pairs_of (d.page p)) i (0, 0)).0 (get_or (pairs_of (d.page p)) i (0, 0)).1 o ++ drop (suc i) (pairs_of (d.page p))) → Entered n2 e1 e l' p es o2 → Grew (n + 1 + n2) d e (suc j) p k x o2
  finish e n2 l' es o2 le ee t = settled d e1 e a.m j p a.lo a.hi k x i (n + 1) n2 o o2 a.well a.from a.to ch mine once from_d
      (entered_on 0 n2 n2 e1 e1 e l' (suc j) p es (take i (pairs_of (d.page p)) ++ (rows (get_or (pairs_of (d.page p)) i (0, 0)).0 (get_or (pairs_of (d.page p)) i (0, 0)).1 o ++ drop (suc i) (pairs_of (d.page p)))) o2 (still_none e1) le ee (omega arith) t)

inner_same_suc : (d d1 e1 : PageState) (j p c k x i n : ℕ) (o : Option (ℕ × ℕ)) → o ≡ None → Still 1 d d1 → Asks d (suc j) p k → Mine d (suc j) p → Once d → Chosen (pairs_of (d.page p)) k i → c ≡ (get_or (pairs_of (d.page p)) i (0, 0)).1 → Grew n d1 e1 j c k x o → Grew (n + 1) d e1 (suc j) p k x o
inner_same_suc d d1 e1 j p c k x i n o y s a mine once ch z g =
    subst (λ o. Grew n d1 e1 j c k x o → Grew (n + 1) d e1 (suc j) p k x o) (sym y) (λ g.
    let ps = page_same d d1 e1 j p c k x i n None s a mine once ch z g in
    grew_more (n + 1 + 0) (n + 1) d e1 (suc j) p k x None (omega arith) (finish d d1 e1 j p c k x i n None s a mine once ch z g e1 0 (suc j) (pairs_of (d.page p)) None refl (same_list i (pairs_of (d.page p)) ch.here)
    (record {
      holds = record { is = subst (λ b. IsNode b) (sym ps) (well_node d.page a.m (suc j) p a.lo a.hi a.well).is; level = level_same d d1 e1 j p c k x i n None s a mine once ch z g; pairs = ap pairs_of ps };
      others = λ q h t. refl;
      taken = λ q. omega arith;
      fresh = tt;
      room = omega arith;
      left = omega arith;
      spends = spends_none 2 e1;
    }))) g

inner_more_suc : (d d1 e1 e : PageState) (j p c k x i n : ℕ) (o o2 : Option (ℕ × ℕ)) (b : ℕ × ℕ) → o ≡ Some b → Still 1 d d1 → Asks d (suc j) p k → Mine d (suc j) p → Once d → Chosen (pairs_of (d.page p)) k i → c ≡ (get_or (pairs_of (d.page p)) i (0, 0)).1 → Grew n d1 e1 j c k x o →
    ((1 ≤ e1.taken p) × IsNode (e1.page p) × (i + 1 ≤ count_of (e1.page p))) × (Entered 2 e1 e (level_of (e1.page p)) p (insert (pairs_of (e1.page p)) (i + 1) b) o2 → Grew (n + 3) d e (suc j) p k x o2)
inner_more_suc d d1 e1 e j p c k x i n o o2 b y s a mine once ch z g =
    let g' : Grew n d1 e1 j c k x (Some b) = subst (λ o. Grew n d1 e1 j c k x o) y g in
    let ps = page_same d d1 e1 j p c k x i n (Some b) s a mine once ch z g' in
    let one : i + 1 ≡ suc i = omega arith in (
      may_enter d d1 e1 j p c k x i n (Some b) s a mine once ch z g',
      (λ t. grew_more (n + 1 + 2) (n + 3) d e (suc j) p k x o2 (omega arith) (finish d d1 e1 j p c k x i n (Some b) s a mine once ch z g' e 2 (level_of (e1.page p)) (insert (pairs_of (e1.page p)) (i + 1) b) o2 (level_same d d1 e1 j p c k x i n (Some b) s a mine once ch z g')
          (ap (λ q. insert (pairs_of q) (i + 1) b) ps ∙ ap (λ m. insert (pairs_of (d.page p)) m b) one ∙ more_list i (pairs_of (d.page p)) b ch.here) t)),
    )

pub inner_same : (d d1 e1 : PageState) (l j p c k x i n n' : ℕ) (o : Option (ℕ × ℕ)) → l ≡ suc j → n + 1 ≤ n' → o ≡ None → Still 1 d d1 → Asks d l p k → Mine d l p → Once d → Chosen (pairs_of (d.page p)) k i → c ≡ (get_or (pairs_of (d.page p)) i (0, 0)).1 → Grew n d1 e1 j c k x o → Grew n' d e1 l p k x o
inner_same d d1 e1 l j p c k x i n n' o eq h y s a mine once ch z g = grew_more (n + 1) n' d e1 l p k x o h
    (subst (λ l. Asks d l p k → Mine d l p → Grew (n + 1) d e1 l p k x o) (sym eq) (λ a mine. inner_same_suc d d1 e1 j p c k x i n o y s a mine once ch z g) a mine)

pub inner_more : (d d1 e1 e : PageState) (l j p c k x i n n' : ℕ) (o o2 : Option (ℕ × ℕ)) (b : ℕ × ℕ) → l ≡ suc j → n + 3 ≤ n' → o ≡ Some b → Still 1 d d1 → Asks d l p k → Mine d l p → Once d → Chosen (pairs_of (d.page p)) k i → c ≡ (get_or (pairs_of (d.page p)) i (0, 0)).1 → Grew n d1 e1 j c k x o →
    ((1 ≤ e1.taken p) × IsNode (e1.page p) × (i + 1 ≤ count_of (e1.page p))) × (Entered 2 e1 e (level_of (e1.page p)) p (insert (pairs_of (e1.page p)) (i + 1) b) o2 → Grew n' d e l p k x o2)
inner_more d d1 e1 e l j p c k x i n n' o o2 b eq h y s a mine once ch z g =
    let r = subst (λ l. Asks d l p k → Mine d l p → ((1 ≤ e1.taken p) × IsNode (e1.page p) × (i + 1 ≤ count_of (e1.page p))) × (Entered 2 e1 e (level_of (e1.page p)) p (insert (pairs_of (e1.page p)) (i + 1) b) o2 → Grew (n + 3) d e l p k x o2)) (sym eq) (λ a mine. inner_more_suc d d1 e1 e j p c k x i n o o2 b y s a mine once ch z g) a mine in
    (r.0, (λ t. grew_more (n + 3) n' d e l p k x o2 h (r.1 t)))

pub once_still : (n : ℕ) (d e : PageState) → Still n d e → Once d → Once e
once_still n d e s o q = omega (arith, o q, ap (λ (t : ℕ → ℕ). t q) s.taken)

pub leaf_level : (d : PageState) (l p k : ℕ) → l ≡ 0 → Asks d l p k → level_of (d.page p) ≡ 0
unfolding Well
leaf_level d zero p k e a = a.well.0.level
leaf_level d (suc l) p k e a = absurd (omega arith)
