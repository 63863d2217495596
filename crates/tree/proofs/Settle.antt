-- A tree above a child that has lost a pair and was joined with the one beside it; and over the read before.
use Rattle.std.proofs.Common.{◌≡◌, ℕ, suc, ◌+◌, ◌-◌, ◌*◌, ◌<◌, ◌≤◌, Bool, true, false, cond, eqb, List, ◌++◌, length, get_or, take, drop, sym, refl, ap, ◌∙◌, subst, ap₂, inl, inr, append_assoc, arith}
use Rattle.std.proofs.lemmas.Bool.{cases_lt}
use Rattle.node.specs.Pairs.{drop_in}
use Rattle.node.specs.Node.{count_of, pairs_of, IsNode, Chosen, rows, beside, amended, level_of}
use Rattle.tree.specs.State.{PageState, Still}
use Rattle.tree.specs.Tree.{joined, pairs_at, pages_at, occ, Kids, Well, Mine, Asks, Once}
use Rattle.tree.specs.Shrink.{gone, Near, Mends, Mended, Shrunk, Wide}
use Rattle.node.proofs.Words.{pairs_length}
use Rattle.tree.proofs.Kids.{kids-++, occ-++, well_node}
use Rattle.tree.proofs.Down.{kid, kids_of}
use Rattle.tree.proofs.Alike.{AlikeAll, alike_all}
use Rattle.tree.proofs.Parts.{joined-++, occ_joined, one_here, occ_first}
use Rattle.tree.proofs.Twin.{page_at_lem, Single, Same, twin_pages, twin_pairs, twin_well, Twins, twins, twins_beside, joined_two}
use Rattle.tree.proofs.Falls.{parts, same_page, fallen_pages, whole_after, once_after, fallen_pairs, fallen, inner_kept}
use Rattle.tree.proofs.Spent.{spends_then, after_still}

-- the child is thin, and was joined with the one beside it
module _ (d e1 e : PageState) (l p k i n n2 j v : ℕ) (thin : Bool) (ch : Chosen (pairs_of (d.page p)) k i) (mine : Mine d (suc l) p) (once : Once d) (g : Shrunk n d e1 l (get_or (pairs_of (d.page p)) i (0, 0)).1 k true)
    (je : j ≡ i - 1) (two : suc j < length (pairs_of (d.page p))) (t : Mended n2 e1 e l p j v (pairs_of (d.page p)) thin) where
  abbrev es : List (ℕ × ℕ)
  es = pairs_of (d.page p)

  abbrev a : ℕ
  a = (get_or es j (0, 0)).1

  abbrev c : ℕ
  c = (get_or es (suc j) (0, 0)).1

  abbrev f : ℕ → List ℕ
  f = λ r. pages_at e1.page l r

  parts2 : (q : ℕ) → occ q (joined f es) ≡ occ q (joined f (take j es)) + (occ q (f a) + (occ q (f c) + occ q (joined f (drop (suc (suc j)) es))))
  parts2 q = omega (arith, ap (λ ps. occ q ps) (joined_two f es j two), occ-++ q (joined f (take j es)) (f a ++ (f c ++ joined f (drop (suc (suc j)) es))), occ-++ q (f a) (f c ++ joined f (drop (suc (suc j)) es)), occ-++ q (f c) (joined f (drop (suc (suc j)) es)))

  whole1 : (q : ℕ) → cond (eqb q p) 1 0 + occ q (joined f es) ≤ 1
  whole1 q = omega (arith, whole_after d e1 l p k i n true ch mine once g q, once_after d e1 l p k i n true ch mine once g q)

  left2 : AlikeAll e1.page e.page l (take j es)
  left2 = alike_all e1.page e.page l (take j es) (λ q h. t.others q (λ z. omega (arith, h, whole1 q, parts2 q, one_here q p z)) (λ z. omega (arith, h, whole1 q, parts2 q, page_at_lem e1.page l q a z)) (λ z. omega (arith, h, whole1 q, parts2 q, page_at_lem e1.page l q c z)))

  right2 : AlikeAll e1.page e.page l (drop (suc (suc j)) es)
  right2 = alike_all e1.page e.page l (drop (suc (suc j)) es) (λ q h. t.others q (λ z. omega (arith, h, whole1 q, parts2 q, one_here q p z)) (λ z. omega (arith, h, whole1 q, parts2 q, page_at_lem e1.page l q a z)) (λ z. omega (arith, h, whole1 q, parts2 q, page_at_lem e1.page l q c z)))

  single : Single e1.page l a c
  single q = omega (arith, whole1 q, parts2 q)

  same2 : Same e1.page e.page l a c
  same2 q h na nc = t.others q (λ z. omega (arith, h, whole1 q, parts2 q, one_here q p z)) na nc

  abbrev rs : List (ℕ × ℕ)
  rs = rows (get_or es j (0, 0)).0 a (beside c t.o)

  pages2 : (q : ℕ) → occ q (joined (λ r. pages_at e.page l r) (amended es j t.o)) + gone c t.o q ≡ occ q (joined f es)
  pages2 q =
      let h = λ (r : ℕ). pages_at e.page l r in
      omega (arith, occ_joined q h (take j es) (rs ++ drop (suc (suc j)) es), occ_joined q h rs (drop (suc (suc j)) es), ap (λ ps. occ q ps) left2.pages, ap (λ ps. occ q ps) right2.pages, twin_pages e1.page e.page l a c t.o single same2 t.holds (get_or es j (0, 0)).0 q, parts2 q)

  pairs2 : joined (λ r. pairs_at e.page l r) (amended es j t.o) ≡ joined (λ r. pairs_at e1.page l r) es
  pairs2 =
      let h = λ (r : ℕ). pairs_at e.page l r in let h1 = λ (r : ℕ). pairs_at e1.page l r in
      joined-++ h (take j es) (rs ++ drop (suc (suc j)) es)
      ∙ ap₂ (λ (u v : List (ℕ × ℕ)). u ++ v) left2.pairs (joined-++ h rs (drop (suc (suc j)) es) ∙ ap₂ (λ (u v : List (ℕ × ℕ)). u ++ v) (twin_pairs e1.page e.page l a c t.o single same2 t.holds (get_or es j (0, 0)).0) right2.pairs ∙ append_assoc (h1 a) (h1 c) (joined h1 (drop (suc (suc j)) es)))
      ∙ sym (joined_two h1 es j two)

  kids2 : (lo hi : ℕ) → Twins e1.page l lo hi es j → Kids (kids_of e.page l) lo hi (amended es j t.o)
  kids2 lo hi w =
      let W = kids_of e.page l in
      let mid : Kids W w.a w.c rs = subst (λ q. Kids W w.a w.c (rows q a (beside c t.o))) (sym w.key) (twin_well e1.page e.page l a c t.o single same2 t.holds w.x w.y w.a w.b w.c w.both w.up w.up' w.kid w.kid') in
      kids-++ W lo w.a hi (take j es) (rs ++ drop (suc (suc j)) es) (left2.well 85 lo w.a w.left) (kids-++ W w.a w.c hi rs (drop (suc (suc j)) es) mid (right2.well 85 w.c hi w.right))

  pub inner_mended : v ≡ suc l → Asks d (suc l) p k → Shrunk (n + n2) d e (suc l) p k thin
  unfolding Well pages_at pairs_at
  inner_mended ve as' =
      let y = t.node in
      let fp : (q : ℕ) → occ q (joined f es) + d.taken q ≡ occ q (joined (λ r. pages_at d.page l r) es) + e1.taken q = fallen_pages d e1 l p k i n true ch mine once g in
      let pt : (q : ℕ) → occ q (joined (λ r. pages_at d.page l r) es) ≡ occ q (joined (λ r. pages_at d.page l r) (take i es)) + (occ q (pages_at d.page l (get_or es i (0, 0)).1) + occ q (joined (λ r. pages_at d.page l r) (drop (suc i) es))) = parts d e1 l p k i n true ch mine once g in
      record {
        well = λ m lo hi h w x z. (
          record { is = y.is; level = y.level ∙ ve; full = omega (arith, t.kept m h (omega (arith, w.0.full, pairs_length (d.page p) w.0.is)), pairs_length (e.page p) y.is, ap length y.pairs) },
          subst (λ es. Kids (kids_of e.page l) lo hi es) (sym y.pairs) (kids2 lo hi (twins e1.page l lo hi es i j je ch.here (omega arith) (fallen d e1 l p k i n true ch mine once g m lo hi w x z)).1),
        );
        pairs = ap (λ es. joined (λ r. pairs_at e.page l r) es) y.pairs ∙ pairs2 ∙ fallen_pairs d e1 l p k i n true ch mine once g as'.m as'.lo as'.hi as'.well as'.from as'.to;
        pages = λ q. omega (arith, pages2 q, fp q, t.taken q, ap (λ es. occ q (joined (λ r. pages_at e.page l r) es)) y.pairs);
        others = λ q h z.
            t.others q (occ_first q p (joined (λ r. pages_at d.page l r) es) z) (λ x. omega (arith, z, fp q, g.taken q, parts2 q, page_at_lem e1.page l q a x)) (λ x. omega (arith, z, fp q, g.taken q, parts2 q, page_at_lem e1.page l q c x))
            ∙ g.others q h (omega (arith, z, pt q));
        taken = λ q. omega (arith, g.taken q, t.taken q);
        room = omega (arith, g.room, t.room);
        left = omega (arith, g.left, t.left);
        marked = λ z. t.marked;
        spends = spends_then (2 * l + 1) 2 (2 * suc l + 1) d e1 e (omega arith) g.spends t.spends;
      }

-- the child at i is j's or the next one's
one_marked : (es : List (ℕ × ℕ)) (t : ℕ → ℕ) (j i : ℕ) → j ≡ i - 1 → 1 ≤ t (get_or es i (0, 0)).1 → 1 ≤ t (get_or es j (0, 0)).1 + t (get_or es (suc j) (0, 0)).1
one_marked es t j i e h = elim (cases_lt 0 i) [
  | inl z ↦ let y : suc j ≡ i = omega arith in omega (arith, ap (λ n. t (get_or es n (0, 0)).1) y)
  | inr z ↦ let y : j ≡ i = omega arith in omega (arith, ap (λ n. t (get_or es n (0, 0)).1) y)
]

-- the children may be joined
pub inner_mends : (d e1 : PageState) (l p k i j n : ℕ) (ch : Chosen (pairs_of (d.page p)) k i) (mine : Mine d (suc l) p) (once : Once d) (g : Shrunk n d e1 l (get_or (pairs_of (d.page p)) i (0, 0)).1 k true) →
    j ≡ i - 1 → Asks d (suc l) p k → 2 ≤ count_of (d.page p) → (suc j < length (pairs_of (d.page p))) × Mends e1 l p j
inner_mends d e1 l p k i j n ch mine once g je as' wide =
    let es = pairs_of (d.page p) in let f = λ (r : ℕ). pages_at e1.page l r in
    let a = (get_or es j (0, 0)).1 in let c = (get_or es (suc j) (0, 0)).1 in
    let nd = well_node d.page as'.m (suc l) p as'.lo as'.hi as'.well in
    let tw = twins e1.page l as'.lo as'.hi es i j je ch.here (omega (arith, pairs_length (d.page p) nd.is)) (fallen d e1 l p k i n true ch mine once g as'.m as'.lo as'.hi as'.well as'.from as'.to) in
    let sp = same_page d e1 l p k i n true ch mine once g in
    let wh : (q : ℕ) → cond (eqb q p) 1 0 + occ q (joined f es) ≤ e1.taken q = whole_after d e1 l p k i n true ch mine once g in
    let on : (q : ℕ) → e1.taken q ≤ 1 = once_after d e1 l p k i n true ch mine once g in
    let pt : (q : ℕ) → occ q (joined f es) ≡ occ q (joined f (take j es)) + (occ q (f a) + (occ q (f c) + occ q (joined f (drop (suc (suc j)) es)))) =
    λ q. omega (arith, ap (λ ps. occ q ps) (joined_two f es j tw.0), occ-++ q (joined f (take j es)) (f a ++ (f c ++ joined f (drop (suc (suc j)) es))), occ-++ q (f a) (f c ++ joined f (drop (suc (suc j)) es)), occ-++ q (f c) (joined f (drop (suc (suc j)) es))) in
    let ha : 1 ≤ occ a (f a) = page_at_lem e1.page l a a refl in let hc : 1 ≤ occ c (f c) = page_at_lem e1.page l c c refl in
    let near : Near e1 l a c = record {
      here = omega (arith, wh a, pt a, ha);
      here' = omega (arith, wh c, on c, pt c, hc);
      apart = λ z. omega (arith, wh a, on a, pt a, ha, page_at_lem e1.page l a c z);
      nodes = twins_beside e1.page l as'.lo as'.hi es j tw.1;
      marked = one_marked es e1.dirty j i je (g.marked refl);
    } in (
      tw.0,
      record {
        here = omega (arith, wh p, one_here p p refl);
        is = subst (λ b. IsNode b) (sym sp) nd.is;
        two = subst (λ b. suc j < count_of b) (sym sp) (omega (arith, tw.0, pairs_length (d.page p) nd.is));
        near = subst (λ b. Near e1 l (get_or (pairs_of b) j (0, 0)).1 (get_or (pairs_of b) (suc j) (0, 0)).1) (sym sp) near;
        not = subst (λ b. (get_or (pairs_of b) j (0, 0)).1 ≡ p → ⊥) (sym sp) (λ z. omega (arith, wh a, on a, pt a, ha, one_here a p z));
        not' = subst (λ b. (get_or (pairs_of b) (suc j) (0, 0)).1 ≡ p → ⊥) (sym sp) (λ z. omega (arith, wh c, on c, pt c, hc, one_here c p z));
      },
    )

-- over the read before it
shrunk_from : (n : ℕ) (d d1 e : PageState) (l c c' k : ℕ) (thin : Bool) → Still 1 d d1 → c ≡ c' → Shrunk n d1 e l c k thin → Shrunk (n + 1) d e l c' k thin
shrunk_from n d d1 e l c c' k thin s z g =
    let tk : (r : ℕ) → d1.taken r ≡ d.taken r = λ r. ap (λ (t : ℕ → ℕ). t r) s.taken in
    let oc : (r : ℕ) → occ r (pages_at d1.page l c) ≡ occ r (pages_at d.page l c) = λ r. ap (λ (v : ℕ → List ℕ). occ r (pages_at v l c)) s.page in
    subst (λ c. Shrunk (n + 1) d e l c k thin) z (record {
      well = λ m lo hi h w a b. g.well m lo hi h (subst (λ (v : ℕ → List ℕ). Well v m l c lo hi) (sym s.page) w) a b;
      pairs = g.pairs ∙ ap (λ (v : ℕ → List ℕ). drop_in k (pairs_at v l c)) s.page;
      pages = λ q. omega (arith, g.pages q, tk q, oc q);
      others = λ q h y. g.others q (omega (arith, tk q)) (oc q ∙ y) ∙ ap (λ (v : ℕ → List ℕ). v q) s.page;
      taken = λ q. omega (arith, g.taken q, tk q);
      room = omega (arith, g.room, s.room);
      left = omega (arith, g.left, s.left);
      marked = g.marked;
      spends = after_still 1 (2 * l + 1) d d1 e s g.spends;
    })

pub shrunk_more : (n n' : ℕ) (d e : PageState) (l p k : ℕ) (thin : Bool) → n ≤ n' → Shrunk n d e l p k thin → Shrunk n' d e l p k thin
shrunk_more n n' d e l p k thin h g = record { well = g.well; pairs = g.pairs; pages = g.pages; others = g.others; taken = g.taken; room = g.room; left = omega (arith, g.left); marked = g.marked; spends = g.spends }

pub not_thin : (d d1 e1 : PageState) (l j p c k i n n' : ℕ) (thin : Bool) → l ≡ suc j → n + 1 ≤ n' → thin ≡ false → Still 1 d d1 → Asks d l p k → Mine d l p → Once d → Chosen (pairs_of (d.page p)) k i → c ≡ (get_or (pairs_of (d.page p)) i (0, 0)).1 → Shrunk n d1 e1 j c k thin → Shrunk n' d e1 l p k thin
not_thin d d1 e1 l j p c k i n n' thin eq h te s as' mine once ch z g =
    subst (λ b. Shrunk n' d e1 l p k b) (sym te) (shrunk_more (n + 1) n' d e1 l p k false h
    (subst (λ l. Asks d l p k → Mine d l p → Shrunk (n + 1) d e1 l p k false) (sym eq) (λ as' mine. inner_kept d e1 j p k i (n + 1) ch mine once (shrunk_from n d d1 e1 j c (get_or (pairs_of (d.page p)) i (0, 0)).1 k false s z (subst (λ b. Shrunk n d1 e1 j c k b) te g)) as') as' mine))

pub thin_mends : (d d1 e1 : PageState) (l j p c k i x n : ℕ) (thin : Bool) → l ≡ suc j → thin ≡ true → Still 1 d d1 → Asks d l p k → Mine d l p → Once d → Chosen (pairs_of (d.page p)) k i → c ≡ (get_or (pairs_of (d.page p)) i (0, 0)).1 → Shrunk n d1 e1 j c k thin →
    x ≡ i - 1 → 2 ≤ count_of (d.page p) → Mends e1 j p x
thin_mends d d1 e1 l j p c k i x n thin eq te s as' mine once ch z g xe wide =
    subst (λ l. Asks d l p k → Mine d l p → Mends e1 j p x) (sym eq) (λ as' mine. (inner_mends d e1 j p k i x (n + 1) ch mine once (shrunk_from n d d1 e1 j c (get_or (pairs_of (d.page p)) i (0, 0)).1 k true s z (subst (λ b. Shrunk n d1 e1 j c k b) te g)) xe as' wide).1) as' mine

thin_mended_suc : (d e1 e : PageState) (j p k i x n n2 : ℕ) (thin : Bool) → Asks d (suc j) p k → (mine : Mine d (suc j) p) (once : Once d) (ch : Chosen (pairs_of (d.page p)) k i) (g : Shrunk n d e1 j (get_or (pairs_of (d.page p)) i (0, 0)).1 k true) →
    x ≡ i - 1 → 2 ≤ count_of (d.page p) → Mended n2 e1 e j p x (level_of (e1.page p)) (pairs_of (e1.page p)) thin → Shrunk (n + n2) d e (suc j) p k thin
thin_mended_suc d e1 e j p k i x n n2 thin as' mine once ch g xe wide t =
    let sp = same_page d e1 j p k i n true ch mine once g in
    inner_mended d e1 e j p k i n n2 x (level_of (d.page p)) thin ch mine once g xe (inner_mends d e1 j p k i x n ch mine once g xe as' wide).0
    (subst (λ b. Mended n2 e1 e j p x (level_of b) (pairs_of b) thin) sp t) (well_node d.page as'.m (suc j) p as'.lo as'.hi as'.well).level as'

pub thin_mended : (d d1 e1 e : PageState) (l j p c k i x n n2 n' : ℕ) (thin thin2 : Bool) → l ≡ suc j → n + 1 + n2 ≤ n' → thin ≡ true → Still 1 d d1 → Asks d l p k → Mine d l p → Once d → Chosen (pairs_of (d.page p)) k i → c ≡ (get_or (pairs_of (d.page p)) i (0, 0)).1 → Shrunk n d1 e1 j c k thin →
    x ≡ i - 1 → 2 ≤ count_of (d.page p) → Mended n2 e1 e j p x (level_of (e1.page p)) (pairs_of (e1.page p)) thin2 → Shrunk n' d e l p k thin2
thin_mended d d1 e1 e l j p c k i x n n2 n' thin thin2 eq h te s as' mine once ch z g xe wide t =
    shrunk_more (n + 1 + n2) n' d e l p k thin2 h
    (subst (λ l. Asks d l p k → Mine d l p → Shrunk (n + 1 + n2) d e l p k thin2) (sym eq) (λ as' mine. thin_mended_suc d e1 e j p k i x (n + 1) n2 thin2 as' mine once ch (shrunk_from n d d1 e1 j c (get_or (pairs_of (d.page p)) i (0, 0)).1 k true s z (subst (λ b. Shrunk n d1 e1 j c k b) te g)) xe wide t) as' mine)

kid_wide_suc : (d d1 : PageState) (j p c k i : ℕ) → Still 1 d d1 → Asks d (suc j) p k → Chosen (pairs_of (d.page p)) k i → c ≡ (get_or (pairs_of (d.page p)) i (0, 0)).1 → 85 ≤ count_of (d1.page c)
kid_wide_suc d d1 j p c k i s a ch z =
    let y = kid d.page a.m j p a.lo a.hi k i a.well a.from a.to ch in
    subst (λ (v : ℕ → List ℕ). 85 ≤ count_of (v c)) (sym s.page) (subst (λ c. 85 ≤ count_of (d.page c)) (sym z) (well_node d.page 85 j (get_or (pairs_of (d.page p)) i (0, 0)).1 y.a y.b y.kid).full)

pub kid_wide : (d d1 : PageState) (l j p c k i : ℕ) → l ≡ suc j → Still 1 d d1 → Asks d l p k → Chosen (pairs_of (d.page p)) k i → c ≡ (get_or (pairs_of (d.page p)) i (0, 0)).1 → Wide d1 j c
kid_wide d d1 l j p c k i eq s a ch z h =
    let r : 85 ≤ count_of (d1.page c) = subst (λ l. Asks d l p k → 85 ≤ count_of (d1.page c)) (sym eq) (λ a. kid_wide_suc d d1 j p c k i s a ch z) a in omega arith
