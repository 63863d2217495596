-- A leaf that lost a pair, two neighbours that were joined, and the node above them.
use Rattle.std.proofs.Common.{◌≡◌, ℕ, suc, ◌+◌, ◌-◌, ◌≤◌, true, ltb, List, ◌++◌, length, get_or, Some, None, Option, sym, ap, ◌∙◌, subst, ap₂, inl, inr, arith}
use Rattle.std.specs.List.{remove}
use Rattle.std.proofs.lemmas.Bool.{lt-ltb, le-ltb, cases_lt}
use Rattle.node.specs.Pairs.{drop_in}
use Rattle.node.specs.Node.{level_of, pairs_of, Page, Shared, Contents, contents_of, Found, Beside, Neighbours, Shares, key_at, beside, amended}
use Rattle.tree.specs.State.{PageState, Still, Wrote, Freed, Spends}
use Rattle.tree.specs.Grow.{Holds}
use Rattle.tree.specs.Shrink.{Kept, Cut, Was, Near, Paired, Mends, Mended}
use Rattle.node.proofs.Words.{pairs_length}
use Rattle.node.proofs.Entries.{amended_length}
use Rattle.node.proofs.Shared.{neighbours, shared}
use Rattle.std.proofs.lemmas.List.Edits.{length-remove}
use Rattle.tree.proofs.Spent.{spends_then, after_still, one_write}

pub kept_by : (n n' x : ℕ) → x ≡ n' → n ≤ suc n' → Kept (ltb x 85) n n'
kept_by n n' x e h m a b = elim (cases_lt x 85) [
  | inl z ↦ rw (lt-ltb x 85 z) (omega arith)
  | inr z ↦ rw (le-ltb x 85 z) (omega arith)
]

-- v was read, and v' written
pub leaf_cut : (d d1 e : PageState) (p k i n : ℕ) (v v' : Contents) (b' : List ℕ) → v ≡ contents_of (d.page p) → Still 1 d d1 → level_of (d.page p) ≡ 0 → Found v.pairs k i →
    v' ≡ record v { pairs = remove v.pairs i } → Page b' v'.level v'.pairs → n ≡ length v'.pairs → Wrote p b' d1 e → Cut 1 d e p (pairs_of (d.page p)) (drop_in k (pairs_of (d.page p))) (ltb n 85) × Was k (pairs_of (d.page p)) true
leaf_cut d d1 e p k i n v v' b' is s lv f is' pg ne w =
    subst (λ (v : Contents). v.level ≡ 0 → Cut 1 d e p v.pairs (drop_in k v.pairs) (ltb n 85) × Was k v.pairs true) is (λ lv.
    let es' : v'.pairs ≡ drop_in k v.pairs = ap (λ v. v.pairs) is' ∙ sym f.drops in
    let n' : n ≡ length (drop_in k v.pairs) = ne ∙ ap length es' in (
      record {
        node = subst (λ y. Page y 0 (drop_in k v.pairs)) (sym w.here) (record { is = pg.is; level = pg.level ∙ ap (λ v. v.level) is' ∙ lv; pairs = pg.pairs ∙ es' });
        others = λ q ne. w.others q ne ∙ ap (λ (v : ℕ → List ℕ). v q) s.page;
        taken = w.taken ∙ s.taken;
        room = w.room ∙ s.room;
        left = omega (arith, s.left, w.left);
        kept = kept_by (length v.pairs) (length (drop_in k v.pairs)) n n' (omega (arith, length-remove v.pairs i f.here, ap length f.drops));
        marked = λ z. w.marked;
        spends = after_still 1 1 d d1 e s (one_write p b' d1 e w);
      },
      sym f.was,
    )) lv

-- the neighbours a and c were read
pub neighbours_read : (d d1 : PageState) (l a c : ℕ) (x y : Contents) → Near d l a c → x ≡ contents_of (d.page a) → Still 1 d d1 → y ≡ contents_of (d1.page c) → Neighbours x y
neighbours_read d d1 l a c x y near xe s ye =
    subst (λ x. Neighbours x y) (sym xe) (subst (λ y. Neighbours (contents_of (d.page a)) y) (sym (ye ∙ ap (λ (v : ℕ → List ℕ). contents_of (v c)) s.page)) (neighbours (d.page a) (d.page c) l near.nodes))

-- pages a and c were read, joined, and written or given back
module _ (d d1 d2 d3 e : PageState) (l a c : ℕ) (x y : Contents) (x' : List ℕ) (near : Near d l a c) (xe : x ≡ contents_of (d.page a)) (s1 : Still 1 d d1) (ye : y ≡ contents_of (d1.page c)) (s2 : Still 1 d1 d2) (w : Wrote a x' d2 d3) where
  tk : (q : ℕ) → d3.taken q ≡ d.taken q
  tk q = ap (λ (t : ℕ → ℕ). t q) (w.taken ∙ s2.taken ∙ s1.taken)

  pg : (q : ℕ) → (q ≡ a → ⊥) → d3.page q ≡ d.page q
  pg q ne = w.others q ne ∙ ap (λ (v : ℕ → List ℕ). v q) (s2.page ∙ s1.page)

  right_is : y ≡ contents_of (d.page c)
  right_is = ye ∙ ap (λ (v : ℕ → List ℕ). contents_of (v c)) s1.page

  pub read_both : x.pairs ++ y.pairs ≡ pairs_of (d.page a) ++ pairs_of (d.page c)
  read_both = ap₂ (λ (u v : Contents). u.pairs ++ v.pairs) xe right_is

  level_is : x.level ≡ l
  level_is = ap (λ v. v.level) xe ∙ near.nodes.level

  first_spent : Spends (1 - d.dirty a) d d3
  first_spent =
      let z : d2.dirty a ≡ d.dirty a = ap (λ (t : ℕ → ℕ). t a) (s2.dirty ∙ s1.dirty) in
      after_still 1 (1 - d.dirty a) d d1 d3 s1 (after_still 1 (1 - d.dirty a) d1 d2 d3 s2 (spends_then (1 - d2.dirty a) 0 (1 - d.dirty a) d2 d3 d3 (omega arith) w.spends (record { dirty = λ q. omega arith; spare = omega arith })))

  both_spent : Spends (1 - d3.dirty c) d3 e → Spends 1 d e
  both_spent z = let f = first_spent in spends_then (1 - d.dirty a) (1 - d3.dirty c) 1 d d3 e (omega (arith, near.marked, f.dirty c)) f z

  pub lent : (k : ℕ) (u v : Contents) (y' : List ℕ) → Shares u v x.level (x.pairs ++ y.pairs) × (key_at v.pairs 0 ≡ k) → Page x' u.level u.pairs → Page y' v.level v.pairs → Wrote c y' d3 e → Paired 2 d e l a c (Some k)
  lent k u v y' j px py w2 =
      let j' : Shared x' y' l k (x.pairs ++ y.pairs) = subst (λ k. Shared x' y' l k (x.pairs ++ y.pairs)) j.1 (shared x' y' u v l (x.pairs ++ y.pairs) px py (subst (λ l. Shares u v l (x.pairs ++ y.pairs)) level_is j.0)) in
      record {
        holds = subst (λ es. Shared (e.page a) (e.page c) l k es) read_both (subst (λ b. Shared b (e.page c) l k (x.pairs ++ y.pairs)) (sym (w2.others a near.apart ∙ w.here)) (subst (λ b. Shared x' b l k (x.pairs ++ y.pairs)) (sym w2.here) j'));
        others = λ q na nc. w2.others q nc ∙ pg q na;
        taken = λ q. omega (arith, tk q, ap (λ (t : ℕ → ℕ). t q) w2.taken);
        room = omega (arith, s1.room, s2.room, w.room, w2.room);
        left = omega (arith, s1.left, s2.left, w.left, w2.left);
        spends = both_spent w2.spends;
      }

  pub merged : (u : Contents) → u ≡ record { level = x.level; pairs = x.pairs ++ y.pairs } → Page x' u.level u.pairs → Freed c d3 e → Paired 2 d e l a c None
  merged u j px fr =
      let j' : Page x' l (x.pairs ++ y.pairs) = record { is = px.is; level = px.level ∙ ap (λ v. v.level) j ∙ level_is; pairs = px.pairs ∙ ap (λ v. v.pairs) j } in
      record {
        holds = subst (λ es. Page (e.page a) l es) read_both (subst (λ b. Page b l (x.pairs ++ y.pairs)) (sym (fr.others a near.apart ∙ w.here)) j');
        others = λ q na nc. fr.others q nc ∙ pg q na;
        taken = λ q. omega (arith, tk q, fr.taken q);
        room = omega (arith, s1.room, s2.room, w.room, fr.room);
        left = omega (arith, s1.left, s2.left, w.left, fr.left);
        spends = both_spent fr.spends;
      }

-- the children of p, as its page tells them
pub near_read : (d d1 : PageState) (l p j a c : ℕ) → Still 1 d d1 → Mends d l p j → a ≡ (get_or (pairs_of (d.page p)) j (0, 0)).1 → c ≡ (get_or (pairs_of (d.page p)) (j + 1) (0, 0)).1 →
    (c ≡ (get_or (pairs_of (d.page p)) (suc j) (0, 0)).1) × Near d1 l a c
near_read d d1 l p j a c s m x ce =
    let t : j + 1 ≡ suc j = omega arith in
    let y : c ≡ (get_or (pairs_of (d.page p)) (suc j) (0, 0)).1 = ce ∙ ap (λ n. (get_or (pairs_of (d.page p)) n (0, 0)).1) t in
    let n : Near d l a c = subst (λ a. Near d l a c) (sym x) (subst (λ c. Near d l (get_or (pairs_of (d.page p)) j (0, 0)).1 c) (sym y) m.near) in (
      y,
      record {
        here = omega (arith, n.here, ap (λ (t : ℕ → ℕ). t a) s.taken);
        here' = ap (λ (t : ℕ → ℕ). t c) s.taken ∙ n.here';
        apart = n.apart;
        nodes = subst (λ (v : ℕ → List ℕ). Beside (v a) (v c) l) (sym s.page) n.nodes;
        marked = omega (arith, n.marked, ap (λ (t : ℕ → ℕ). t a) s.dirty, ap (λ (t : ℕ → ℕ). t c) s.dirty);
      },
    )

holds_on : (v v' : ℕ → List ℕ) (l a c : ℕ) (es es' : List (ℕ × ℕ)) (o : Option ℕ) → v' a ≡ v a → v' c ≡ v c → es ≡ es' → Holds v l a es (beside c o) → Holds v' l a es' (beside c o)
holds_on v v' l a c es es' None x y z h = subst (λ b. Page b l es') (sym x) (subst (λ es. Page (v a) l es) z h)
holds_on v v' l a c es es' (Some k) x y z h = subst (λ b. Shared b (v' c) l k es') (sym x) (subst (λ b. Shared (v a) b l k es') (sym y) (subst (λ es. Shared (v a) (v c) l k es) z h))

pub mend_all : (d d1 d2 e : PageState) (l p j a c n : ℕ) (o : Option ℕ) (v v' : Contents) (b' : List ℕ) → v ≡ contents_of (d.page p) → Still 1 d d1 → Mends d l p j → a ≡ (get_or (pairs_of (d.page p)) j (0, 0)).1 → c ≡ (get_or (pairs_of (d.page p)) (j + 1) (0, 0)).1 → Paired 2 d1 d2 l a c o →
    v' ≡ record v { pairs = amended v.pairs j o } → Page b' v'.level v'.pairs → n ≡ length v'.pairs → Wrote p b' d2 e → Mended 3 d e l p j (level_of (d.page p)) (pairs_of (d.page p)) (ltb n 85)
mend_all d d1 d2 e l p j a0 c0 n o v v' b' is s m ae ce pr is' pg ne w =
    let es = pairs_of (d.page p) in let a = (get_or es j (0, 0)).1 in let c = (get_or es (suc j) (0, 0)).1 in
    let nr = near_read d d1 l p j a0 c0 s m ae ce in
    let pr' : Paired 2 d1 d2 l a c o = subst (λ a. Paired 2 d1 d2 l a c o) ae (subst (λ c. Paired 2 d1 d2 l a0 c o) nr.0 pr) in
    let es' : v'.pairs ≡ amended es j o = ap (λ v. v.pairs) is' ∙ ap (λ v. amended v.pairs j o) is in
    let pg' : Page b' (level_of (d.page p)) (amended es j o) = record { is = pg.is; level = pg.level ∙ ap (λ v. v.level) is' ∙ ap (λ v. v.level) is; pairs = pg.pairs ∙ es' } in
    let n' : n ≡ length (amended es j o) = ne ∙ ap length es' in
    record {
      o = o;
      node = subst (λ y. Page y (level_of (d.page p)) (amended es j o)) (sym w.here) pg';
      holds = holds_on d2.page e.page l a c (pairs_of (d1.page a) ++ pairs_of (d1.page c)) (pairs_of (d.page a) ++ pairs_of (d.page c)) o (w.others a m.not) (w.others c m.not')
          (ap (λ (v : ℕ → List ℕ). pairs_of (v a) ++ pairs_of (v c)) s.page) pr'.holds;
      others = λ q np na nc. w.others q np ∙ pr'.others q na nc ∙ ap (λ (v : ℕ → List ℕ). v q) s.page;
      taken = λ q. omega (arith, pr'.taken q, ap (λ (t : ℕ → ℕ). t q) s.taken, ap (λ (t : ℕ → ℕ). t q) w.taken);
      room = omega (arith, pr'.room, s.room, w.room);
      left = omega (arith, pr'.left, s.left, w.left);
      kept = kept_by (length es) (length (amended es j o)) n n' (amended_length j es o (omega (arith, pairs_length (d.page p) m.is, m.two)));
      marked = w.marked;
      spends = after_still 1 2 d d1 e s (spends_then 1 1 2 d1 d2 e (omega arith) pr'.spends (one_write p b' d2 e w));
    }
