-- A tree that has lost a pair: at a leaf, and above a child that has.
use Rattle.std.proofs.Common.{◌≡◌, ℕ, zero, suc, ◌+◌, ◌*◌, ◌<◌, ◌≤◌, Bool, false, cond, eqb, List, ◌∷◌, ◌++◌, length, get_or, take, drop, sym, refl, ap, ◌∙◌, subst, ap₂, arith}
use Rattle.node.specs.Pairs.{Up, drop_in}
use Rattle.node.specs.Node.{pairs_of, Chosen}
use Rattle.tree.specs.State.{PageState}
use Rattle.tree.specs.Tree.{joined, pairs_at, pages_at, occ, Kids, Node, Well, Mine, Asks, Once}
use Rattle.tree.specs.Shrink.{less, Cut, Shrunk}
use Rattle.node.proofs.Pairs.{up_drop, drop_in_lem}
use Rattle.node.proofs.Words.{pairs_length}
use Rattle.tree.proofs.Kids.{kids-++, joined_at, occ-++}
use Rattle.tree.proofs.Down.{kid, kid_low, kid_high, lefts, rights, pairs_split, kids_of}
use Rattle.tree.proofs.Alike.{AlikeAll, alike_all}
use Rattle.tree.proofs.Parts.{occ_one, one_here, same_list}
use Rattle.tree.proofs.Twin.{Fallen}
use Rattle.tree.proofs.Spent.{spends_more}

pub leaf_shrunk : (n : ℕ) (d e : PageState) (l p k : ℕ) (thin : Bool) → l ≡ 0 → Cut n d e p (pairs_of (d.page p)) (drop_in k (pairs_of (d.page p))) thin → Shrunk n d e l p k thin
unfolding Well pages_at pairs_at
leaf_shrunk n d e zero p k thin z t =
    let y = t.node in let tk : (q : ℕ) → e.taken q ≡ d.taken q = λ q. ap (λ (t : ℕ → ℕ). t q) t.taken in
    record {
      well = λ m lo hi h w a b. (
        record { is = y.is; level = y.level; full = omega (arith, t.kept m h (omega (arith, w.0.full, pairs_length (d.page p) w.0.is)), pairs_length (e.page p) y.is, ap length y.pairs) },
        subst (λ es. Up lo hi es) (sym y.pairs) (up_drop lo hi k (pairs_of (d.page p)) w.1),
      );
      pairs = y.pairs;
      pages = λ q. omega (arith, tk q);
      others = λ q h x. t.others q (occ_one q p x);
      taken = λ q. omega (arith, tk q);
      room = omega (arith, t.room);
      left = t.left;
      marked = t.marked;
      spends = t.spends;
    }
leaf_shrunk n d e (suc l) p k thin z t = absurd (omega arith)

-- an inner node p, whose child c at place i has lost the pair
module _ (d e : PageState) (l p k i n : ℕ) (thin : Bool) (ch : Chosen (pairs_of (d.page p)) k i) (mine : Mine d (suc l) p) (once : Once d) (g : Shrunk n d e l (get_or (pairs_of (d.page p)) i (0, 0)).1 k thin) where
  abbrev es : List (ℕ × ℕ)
  es = pairs_of (d.page p)

  abbrev c : ℕ
  c = (get_or es i (0, 0)).1

  abbrev f : ℕ → List ℕ
  f = λ r. pages_at d.page l r

  pub parts : (q : ℕ) → occ q (joined f es) ≡ occ q (joined f (take i es)) + (occ q (f c) + occ q (joined f (drop (suc i) es)))
  parts q = ap (λ ps. occ q ps) (joined_at f es i ch.here) ∙ occ-++ q (joined f (take i es)) (f c ++ joined f (drop (suc i) es)) ∙ ap (λ r. occ q (joined f (take i es)) + r) (occ-++ q (f c) (joined f (drop (suc i) es)))

  pub whole : (q : ℕ) → cond (eqb q p) 1 0 + occ q (joined f es) ≤ d.taken q
  unfolding pages_at
  whole q = mine q

  pub same_page : e.page p ≡ d.page p
  same_page = g.others p (omega (arith, whole p, one_here p p refl)) (omega (arith, whole p, once p, one_here p p refl, parts p))

  left_alike : AlikeAll d.page e.page l (take i es)
  left_alike = alike_all d.page e.page l (take i es) (λ q h. g.others q (omega (arith, whole q, parts q)) (omega (arith, whole q, parts q, once q)))

  right_alike : AlikeAll d.page e.page l (drop (suc i) es)
  right_alike = alike_all d.page e.page l (drop (suc i) es) (λ q h. g.others q (omega (arith, whole q, parts q)) (omega (arith, whole q, parts q, once q)))

  pub fallen_pages : (q : ℕ) → occ q (joined (λ r. pages_at e.page l r) es) + d.taken q ≡ occ q (joined f es) + e.taken q
  fallen_pages q =
      let h = λ (r : ℕ). pages_at e.page l r in
      omega (arith, parts q, ap (λ ps. occ q ps) (joined_at h es i ch.here), occ-++ q (joined h (take i es)) (h c ++ joined h (drop (suc i) es)), occ-++ q (h c) (joined h (drop (suc i) es)), ap (λ ps. occ q ps) left_alike.pages, ap (λ ps. occ q ps) right_alike.pages, g.pages q)

  pub whole_after : (q : ℕ) → cond (eqb q p) 1 0 + occ q (joined (λ r. pages_at e.page l r) es) ≤ e.taken q
  whole_after q = omega (arith, fallen_pages q, whole q)

  pub once_after : Once e
  once_after q = omega (arith, g.taken q, once q)

  pub fallen_pairs : (m lo hi : ℕ) → Well d.page m (suc l) p lo hi → lo ≤ k → k < hi → joined (λ r. pairs_at e.page l r) es ≡ drop_in k (pairs_at d.page (suc l) p)
  fallen_pairs m lo hi w from to =
      let h = λ (r : ℕ). pairs_at e.page l r in let h0 = λ (r : ℕ). pairs_at d.page l r in
      let y = kid d.page m l p lo hi k i w from to ch in
      joined_at h es i ch.here ∙ ap₂ (λ (u v : List (ℕ × ℕ)). u ++ v) left_alike.pairs (ap₂ (λ (u v : List (ℕ × ℕ)). u ++ v) g.pairs right_alike.pairs)
      ∙ sym (ap (λ es. drop_in k es) (pairs_split d.page m l p lo hi k i w from to ch)
      ∙ drop_in_lem lo y.a y.b hi k (joined h0 (take i es)) (h0 c) (joined h0 (drop (suc i) es)) (lefts d.page m l p lo hi k i w from to ch) (rights d.page m l p lo hi k i w from to ch) (kid_low d.page m l p lo hi k i w from to ch) (kid_high d.page m l p lo hi k i w from to ch))

  pub fallen : (m lo hi : ℕ) → Well d.page m (suc l) p lo hi → lo ≤ k → k < hi → Fallen e.page (less thin 85) l lo hi es i
  fallen m lo hi w from to =
      let y = kid d.page m l p lo hi k i w from to ch in
      record {
        a = y.a;
        b = y.b;
        key = y.key;
        up = y.up;
        kid = g.well 85 y.a y.b (omega arith) y.kid (kid_low d.page m l p lo hi k i w from to ch) (kid_high d.page m l p lo hi k i w from to ch);
        left = left_alike.well 85 lo y.a y.left;
        right = right_alike.well 85 y.b hi y.right;
      }

fallen_kids : (v : ℕ → List ℕ) (l lo hi : ℕ) (es : List (ℕ × ℕ)) (i : ℕ) → i < length es → Fallen v 85 l lo hi es i → Kids (kids_of v l) lo hi es
fallen_kids v l lo hi es i h f = subst (λ es. Kids (kids_of v l) lo hi es) (sym (same_list i es h))
    (kids-++ (kids_of v l) lo f.a hi (take i es) (get_or es i (0, 0) ∷ drop (suc i) es) f.left (f.key, (f.b, f.up, f.kid, f.right)))

-- the child is not thin
pub inner_kept : (d e : PageState) (l p k i n : ℕ) (ch : Chosen (pairs_of (d.page p)) k i) (mine : Mine d (suc l) p) (once : Once d) (g : Shrunk n d e l (get_or (pairs_of (d.page p)) i (0, 0)).1 k false) →
    Asks d (suc l) p k → Shrunk n d e (suc l) p k false
unfolding Well pages_at pairs_at
inner_kept d e l p k i n ch mine once g a =
    let es = pairs_of (d.page p) in
    let sp = same_page d e l p k i n false ch mine once g in
    let fp : (q : ℕ) → occ q (joined (λ r. pages_at e.page l r) es) + d.taken q ≡ occ q (joined (λ r. pages_at d.page l r) es) + e.taken q = fallen_pages d e l p k i n false ch mine once g in
    let pt : (q : ℕ) → occ q (joined (λ r. pages_at d.page l r) es) ≡ occ q (joined (λ r. pages_at d.page l r) (take i es)) + (occ q (pages_at d.page l (get_or es i (0, 0)).1) + occ q (joined (λ r. pages_at d.page l r) (drop (suc i) es))) = parts d e l p k i n false ch mine once g in
    record {
      well = λ m lo hi h w x y. subst (λ b. Node b m (suc l) × Kids (kids_of e.page l) lo hi (pairs_of b)) (sym sp) (w.0, fallen_kids e.page l lo hi es i ch.here (fallen d e l p k i n false ch mine once g m lo hi w x y));
      pairs = ap (λ b. joined (λ r. pairs_at e.page l r) (pairs_of b)) sp ∙ fallen_pairs d e l p k i n false ch mine once g a.m a.lo a.hi a.well a.from a.to;
      pages = λ q. omega (arith, fp q, ap (λ b. occ q (joined (λ r. pages_at e.page l r) (pairs_of b))) sp);
      others = λ q h z. g.others q h (omega (arith, z, pt q));
      taken = g.taken;
      room = g.room;
      left = g.left;
      marked = λ z. let y : ◌≡◌ {A = ℕ} 0 1 = cc in absurd (omega arith);
      spends = spends_more (2 * l + 1) (2 * suc l + 1) d e (omega arith) g.spends;
    }
