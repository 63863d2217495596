-- The root: one that stays, one that goes, and the whole tree.
use Rattle.std.proofs.Common.{◌≡◌, ℕ, zero, suc, ◌+◌, ◌-◌, ◌*◌, ◌<◌, ◌≤◌, Bool, true, false, cond, eqb, List, [], ◌∷◌, length, get_or, sym, refl, ap, ◌∙◌, subst, append-nil, arith}
use Rattle.node.specs.Node.{count_of, pairs_of}
use Rattle.tree.specs.State.{PageState, Still, Freed}
use Rattle.tree.specs.Tree.{joined, pairs_at, pages_at, occ, Kids, Well, Mine, Sound, pairs_of_tree, root_min, Once, pages_of_tree, keys_end}
use Rattle.tree.specs.Shrink.{Shrunk, Wide, Was, Worn, Crowned, Dropped}
use Rattle.node.proofs.Words.{pairs_length}
use Rattle.tree.proofs.Down.{kids_of, mine_here}
use Rattle.tree.proofs.Alike.{Alike, alike}
use Rattle.tree.proofs.Parts.{occ_one, one_here, root_few}
use Rattle.tree.proofs.Twin.{well_less}
use Rattle.tree.proofs.Spent.{spends_none, spends_still, spends_more, spends_then, after_still}
use Rattle.tree.proofs.Kids.{well_node}

one_kid : (W : ℕ → ℕ → ℕ → Type 0) (lo hi : ℕ) (es : List (ℕ × ℕ)) → length es ≡ 1 → Kids W lo hi es → W (get_or es 0 (0, 0)).1 lo hi
one_kid W lo hi [] n k = absurd (omega arith)
one_kid W lo hi (e ∷ []) n (z, (m, l, w, r)) = subst (λ b. W e.1 lo b) r w
one_kid W lo hi (e ∷ (f ∷ es)) n k = absurd (omega arith)

one_joined : {A : Type 0} (f : ℕ → List A) (es : List (ℕ × ℕ)) → length es ≡ 1 → joined f es ≡ f (get_or es 0 (0, 0)).1
one_joined f [] n = absurd (omega arith)
one_joined f (e ∷ []) n = append-nil (f e.1)
one_joined f (e ∷ (g ∷ es)) n = absurd (omega arith)

none_pairs : (es : List (ℕ × ℕ)) → length es ≡ 0 → [] ≡ es
none_pairs [] n = refl
none_pairs (e ∷ es) n = absurd (omega arith)

-- the root stays
stays_suc : (d e : PageState) (l root : ℕ) → Still 1 d e → Once d → root_min l ≤ count_of (d.page root) → Well d.page (root_min l - 1) l root 0 keys_end → Mine d l root → Crowned d e (suc l) root (suc l) root
unfolding Sound pairs_of_tree pages_of_tree
stays_suc d e l root s on h w mine =
    let tk : (q : ℕ) → e.taken q ≡ d.taken q = λ q. ap (λ (t : ℕ → ℕ). t q) s.taken in
    let oc : (q : ℕ) → occ q (pages_at e.page l root) ≡ occ q (pages_at d.page l root) = λ q. ap (λ (v : ℕ → List ℕ). occ q (pages_at v l root)) s.page in
    record {
      sound = (subst (λ (v : ℕ → List ℕ). Well v (root_min l) l root 0 keys_end) (sym s.page) (well_less d.page (root_min l - 1) (root_min l) l root 0 keys_end h w), (λ q. omega (arith, tk q, oc q, mine q)));
      once = λ q. omega (arith, tk q, on q);
      pairs = ap (λ (v : ℕ → List ℕ). pairs_at v l root) s.page;
      pages = λ q. omega (arith, tk q, oc q);
      others = λ q z. ap (λ (v : ℕ → List ℕ). v q) s.page;
      taken = λ q. omega (arith, tk q);
      room = omega (arith, s.room);
      left = s.left;
      spends = spends_still 1 1 d e s;
    }

enough : (l n : ℕ) → root_min l - 1 ≤ n → (l ≡ 0 → n ≡ 0 → ⊥) → ((l ≡ 0 → ⊥) → n ≡ 1 → ⊥) → root_min l ≤ n
enough zero n h x y = let z : n ≡ 0 → ⊥ = x refl in omega (arith, z)
enough (suc l) n h x y = let z : n ≡ 1 → ⊥ = y (λ q. omega (arith, q)) in omega (arith, z, h)

pub crown_stays : (d e : PageState) (height root : ℕ) → Still 1 d e → Once d → Worn d height root → (height ≡ 1 → length (pairs_of (d.page root)) ≡ 0 → ⊥) → ((height ≡ 1 → ⊥) → length (pairs_of (d.page root)) ≡ 1 → ⊥) → Crowned d e height root height root
crown_stays d e height root s on w x y =
    let l = w.0 in let he : height ≡ suc l = w.1 in
    let nd = well_node d.page (root_min l - 1) l root 0 keys_end w.2 in
    let bc : length (pairs_of (d.page root)) ≡ count_of (d.page root) = pairs_length (d.page root) nd.is in
    subst (λ h. Crowned d e h root h root) (sym w.1) (stays_suc d e l root s on
    (enough l (count_of (d.page root)) nd.full (λ z n. x (w.1 ∙ ap suc z) (bc ∙ n)) (λ z n. y (λ q. z (omega (arith, q, he))) (bc ∙ n))) w.2 w.3)

-- an empty leaf goes
gone_suc : (d d1 e : PageState) (l root : ℕ) → l ≡ 0 → Still 1 d d1 → Freed root d1 e → Once d → count_of (d.page root) ≡ 0 → Well d.page (root_min l - 1) l root 0 keys_end → Crowned d e (suc l) root 0 root
unfolding Sound pairs_of_tree pages_of_tree pairs_at pages_at Well
gone_suc d d1 e zero root z s fr on n w =
    let tk : (q : ℕ) → d1.taken q ≡ d.taken q = λ q. ap (λ (t : ℕ → ℕ). t q) s.taken in
    record {
      sound = tt;
      once = λ q. omega (arith, tk q, on q, fr.taken q);
      pairs = none_pairs (pairs_of (d.page root)) (pairs_length (d.page root) w.0.is ∙ n);
      pages = λ q. omega (arith, tk q, fr.taken q);
      others = λ q x. fr.others q (occ_one q root x) ∙ ap (λ (v : ℕ → List ℕ). v q) s.page;
      taken = λ q. omega (arith, tk q, fr.taken q);
      room = omega (arith, s.room, fr.room);
      left = omega (arith, s.left, fr.left);
      spends = after_still 1 1 d d1 e s (spends_more (1 - d1.dirty root) 1 d1 e (omega arith) fr.spends);
    }
gone_suc d d1 e (suc l) root z s fr on n w = absurd (omega arith)

pub crown_gone : (d d1 e : PageState) (height root : ℕ) → Still 1 d d1 → Freed root d1 e → Once d → Worn d height root → height ≡ 1 → length (pairs_of (d.page root)) ≡ 0 → Crowned d e height root 0 root
crown_gone d d1 e height root s fr on w h n =
    let l = w.0 in let he : height ≡ suc l = w.1 in
    let nd = well_node d.page (root_min l - 1) l root 0 keys_end w.2 in
    subst (λ h. Crowned d e h root 0 root) (sym w.1) (gone_suc d d1 e l root (omega (arith, h, he)) s fr on (sym (pairs_length (d.page root) nd.is) ∙ n) w.2)

-- a root with one child goes
child_suc : (d d1 e : PageState) (l root : ℕ) → Still 1 d d1 → Freed root d1 e → Once d → count_of (d.page root) ≡ 1 → Well d.page 1 (suc l) root 0 keys_end → Mine d (suc l) root → Crowned d e (suc (suc l)) root (suc l) (get_or (pairs_of (d.page root)) 0 (0, 0)).1
unfolding Sound pairs_of_tree pages_of_tree pairs_at pages_at Well
child_suc d d1 e l root s fr on n w mine =
    let es = pairs_of (d.page root) in let c = (get_or es 0 (0, 0)).1 in let f = λ (r : ℕ). pages_at d.page l r in
    let len : length es ≡ 1 = pairs_length (d.page root) w.0.is ∙ n in
    let tk : (q : ℕ) → d1.taken q ≡ d.taken q = λ q. ap (λ (t : ℕ → ℕ). t q) s.taken in
    let oj : (q : ℕ) → occ q (joined f es) ≡ occ q (f c) = λ q. ap (λ ps. occ q ps) (one_joined f es len) in
    let mi : (q : ℕ) → cond (eqb q root) 1 0 + occ q (joined f es) ≤ d.taken q = mine in
    let al : Alike d.page e.page l c = alike d.page e.page l c (λ q h. fr.others q (λ z. omega (arith, h, mi q, oj q, on q, one_here q root z)) ∙ ap (λ (v : ℕ → List ℕ). v q) s.page) in
    let oc : (q : ℕ) → occ q (pages_at e.page l c) ≡ occ q (f c) = λ q. ap (λ ps. occ q ps) al.pages in
    let wk : Well e.page 85 l c 0 keys_end = al.well 85 0 keys_end (one_kid (kids_of d.page l) 0 keys_end es len w.1) in
    record {
      sound = (well_less e.page 85 (root_min l) l c 0 keys_end (omega (arith, root_few l, (well_node e.page 85 l c 0 keys_end wk).full)) wk, (λ q. omega (arith, oc q, oj q, mi q, tk q, fr.taken q)));
      once = λ q. omega (arith, tk q, on q, fr.taken q);
      pairs = al.pairs ∙ sym (one_joined (λ r. pairs_at d.page l r) es len);
      pages = λ q. omega (arith, oc q, oj q, tk q, fr.taken q);
      others = λ q x. fr.others q (λ z. omega (arith, x, one_here q root z)) ∙ ap (λ (v : ℕ → List ℕ). v q) s.page;
      taken = λ q. omega (arith, tk q, fr.taken q);
      room = omega (arith, s.room, fr.room);
      left = omega (arith, s.left, fr.left);
      spends = after_still 1 1 d d1 e s (spends_more (1 - d1.dirty root) 1 d1 e (omega arith) fr.spends);
    }

child_any : (d d1 e : PageState) (l root : ℕ) → 0 < l → Still 1 d d1 → Freed root d1 e → Once d → count_of (d.page root) ≡ 1 → Well d.page (root_min l - 1) l root 0 keys_end → Mine d l root → Crowned d e (suc l) root l (get_or (pairs_of (d.page root)) 0 (0, 0)).1
child_any d d1 e zero root h s fr on n w mine = absurd (omega arith)
child_any d d1 e (suc l) root h s fr on n w mine = child_suc d d1 e l root s fr on n w mine

pub crown_child : (d d1 e : PageState) (height root c : ℕ) → Still 1 d d1 → Freed root d1 e → Once d → Worn d height root → (height ≡ 1 → ⊥) → length (pairs_of (d.page root)) ≡ 1 → c ≡ (get_or (pairs_of (d.page root)) 0 (0, 0)).1 → Crowned d e height root (height - 1) c
crown_child d d1 e height root c s fr on w h n ce =
    let l = w.0 in let he : height ≡ suc l = w.1 in
    let nd = well_node d.page (root_min l - 1) l root 0 keys_end w.2 in
    let le : l ≡ height - 1 = omega (arith, he) in
    let pos : 0 < l = omega (arith, h, he) in
    subst (λ c. Crowned d e height root (height - 1) c) (sym ce) (subst (λ l. Crowned d e height root l (get_or (pairs_of (d.page root)) 0 (0, 0)).1) le
    (subst (λ h. Crowned d e h root l (get_or (pairs_of (d.page root)) 0 (0, 0)).1) (sym w.1) (child_any d d1 e l root pos s fr on (sym (pairs_length (d.page root) nd.is) ∙ n) w.2 w.3)))

pub crown_once : (d d1 : PageState) (height root : ℕ) → Still 1 d d1 → Once d → Worn d height root → d1.taken root ≡ 1
crown_once d d1 height root s on w = let m = mine_here d w.0 root w.3 in omega (arith, m, on root, ap (λ (t : ℕ → ℕ). t root) s.taken)

-- the whole tree
wide_suc : (d : PageState) (l root : ℕ) → Sound d (suc l) root → Wide d l root
unfolding Sound
wide_suc d zero root s h = absurd (omega arith)
wide_suc d (suc l) root s h = (well_node d.page 2 (suc l) root 0 keys_end s.0).full

pub sound_wide : (d : PageState) (h l root : ℕ) → h ≡ suc l → Sound d h root → Wide d l root
sound_wide d h l root e s = subst (λ h. Sound d h root → Wide d l root) (sym e) (λ s. wide_suc d l root s) s

pub empty_drop : (d : PageState) (h root k : ℕ) → h ≡ 0 → Once d → Dropped d d h root k h root × Was k (pairs_of_tree d.page h root) false
unfolding Sound pairs_of_tree pages_of_tree
empty_drop d zero root k e on = (record { sound = tt; once = on; pairs = refl; pages = λ q. omega arith; others = λ q h z. refl; taken = λ q. omega arith; room = omega arith; left = omega arith; spends = spends_none (2 * 0) d }, refl)
empty_drop d (suc l) root k e on = absurd (omega arith)

worn_suc : (n : ℕ) (d e : PageState) (l root k : ℕ) → k < keys_end → Sound d (suc l) root → Shrunk n d e l root k true → Worn e (suc l) root
unfolding Sound
worn_suc n d e l root k kf s g = (l, refl, g.well (root_min l) 0 keys_end (root_few l) s.0 (omega arith) kf, (λ q. omega (arith, g.pages q, s.1 q)))

pub worn : (n : ℕ) (d e : PageState) (h l root k : ℕ) (thin : Bool) → h ≡ suc l → thin ≡ true → k < keys_end → Sound d h root → Shrunk n d e l root k thin → Worn e h root
worn n d e h l root k thin he te kf s g = subst (λ h. Sound d h root → Worn e h root) (sym he) (λ s. worn_suc n d e l root k kf s (subst (λ b. Shrunk n d e l root k b) te g)) s

pub once_shrunk : (n : ℕ) (d e : PageState) (l root k : ℕ) (thin : Bool) → Once d → Shrunk n d e l root k thin → Once e
once_shrunk n d e l root k thin on g q = omega (arith, on q, g.taken q)

kept_suc : (n : ℕ) (d e : PageState) (l root k : ℕ) → n ≤ 4 * suc l → k < keys_end → Sound d (suc l) root → Once d → Shrunk n d e l root k false → Dropped d e (suc l) root k (suc l) root
unfolding Sound pairs_of_tree pages_of_tree
kept_suc n d e l root k nh kf s on g = record {
  sound = (g.well (root_min l) 0 keys_end (root_few l) s.0 (omega arith) kf, (λ q. omega (arith, g.pages q, s.1 q)));
  once = λ q. omega (arith, on q, g.taken q);
  pairs = g.pairs;
  pages = g.pages;
  others = g.others;
  taken = g.taken;
  room = g.room;
  left = omega (arith, g.left);
  spends = spends_more (2 * l + 1) (2 * suc l) d e (omega arith) g.spends;
}

pub kept_root : (n : ℕ) (d e : PageState) (h l root k : ℕ) (thin : Bool) → h ≡ suc l → thin ≡ false → n ≤ 4 * h → k < keys_end → Sound d h root → Once d → Shrunk n d e l root k thin → Dropped d e h root k h root
kept_root n d e h l root k thin he te nh kf s on g = subst (λ h. n ≤ 4 * h → Sound d h root → Dropped d e h root k h root) (sym he) (λ nh s. kept_suc n d e l root k nh kf s on (subst (λ b. Shrunk n d e l root k b) te g)) nh s

crowned_suc : (n : ℕ) (d e1 e : PageState) (l root k h' r' : ℕ) (thin : Bool) → n + 1 ≤ 4 * suc l → Shrunk n d e1 l root k thin → Mine d l root → Crowned e1 e (suc l) root h' r' → Dropped d e (suc l) root k h' r'
unfolding pairs_of_tree pages_of_tree
crowned_suc n d e1 e l root k h' r' thin nh g mine w =
    record {
      sound = w.sound;
      once = w.once;
      pairs = w.pairs ∙ g.pairs;
      pages = λ q. omega (arith, w.pages q, g.pages q);
      others = λ q h z. w.others q (omega (arith, g.pages q, z, g.taken q)) ∙ g.others q h z;
      taken = λ q. omega (arith, w.taken q, g.taken q);
      room = omega (arith, w.room, g.room);
      left = omega (arith, w.left, g.left);
      spends = spends_then (2 * l + 1) 1 (2 * suc l) d e1 e (omega arith) g.spends w.spends;
    }

pub new_root : (n : ℕ) (d e1 e : PageState) (h l root k h' r' : ℕ) (thin : Bool) → h ≡ suc l → n + 1 ≤ 4 * h → Mine d l root → Shrunk n d e1 l root k thin → Crowned e1 e h root h' r' → Dropped d e h root k h' r'
new_root n d e1 e h l root k h' r' thin he nh mine g w = subst (λ h. n + 1 ≤ 4 * h → Crowned e1 e h root h' r' → Dropped d e h root k h' r') (sym he) (λ nh w. crowned_suc n d e1 e l root k h' r' thin nh g mine w) nh w
