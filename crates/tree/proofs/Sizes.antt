-- How many nodes a tree has, by its pairs and by its height; its keys, its pages, and how full they are.
use Rattle.std.proofs.Common.{◌≡◌, ℕ, zero, suc, ◌+◌, ◌-◌, ◌*◌, ◌≤◌, List, [], ◌∷◌, length, sym, ap, subst, inl, inr, arith}
use Rattle.std.proofs.lemmas.List.{length-append}
use Rattle.std.proofs.lemmas.Bool.{cases_lt}
use Rattle.node.specs.Node.{pairs_of}
use Rattle.tree.specs.State.{PageState}
use Rattle.tree.specs.Tree.{joined, pairs_at, pages_at, occ, Kids, Well, Once, Sound, pairs_of_tree, pages_of_tree, root_min, keys_end, Within, UpTree, Occupied}
use Rattle.node.proofs.Words.{pairs_length}
use Rattle.tree.proofs.Kids.{occ-++, well_up}
use Rattle.tree.proofs.Parts.{one_or}
use Rattle.tree.proofs.Below.{few_from}

kids_few : (W : ℕ → ℕ → ℕ → Type 0) (f : ℕ → List ℕ) (g : ℕ → List (ℕ × ℕ)) → ((c a b : ℕ) → W c a b → 84 * length (f c) + 1 ≤ length (g c)) → (lo hi : ℕ) (es : List (ℕ × ℕ)) → Kids W lo hi es → 84 * length (joined f es) + length es ≤ length (joined g es)
kids_few W f g h lo hi [] k = omega arith
kids_few W f g h lo hi (e ∷ es) (z, (m, l, w, r)) = omega (arith, h e.1 lo m w, kids_few W f g h m hi es r, length-append (f e.1) (joined f es), length-append (g e.1) (joined g es))

few : (v : ℕ → List ℕ) (l p lo hi : ℕ) → Well v 85 l p lo hi → 84 * length (pages_at v l p) + 1 ≤ length (pairs_at v l p)
unfolding Well pages_at pairs_at
few v zero p lo hi w = omega (arith, w.0.full, pairs_length (v p) w.0.is)
few v (suc l) p lo hi w = omega (arith, w.0.full, pairs_length (v p) w.0.is, kids_few (λ c a b. Well v 85 l c a b) (λ c. pages_at v l c) (λ c. pairs_at v l c) (λ c a b y. few v l c a b y) lo hi (pairs_of (v p)) w.1)

pub few_pages : (d : PageState) (h root : ℕ) → Sound d h root → 84 * length (pages_of_tree d.page h root) ≤ length (pairs_of_tree d.page h root) + 83
unfolding Sound pages_of_tree pairs_of_tree Well pages_at pairs_at
few_pages d zero root s = omega arith
few_pages d (suc zero) root s = omega (arith, s.0.0.full, pairs_length (d.page root) s.0.0.is)
few_pages d (suc (suc l)) root s = let v = d.page in
    omega (arith, s.0.0.full, pairs_length (v root) s.0.0.is, kids_few (λ c a b. Well v 85 l c a b) (λ c. pages_at v l c) (λ c. pairs_at v l c) (λ c a b y. few v l c a b y) 0 keys_end (pairs_of (v root)) s.0.1)

-- so often x
times : ℕ → ℕ → ℕ
times zero x = 0
times (suc n) x = x + times n x

times_le : (m n x : ℕ) → m ≤ n → times m x ≤ times n x
unfolding times
times_le zero n x h = omega arith
times_le (suc m) zero x h = absurd (omega arith)
times_le (suc m) (suc n) x h = omega (arith, times_le m n x (omega arith))

-- the fewest nodes of a tree below the root
least : ℕ → ℕ
least zero = 1
least (suc l) = times 85 (least l)

kids_deep : (W : ℕ → ℕ → ℕ → Type 0) (f : ℕ → List ℕ) (x : ℕ) → ((c a b : ℕ) → W c a b → x ≤ length (f c)) → (lo hi : ℕ) (es : List (ℕ × ℕ)) → Kids W lo hi es → times (length es) x ≤ length (joined f es)
unfolding times
kids_deep W f x h lo hi [] k = omega arith
kids_deep W f x h lo hi (e ∷ es) (z, (m, l, w, r)) = omega (arith, h e.1 lo m w, kids_deep W f x h m hi es r, length-append (f e.1) (joined f es))

deep : (v : ℕ → List ℕ) (l p lo hi : ℕ) → Well v 85 l p lo hi → least l ≤ length (pages_at v l p)
unfolding Well pages_at least
deep v zero p lo hi w = omega arith
deep v (suc l) p lo hi w = omega (arith, times_le 85 (length (pairs_of (v p))) (least l) (omega (arith, w.0.full, pairs_length (v p) w.0.is)), kids_deep (λ c a b. Well v 85 l c a b) (λ c. pages_at v l c) (least l) (λ c a b y. deep v l c a b y) lo hi (pairs_of (v p)) w.1)

times_pos : (n x : ℕ) → x ≤ times (suc n) x
unfolding times
times_pos n x = omega arith

least_once : (l : ℕ) → least l ≤ least (suc l)
unfolding least
least_once l = times_pos 84 (least l)

least_up : (l k : ℕ) → least l ≤ least (k + l)
least_up l zero = omega (arith, ap (λ n. least n) (let z : 0 + l ≡ l = omega arith in z))
least_up l (suc k) = omega (arith, least_up l k, least_once (k + l), ap (λ n. least n) (let z : suc k + l ≡ suc (k + l) = omega arith in z))

least_5 : 4437053125 ≤ least 5
unfolding least times
least_5 = omega arith

not_high : (l : ℕ) → least l ≤ 4294967295 → suc (suc l) ≤ 6
not_high l h = elim (cases_lt l 5) [ inl z ↦ omega arith | inr z ↦ absurd (omega (arith, least_up 5 (l - 5), least_5, ap (λ n. least n) (let y : (l - 5) + 5 ≡ l = omega arith in y))) ]

few_levels : (d : PageState) (h root : ℕ) → Sound d h root → length (pages_of_tree d.page h root) ≤ 4294967296 → h ≤ 6
unfolding Sound pages_of_tree Well pages_at
few_levels d zero root s n = omega arith
few_levels d (suc zero) root s n = omega arith
few_levels d (suc (suc l)) root s n = let v = d.page in
    let a = kids_deep (λ c a b. Well v 85 l c a b) (λ c. pages_at v l c) (least l) (λ c a b y. deep v l c a b y) 0 keys_end (pairs_of (v root)) s.0.1 in
    let b = times_le 1 (length (pairs_of (v root))) (least l) (omega (arith, s.0.0.full, pairs_length (v root) s.0.0.is)) in
    not_high l (omega (arith, a, b, times_pos 0 (least l)))

pub own_pages : (d : PageState) (h root : ℕ) → Sound d h root → Once d → (q : ℕ) → (occ q (pages_of_tree d.page h root) ≤ 1) × (d.taken q ≡ 0 → occ q (pages_of_tree d.page h root) ≡ 0)
unfolding Sound pages_of_tree
own_pages d zero root s on q = (omega arith, (λ z. omega arith))
own_pages d (suc l) root s on q = (omega (arith, s.1 q, on q), (λ z. omega (arith, s.1 q)))

pub rising_keys : (d : PageState) (h root : ℕ) → Sound d h root → UpTree (pairs_of_tree d.page h root)
unfolding Sound pairs_of_tree
rising_keys d zero root s = omega arith
rising_keys d (suc l) root s = well_up d.page (root_min l) l root 0 keys_end s.0

-- what holds of every page of each child holds of every page of all
kids_all : (W : ℕ → ℕ → ℕ → Type 0) (f : ℕ → List ℕ) (P : ℕ → Type 0) → ((c a b : ℕ) → W c a b → (q : ℕ) → 1 ≤ occ q (f c) → P q) → (lo hi : ℕ) (es : List (ℕ × ℕ)) → Kids W lo hi es → (q : ℕ) → 1 ≤ occ q (joined f es) → P q
kids_all W f P h lo hi [] k q o = absurd (omega arith)
kids_all W f P h lo hi (e ∷ es) (z, (m, l, w, r)) q o = elim (cases_lt 0 (occ q (f e.1))) [
  | inl y ↦ h e.1 lo m w q y
  | inr y ↦ kids_all W f P h m hi es r q (omega (arith, occ-++ q (f e.1) (joined f es)))
]

occupied : (v : ℕ → List ℕ) (l p lo hi : ℕ) → Well v 85 l p lo hi → (q : ℕ) → 1 ≤ occ q (pages_at v l p) → Occupied (v q)
unfolding Well pages_at
occupied v zero p lo hi w q o = elim (one_or q p) [
  | inl z ↦ absurd (omega (arith, z))
  | inr z ↦ subst (λ r. Occupied (v r)) (sym z) (w.0.full, w.0.is.1)
]
occupied v (suc l) p lo hi w q o = elim (one_or q p) [
  | inl z ↦ kids_all (λ c a b. Well v 85 l c a b) (λ c. pages_at v l c) (λ r. Occupied (v r)) (λ c a b y. occupied v l c a b y) lo hi (pairs_of (v p)) w.1 q (omega (arith, z))
  | inr z ↦ subst (λ r. Occupied (v r)) (sym z) (w.0.full, w.0.is.1)
]

pub full_nodes : (d : PageState) (h root : ℕ) → Sound d h root → (q : ℕ) → 1 ≤ occ q (pages_of_tree d.page h root) → (q ≡ root → ⊥) → Occupied (d.page q)
unfolding Sound pages_of_tree Well pages_at
full_nodes d zero root s q o ne = absurd (omega arith)
full_nodes d (suc zero) root s q o ne = elim (one_or q root) [ inl z ↦ absurd (omega (arith, z)) | inr z ↦ absurd (ne z) ]
full_nodes d (suc (suc l)) root s q o ne = let v = d.page in elim (one_or q root) [
  | inl z ↦ kids_all (λ c a b. Well v 85 l c a b) (λ c. pages_at v l c) (λ r. Occupied (v r)) (λ c a b y. occupied v l c a b y) 0 keys_end (pairs_of (v root)) s.0.1 q (omega (arith, z))
  | inr z ↦ absurd (ne z)
]

pub few_nodes : (d : PageState) (h root n : ℕ) → Sound d h root → Once d → Within d n → length (pages_of_tree d.page h root) ≤ n
few_nodes d h root n s on w =
    let ps = pages_of_tree d.page h root in
    omega (arith, few_from 0 n ps (λ q y. absurd (omega arith)) (λ q. (own_pages d h root s on q).0) (λ q y. (own_pages d h root s on q).1 (w q y)))

pub low_trees : (d : PageState) (h root n : ℕ) → Sound d h root → Once d → Within d n → n ≤ 4294967296 → h ≤ 6
low_trees d h root n s on w le = few_levels d h root s (omega (arith, few_nodes d h root n s on w))
