-- The root: a first leaf, a root that stays, a root above two.
use Rattle.std.proofs.Common.{◌≡◌, ℕ, zero, suc, ◌+◌, ◌*◌, ◌<◌, ◌≤◌, true, [], ◌∷◌, ◌++◌, length, Some, None, Option, sym, refl, ap, ◌∙◌, subst, inl, inr, append-nil, arith}
use Rattle.node.specs.Pairs.{Up}
use Rattle.node.specs.Node.{pairs_of, rows}
use Rattle.tree.specs.State.{PageState}
use Rattle.tree.specs.Tree.{joined, pairs_at, pages_at, occ, Kids, Well, Sound, pairs_of_tree, root_min, Once, pages_of_tree, keys_end}
use Rattle.tree.specs.Grow.{Grew, New, Built, Grown}
use Rattle.node.proofs.Words.{pairs_length}
use Rattle.tree.proofs.Alike.{alike_all}
use Rattle.tree.proofs.Parts.{one_or, one_here, root_few}
use Rattle.tree.proofs.Spent.{spends_more, spends_then}

pub first_tree : (d e : PageState) (h root k x p : ℕ) → h ≡ 0 → Once d → k < keys_end → Built d e p 0 ((k, x) ∷ []) → Grown d e h root k x 1 p × New k (pairs_of_tree d.page h root) true
unfolding Sound Well pairs_of_tree pairs_at pages_at pages_of_tree
first_tree d e zero root k x p z on kf b =
    let y = b.holds in (
      record {
        sound = ((record { is = y.is; level = y.level; full = omega (arith, pairs_length (e.page p) y.is, ap length y.pairs) }, subst (λ es. Up 0 keys_end es) (sym y.pairs) (omega arith, kf)), (λ q. omega (arith, b.taken q)));
        once = λ q. elim (one_or q p) [ inl n ↦ omega (arith, b.taken q, on q) | inr n ↦ omega (arith, b.taken q, one_here q p n, ap (λ r. d.taken r) n, b.was) ];
        pairs = y.pairs;
        pages = λ q. omega (arith, b.taken q);
        others = λ q h n. b.others q (λ z. omega (arith, h, ap (λ r. d.taken r) z, b.was));
        room = omega (arith, b.room);
        left = omega (arith, b.left);
        spends = spends_more 1 (2 * 0 + 1) d e (omega arith) b.spends;
      },
      refl,
    )
first_tree d e (suc l) root k x p z on kf b = absurd (omega arith)

same_tree_suc : (d e : PageState) (l root k x n : ℕ) → n ≤ 3 * suc l + 1 → Sound d (suc l) root → k < keys_end → Grew n d e l root k x None → Grown d e (suc l) root k x (suc l) root
unfolding Sound pairs_of_tree pages_of_tree
same_tree_suc d e l root k x n nh s kf g =
    let ks = g.well (root_min l) 0 keys_end (root_few l) s.0 (omega arith) kf in
    let oc : (q : ℕ) → occ q (pages_at e.page l root ++ []) ≡ occ q (pages_at e.page l root) = λ q. ap (λ ps. occ q ps) (append-nil (pages_at e.page l root)) in
    record {
      sound = (subst (λ hi. Well e.page (root_min l) l root 0 hi) ks.1.3 ks.1.2, (λ q. omega (arith, oc q, g.pages 0 q, s.1 q)));
      once = λ q. (g.taken q).1;
      pairs = sym (append-nil (pairs_at e.page l root)) ∙ g.pairs 0;
      pages = λ q. omega (arith, oc q, g.pages 0 q);
      others = g.others;
      room = omega (arith, g.room);
      left = omega (arith, g.left);
      spends = spends_more (2 * l + 2) (2 * suc l + 1) d e (omega arith) g.spends;
    }

pub same_tree : (d e : PageState) (h l root k x n : ℕ) (o : Option (ℕ × ℕ)) → h ≡ suc l → o ≡ None → n ≤ 3 * h + 1 → Sound d h root → k < keys_end → Grew n d e l root k x o → Grown d e h root k x h root
same_tree d e h l root k x n o he oe nh s kf g =
    subst (λ h. n ≤ 3 * h + 1 → Sound d h root → Grown d e h root k x h root) (sym he) (λ nh s. same_tree_suc d e l root k x n nh s kf (subst (λ o. Grew n d e l root k x o) oe g)) nh s

taller_suc : (d e1 e : PageState) (l root k x r n : ℕ) (a : ℕ × ℕ) → n ≤ 3 * suc l → Sound d (suc l) root → k < keys_end → Grew n d e1 l root k x (Some a) → Built e1 e r (suc l) (rows 0 root (Some a)) → Grown d e (suc l) root k x (suc (suc l)) r
unfolding Sound pairs_of_tree pages_of_tree Well pairs_at pages_at
taller_suc d e1 e l root k x r n a nh s kf g b =
    let es = rows 0 root (Some a) in let y = b.holds in
    let ks = g.well (root_min l) 0 keys_end (root_few l) s.0 (omega arith) kf in
    let gp : (q : ℕ) → occ q (joined (λ c. pages_at e1.page l c) es) + d.taken q ≡ occ q (pages_at d.page l root) + e1.taken q = g.pages 0 in
    let notr : (q : ℕ) → 1 ≤ e1.taken q → q ≡ r → ⊥ = λ q h z. omega (arith, h, ap (λ n. e1.taken n) z, b.was) in
    let al = alike_all e1.page e.page l es (λ q h. b.others q (notr q (omega (arith, gp q, s.1 q)))) in
    let op : (q : ℕ) → occ q (joined (λ c. pages_at e.page l c) (pairs_of (e.page r))) ≡ occ q (joined (λ c. pages_at e1.page l c) es) = λ q. ap (λ es. occ q (joined (λ c. pages_at e.page l c) es)) y.pairs ∙ ap (λ ps. occ q ps) al.pages in
    record {
      sound = (
        (
          record { is = y.is; level = y.level; full = omega (arith, pairs_length (e.page r) y.is, ap length y.pairs) },
          subst (λ es. Kids (λ c a b. Well e.page 85 l c a b) 0 keys_end es) (sym y.pairs) (al.well 85 0 keys_end ks),
        ),
        (λ q. omega (arith, op q, gp q, s.1 q, b.taken q)),
      );
      once = λ q. elim (one_or q r) [ inl n ↦ omega (arith, b.taken q, (g.taken q).1) | inr n ↦ omega (arith, b.taken q, one_here q r n, ap (λ m. e1.taken m) n, b.was) ];
      pairs = ap (λ es. joined (λ c. pairs_at e.page l c) es) y.pairs ∙ al.pairs ∙ g.pairs 0;
      pages = λ q. omega (arith, op q, gp q, b.taken q);
      others = λ q h z. b.others q (notr q (omega (arith, (g.taken q).0))) ∙ g.others q h z;
      room = omega (arith, g.room, b.room);
      left = omega (arith, g.left, b.left);
      spends = spends_then (2 * l + 2) 1 (2 * suc l + 1) d e1 e (omega arith) g.spends b.spends;
    }

pub taller_tree : (d e1 e : PageState) (h l root k x r n : ℕ) (o : Option (ℕ × ℕ)) (a : ℕ × ℕ) → h ≡ suc l → o ≡ Some a → n ≤ 3 * h → Sound d h root → k < keys_end → Grew n d e1 l root k x o → Built e1 e r h (rows 0 root o) → Grown d e h root k x (h + 1) r
taller_tree d e1 e h l root k x r n o a he oe nh s kf g b =
    let one : suc h ≡ h + 1 = omega arith in
    subst (λ t. Grown d e h root k x t r) one
    (subst (λ h. n ≤ 3 * h → Sound d h root → Built e1 e r h (rows 0 root (Some a)) → Grown d e h root k x (suc h) r) (sym he)
    (λ nh s b. taller_suc d e1 e l root k x r n a nh s kf (subst (λ o. Grew n d e1 l root k x o) oe g) b) nh s (subst (λ o. Built e1 e r h (rows 0 root o)) oe b))
