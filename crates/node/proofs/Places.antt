-- What the place of a key among a node's entries tells of them.
use Rattle.std.proofs.Common.{◌≡◌, ℕ, suc, ◌+◌, ◌<◌, ◌≤◌, List, ◌∷◌, length, get_or, take, drop, Some, None, sym, ap, ◌∙◌, subst, inl, inr, arith}
use Rattle.std.specs.List.{slice_get}
use Rattle.std.proofs.lemmas.List.{take-append-drop, drop_more, drop_all}
use Rattle.std.proofs.lemmas.Option.{slice_get-get_or, slice_get_past}
use Rattle.std.proofs.lemmas.Bool.{eq-eqb, cases_order, cases_lt}
use Rattle.node.specs.Pairs.{Up, find, first, above}
use Rattle.node.specs.Node.{key_at, Lower, Upper}
use Rattle.node.proofs.Pairs.{up_low, up_high, cut, find_left, find_low, above_left, above_first}

module _ (es : List (ℕ × ℕ)) where
  -- parted at the place of k
  pub lower_cut : (lo hi k i : ℕ) → Up lo hi es → lo ≤ k → k ≤ hi → Lower es k i → Up lo k (take i es) × Up k hi (drop i es)
  lower_cut lo hi k i u x y f = cut i es lo hi k f.few u x y f.low f.high

  upper_cut : (lo hi k i : ℕ) → Up lo hi es → lo ≤ suc k → suc k ≤ hi → Upper es k i → Up lo (suc k) (take i es) × Up (suc k) hi (drop i es)
  upper_cut lo hi k i u x y f = cut i es lo hi (suc k) f.few u x y (λ j h. omega (arith, f.low j h)) (λ j h l. omega (arith, f.high j h l))

  pub drop_at_lem : (i : ℕ) → i < length es → drop i es ≡ get_or es i (0, 0) ∷ drop (i + 1) es
  drop_at_lem i h = drop_more es i (0, 0) h

  -- a wide interval always does
  wide : (lo hi k : ℕ) → Up lo hi es → Up 0 (hi + suc k) es
  wide lo hi k u = up_low 0 lo (hi + suc k) es (omega arith) (up_high lo hi (hi + suc k) es (omega arith) u)

  find_cut : (lo hi k i : ℕ) → Up lo hi es → Lower es k i → find k es ≡ find k (drop i es)
  find_cut lo hi k i u f = let r = lower_cut 0 (hi + suc k) k i (wide lo hi k u) (omega arith) (omega arith) f in
      ap (λ es. find k es) (sym (take-append-drop i es)) ∙ find_left 0 k k (take i es) (drop i es) r.0 (omega arith)

  pub find_there : (lo hi k i : ℕ) → Up lo hi es → Lower es k i → i < length es → key_at es i ≡ k → find k es ≡ Some (get_or es i (0, 0)).1
  find_there lo hi k i u f h e = find_cut lo hi k i u f ∙ ap (λ es. find k es) (drop_at_lem i h) ∙ rw (eq-eqb (get_or es i (0, 0)).0 k e)

  pub strict : (hi k i : ℕ) → suc k ≤ hi → Up k hi (drop i es) → i ≤ length es → (i < length es → key_at es i ≡ k → ⊥) → Up (suc k) hi (drop i es)
  strict hi k i y u few ne = elim (cases_lt i (length es)) [
    | inl h ↦ let w : Up k hi (get_or es i (0, 0) ∷ drop (i + 1) es) = subst (λ es. Up k hi es) (drop_at_lem i h) u in
        let n : key_at es i ≡ k → ⊥ = ne h in
        let z : suc k ≤ (get_or es i (0, 0)).0 = elim (cases_order k (get_or es i (0, 0)).0) [ inl q ↦ absurd (n (sym q)) | inr (inl q) ↦ q | inr (inr q) ↦ absurd (omega (arith, w.0)) ] in
        subst (λ es. Up (suc k) hi es) (sym (drop_at_lem i h)) (z, w.1)
    | inr h ↦ subst (λ es. Up (suc k) hi es) (sym (drop_all i es h)) y
  ]

  pub find_not : (lo hi k i : ℕ) → Up lo hi es → Lower es k i → (i < length es → key_at es i ≡ k → ⊥) → find k es ≡ None
  find_not lo hi k i u f ne = let r = lower_cut 0 (hi + suc k) k i (wide lo hi k u) (omega arith) (omega arith) f in
      find_cut lo hi k i u f ∙ find_low (suc k) (hi + suc k) k (drop i es) (strict (hi + suc k) k i (omega arith) r.1 f.few ne) (omega arith)

  first_at : (i : ℕ) → first (drop i es) ≡ slice_get es i
  first_at i = elim (cases_lt i (length es)) [
    | inl h ↦ ap first (drop_at_lem i h) ∙ sym (slice_get-get_or es i (0, 0) h)
    | inr h ↦ ap first (drop_all i es h) ∙ sym (slice_get_past es i h)
  ]

  pub above_is : (lo hi k i : ℕ) → Up lo hi es → Upper es k i → slice_get es i ≡ above k es
  above_is lo hi k i u f = let r = upper_cut 0 (hi + suc k) k i (wide lo hi k u) (omega arith) (omega arith) f in
      sym (ap (λ es. above k es) (sym (take-append-drop i es)) ∙ above_left 0 (suc k) k (take i es) (drop i es) r.0 (omega arith)
      ∙ above_first (suc k) (hi + suc k) k (drop i es) r.1 (omega arith) ∙ first_at i)
