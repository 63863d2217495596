-- What a search for a key among rising entries tells of them.
use Rattle.std.proofs.Common.{◌≡◌, ℕ, suc, ◌+◌, ◌<◌, ◌≤◌, true, false, List, ◌∷◌, ◌++◌, length, get_or, take, drop, map, is_some, leb, Some, Ok, Err, Result, sym, ap, ◌∙◌, subst, inl, inr, arith}
use Rattle.std.specs.List.{slice_get}
use Rattle.std.specs.List.Sorted.{IsPartitionPoint, IsPartitionedBy, IsBinarySearchResult}
use Rattle.std.specs.Ordering.{nat_cmp}
use Rattle.std.specs.Result.{MatchResult, result_ok}
use Rattle.std.proofs.lemmas.List.{take-append-drop, set_split, get_or-map, length-map, get_or_default}
use Rattle.std.proofs.lemmas.List.Sorted.{searched, IsPartitionedBy-leb}
use Rattle.std.proofs.lemmas.Bool.{le-ltb, eq-eqb, leb-true, leb-false, cases_eq}
use Rattle.node.specs.Pairs.{Up, find, above, put_in, drop_in}
use Rattle.node.specs.Node.{key_at, Rising, Lower, Upper, Found, Missing, Spot, place_of}
use Rattle.node.proofs.Pairs.{up_low, up_high, up_rises, put_left, put_low, drop_left, drop_low}
use Rattle.node.proofs.Places.{lower_cut, drop_at_lem, strict, find_there, find_not, above_is}

put_here : (k x : ℕ) (e : ℕ × ℕ) (es : List (ℕ × ℕ)) → e.0 ≡ k → put_in k x (e ∷ es) ≡ (k, x) ∷ es
put_here k x e es z = rw (le-ltb e.0 k (omega arith), eq-eqb e.0 k z)

drop_here : (k : ℕ) (e : ℕ × ℕ) (es : List (ℕ × ℕ)) → e.0 ≡ k → drop_in k (e ∷ es) ≡ es
drop_here k e es z = rw (eq-eqb e.0 k z)

-- i keys of es are below k
module _ (es : List (ℕ × ℕ)) (k i : ℕ) (up : Rising es) (f : Lower es k i) where
  sides : Up 0 k (take i es) × Up k (up.1.0 + suc k) (drop i es)
  sides =
      let lo = up.0 in let hi = up.1.0 in
      lower_cut es 0 (hi + suc k) k i (up_low 0 lo (hi + suc k) es (omega arith) (up_high lo hi (hi + suc k) es (omega arith) up.1.1)) (omega arith) (omega arith) f

  put_cut : (x : ℕ) → put_in k x es ≡ take i es ++ put_in k x (drop i es)
  put_cut x = ap (λ es. put_in k x es) (sym (take-append-drop i es)) ∙ put_left 0 k k x (take i es) (drop i es) sides.0 (omega arith)

  drop_cut : drop_in k es ≡ take i es ++ drop_in k (drop i es)
  drop_cut = ap (λ es. drop_in k es) (sym (take-append-drop i es)) ∙ drop_left 0 k k (take i es) (drop i es) sides.0 (omega arith)

  found : i < length es → key_at es i ≡ k → Found es k i
  found h z =
      let e = get_or es i (0, 0) in let one : i + 1 ≡ suc i = omega arith in
      record {
        here = h;
        key = z;
        puts = λ x. put_cut x ∙ ap (λ es'. take i es ++ put_in k x es') (drop_at_lem es i h) ∙ ap (λ (r : List (ℕ × ℕ)). take i es ++ r) (put_here k x e (drop (i + 1) es) z)
            ∙ ap (λ n. take i es ++ ((k, x) ∷ drop n es)) one ∙ sym (set_split es i (k, x) h);
        drops = drop_cut ∙ ap (λ (r : List (ℕ × ℕ)). take i es ++ r) (ap (λ es'. drop_in k es') (drop_at_lem es i h) ∙ drop_here k e (drop (i + 1) es) z)
            ∙ ap (λ n. take i es ++ drop n es) one;
        was = ap is_some (find_there es up.0 up.1.0 k i up.1.1 f h z);
      }

  missing : (i < length es → key_at es i ≡ k → ⊥) → Missing es k i
  missing ne =
      let hi = up.1.0 + suc k in
      let past = strict es hi k i (omega arith) sides.1 f.few ne in
      record {
        here = f.few;
        puts = λ x. put_cut x ∙ ap (λ (r : List (ℕ × ℕ)). take i es ++ r) (put_low (suc k) hi k x (drop i es) past (omega arith));
        drops = drop_cut ∙ ap (λ (r : List (ℕ × ℕ)). take i es ++ r) (drop_low (suc k) hi k (drop i es) past (omega arith)) ∙ take-append-drop i es;
        was = ap is_some (find_not es up.0 up.1.0 k i up.1.1 f ne);
      }

abbrev keys : List (ℕ × ℕ) → List ℕ
keys es = map (λ (e : ℕ × ℕ). e.0) es

-- what a search among the keys tells
module _ (es : List (ℕ × ℕ)) (k : ℕ) (up : Rising es) where
  keys_length : length (keys es) ≡ length es
  keys_length = length-map es (λ (e : ℕ × ℕ). e.0)

  key_is : (j : ℕ) → j < length es → get_or (keys es) j 0 ≡ key_at es j
  key_is j h = get_or-map (λ (e : ℕ × ℕ). e.0) es j (0, 0) 0 h

  rises : (i j : ℕ) → i < j → j < length es → key_at es i < key_at es j
  rises i j h l = up_rises up.0 up.1.0 es up.1.1 i j h l

  pub rising_keys : (i j : ℕ) → i ≤ j → j < length (keys es) → get_or (keys es) i 0 ≤ get_or (keys es) j 0
  rising_keys i j h l =
      let n = keys_length in
      elim (cases_eq i j) [
        | inl z ↦ subst (λ j. get_or (keys es) i 0 ≤ get_or (keys es) j 0) z (omega arith)
        | inr z ↦ omega (arith, key_is i (omega arith), key_is j (omega arith), rises i j (omega arith) (omega arith))
      ]

  lower_here : (i : ℕ) → i < length es → key_at es i ≡ k → Lower es k i
  lower_here i h z = record {
    few = omega arith;
    low = λ j l. omega (arith, rises j i l h);
    high = λ j l m. elim (cases_eq i j) [ inl y ↦ subst (λ j. k ≤ key_at es j) y (omega arith) | inr y ↦ omega (arith, rises i j (omega arith) m) ];
  }

  pub spotted : (r : Result ℕ ℕ) → MatchResult r (λ i. (i < length (keys es)) × (get_or (keys es) i 0 ≡ k)) (λ i. (i ≤ length (keys es)) × ((j : ℕ) → j < i → get_or (keys es) j 0 < k) × ((j : ℕ) → i ≤ j → j < length (keys es) → k < get_or (keys es) j 0)) → Spot es k r × Lower es k (place_of r)
  spotted (Ok i) m =
      let n = keys_length in
      let h : i < length es = omega (arith, m.0) in
      let z : key_at es i ≡ k = sym (key_is i h) ∙ m.1 in
      let f = lower_here i h z in (found es k i up f h z, f)
  spotted (Err i) m =
      let n = keys_length in
      let h : i ≤ length es = omega (arith, m.0) in
      let f : Lower es k i = record {
        few = h;
        low = λ j l. omega (arith, key_is j (omega arith), m.1 j l);
        high = λ j l y. omega (arith, key_is j y, m.2 j l (omega arith));
      } in
      (missing es k i up f (λ l z. omega (arith, z, key_is i l, m.2 i (omega arith) (omega arith))), f)

  pub parted : (i : ℕ) → i ≤ length (keys es) → IsPartitionPoint (λ y. leb y k ≡ true) (λ y. leb y k ≡ false) (keys es) i → Upper es k i
  parted i few p =
      let n = keys_length in record {
        few = omega arith;
        low = λ j l. omega (arith, key_is j (omega arith), leb-true (get_or (keys es) j 0) k (p.0 j 0 (omega arith) l));
        high = λ j l y. omega (arith, key_is j y, leb-false (get_or (keys es) j 0) k (p.1 j 0 l (omega arith)));
      }

-- of the list of keys that was searched
module _ (es : List (ℕ × ℕ)) (k : ℕ) (up : Rising es) (ks : List ℕ) (is : ks ≡ map (λ (e : ℕ × ℕ). e.0) es) where
  pub search_tells : (r : Result ℕ ℕ) → IsBinarySearchResult (λ y. nat_cmp y k) ks r → Spot es k r × Lower es k (place_of r)
  search_tells r h = spotted es k up r (searched (keys es) k r (subst (λ ks. IsBinarySearchResult (λ y. nat_cmp y k) ks r) is h) (rising_keys es k up))

  pub parts_at : (i : ℕ) → i ≤ length ks → IsPartitionPoint (λ y. leb y k ≡ true) (λ y. leb y k ≡ false) ks i → Upper es k i
  parts_at i few p = parted es k up i (subst (λ ks. i ≤ length ks) is few) (subst (λ ks. IsPartitionPoint (λ y. leb y k ≡ true) (λ y. leb y k ≡ false) ks i) is p)

  pub parts : IsPartitionedBy (λ y. leb y k) ks
  parts = subst (λ ks. IsPartitionedBy (λ y. leb y k) ks) (sym is) (IsPartitionedBy-leb (λ x. x) (keys es) k (λ i j d h l.
      omega (arith, get_or_default (keys es) i d 0 (omega arith), get_or_default (keys es) j d 0 l, rising_keys es k up i j h l)))

-- what the place tells of a look-up
module _ (es : List (ℕ × ℕ)) (k : ℕ) (up : Rising es) where
  pub got : (r : Result ℕ ℕ) (i : ℕ) (e : ℕ × ℕ) → Spot es k r → result_ok r ≡ Some i → e ≡ get_or es i (0, 0) → Some e.1 ≡ find k es
  got (Ok j) i e f z y =
      let s : j ≡ i = cc in
      ap (λ (e : ℕ × ℕ). Some e.1) (y ∙ ap (λ i. get_or es i (0, 0)) (sym s)) ∙ sym (find_there es up.0 up.1.0 k j up.1.1 (lower_here es k up j f.here f.key) f.here f.key)
  got (Err j) i e m z y = absurd (cc)

  pub after_is : (i : ℕ) → Upper es k i → slice_get es i ≡ above k es
  after_is i f = above_is es up.0 up.1.0 k i up.1.1 f
