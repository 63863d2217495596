-- The next key that a deal sees: the walk over dropped keys, and the least that lines put.
use Rattle.std.proofs.Common.{◌≡◌, ℕ, ◌^◌, ◌<◌, true, false, ◌&&◌, ltb, List, [], ◌∷◌, Some, None, Option, sym, refl, ap, ◌∙◌, subst, inl, inr, arith}
use Rattle.std.specs.List.{AllByRecursion, fold}
use Rattle.std.specs.Option.{option_map}
use Rattle.std.proofs.ByRecursion.{All-weaker}
use Rattle.std.proofs.lemmas.Bool.{cases_Bool, cases_order, and_parts, and_cases, ltb-true, ltb-false, both_ways}
use Rattle.lines.specs.declared.line.Line.{Line}
use Rattle.lines.specs.declared.line.Line.TheVariants.{Idle, Wrote, Cleared, Stale, Read, Scanned, Marked}
use Rattle.view.specs.declared.seen.Seen.{Seen}
use Rattle.view.specs.declared.seen.Seen.TheVariants.{There, Away}
use Rattle.node.specs.Pairs.{find, above}
use Rattle.view.specs.Writes.{with_lines, Rising}
use Rattle.view.specs.Sight.{word_of, as_found, is_there, says, viewed}
use Rattle.view.specs.Upkeep.{key_of, next_key, SuccOk}
use Rattle.view.specs.Nexts.{is_away, Walked, ends, stays, goes, Rises, under, least_line, least_in, Onward, ahead}
use Rattle.view.proofs.Found.{Pairs, IsNext, none, some, above_is}
use Rattle.view.proofs.Done.{rising_lines}
use Rattle.view.proofs.Looks.{SeenOk, ok_says, NoPut, no_says, viewed_found}
use Rattle.view.proofs.Upkeeps.{IsKey, end, at, key_only, key_is}

-- what is found, by what lines say
away_missing : (s : Option Seen) (n : Option ℕ) (d : Option ℕ) → s ≡ Some (Away n) → as_found s d ≡ None
away_missing s n d e = ap (λ x. as_found x d) e

tree_missing : (s : Option Seen) (d : Option ℕ) → d ≡ None → is_there s ≡ false → as_found s d ≡ None
tree_missing (Some (There x)) d e h = cc
tree_missing (Some (Away n)) d e h = refl
tree_missing None d e h = e

there_word : (s : Option Seen) (d : Option ℕ) → is_there s ≡ true → (x : ℕ) × (as_found s d ≡ Some x)
there_word (Some (There x)) d h = (x, refl)
there_word (Some (Away n)) d h = absurd (both_ways false refl h)
there_word None d h = absurd (both_ways false refl h)

stay_word : (s : Option Seen) (d : Option ℕ) (x : ℕ) → is_away s ≡ false → d ≡ Some x → (y : ℕ) × (as_found s d ≡ Some y)
stay_word (Some (There y)) d x h e = (y, refl)
stay_word (Some (Away n)) d x h e = absurd (both_ways true h refl)
stay_word None d x h e = (x, e)

abbrev pub Under : ℕ → Option ℕ → Type 0
Under j None = Unit {0}
Under j (Some p) = j < p

under_true : (j : ℕ) (b : Option ℕ) → under j b ≡ true → Under j b
under_true j None e = tt
under_true j (Some p) e = ltb-true j p e

under_false : (j : ℕ) (b : Option ℕ) → under j b ≡ false → Under j b → ⊥
under_false j None e u = both_ways true e refl
under_false j (Some p) e u = omega (arith, ltb-false j p e)

under_less : (i j : ℕ) (b : Option ℕ) → i < j → Under j b → Under i b
under_less i j None h u = tt
under_less i j (Some p) h u = omega arith

above_key : (f : ℕ → Option ℕ) (k : ℕ) (o : Option ℕ) (l : ℕ) → IsKey f k o → o ≡ Some l → k < l
above_key f k o l (end h) e = let z : ◌≡◌ {A = ℕ} 0 1 = cc in omega arith
above_key f k o l (at m x i g v) e = let z : m ≡ l = cc in omega arith

module _ (t : Pairs) (q o : List Line) (k : ℕ) where
  -- up to here nothing is found but what lines put
  abbrev pub Reached : Option ℕ → Type 0
  Reached b = (j : ℕ) → k < j → Under j b → is_there (says q o j) ≡ false → viewed t q o j ≡ None

  abbrev pub Stands : Option ℕ → Type 0
  Stands None = Unit {0}
  Stands (Some p) = (k < p) × ((x : ℕ) × (viewed t q o p ≡ Some x))

  abbrev pub OnTree : Option ℕ → Type 0
  OnTree None = Unit {0}
  OnTree (Some p) = (k < p) × ((x : ℕ) × (find p t ≡ Some x))

  pub reached_first : (a : Option ℕ) → IsKey (λ j. find j t) k a → Reached a × OnTree a
  unfolding viewed
  reached_first a (end h) = ((λ j i u n. tree_missing (says q o j) (find j t) (h j i) n), tt)
  reached_first a (at l x i e v) = ((λ j h u n. tree_missing (says q o j) (find j t) (v j h u) n), (i, (x, e)))

  step : (p : ℕ) (s : Option ℕ) → k < p → says q o p ≡ Some (Away s) → IsKey (λ j. find j t) p s → Reached (Some p) → Reached s × OnTree s
  unfolding viewed
  step p s i e (end h) r = (
    (λ j u w n. elim (cases_order j p) [
      | inl z ↦ rw z (away_missing (says q o p) None (find p t) e)
      | inr (inl z) ↦ r j u z n
      | inr (inr z) ↦ tree_missing (says q o j) (find j t) (h j z) n
    ]),
    tt,
  )
  step p s i e (at l x g d v) r = (
    (λ j u w n. elim (cases_order j p) [
      | inl z ↦ rw z (away_missing (says q o p) (Some l) (find p t) e)
      | inr (inl z) ↦ r j u z n
      | inr (inr z) ↦ tree_missing (says q o j) (find j t) (v j z w) n
    ]),
    (omega arith, (x, d)),
  )

  module _ (up : Rising t) (okq : SuccOk t q) (oko : SuccOk t o) where
    succ_is : (p : ℕ) (s : Option ℕ) → says q o p ≡ Some (Away s) → IsKey (λ j. find j t) p s
    succ_is p s e = let h : s ≡ next_key p t = subst (SeenOk t p) e (ok_says t q o p okq oko) in rw h (key_is p t up)

    pub rises : Rises (says q o)
    rises j s e = above_key (λ i. find i t) j (Some s) s (succ_is j (Some s) e) refl

    pub walk_on : (a r : Option ℕ) → Walked (says q o) a r → Reached a → OnTree a → Reached r × Stands r
    unfolding viewed
    walk_on a r ends h g = (h, tt)
    walk_on a r (stays p e) h g = (h, (g.0, stay_word (says q o p) (find p t) g.1.0 e g.1.1))
    walk_on a r (goes p s r' e w) h g = let n = step p s g.0 e (succ_is p s e) h in walk_on s r w n.0 n.1

  -- a line that puts a key which is there has been minded
  abbrev pub Passed : Option ℕ → Line → Type 0
  Passed b Idle = Unit {0}
  Passed b (Wrote j x) = k < j → is_there (says q o j) ≡ true → Under j b → ⊥
  Passed b (Cleared j s) = Unit {0}
  Passed b (Stale j) = Unit {0}
  Passed b (Read j) = Unit {0}
  Passed b (Scanned j r) = Unit {0}
  Passed b Marked = Unit {0}

  abbrev pub Lower : Option ℕ → Option ℕ → Type 0
  Lower c b = (j : ℕ) → Under j c → Under j b

  pub passed_lower : (c b : Option ℕ) → Lower c b → (l : Line) → Passed b l → Passed c l
  passed_lower c b h Idle p = tt
  passed_lower c b h (Wrote j x) p = λ i e u. p i e (h j u)
  passed_lower c b h (Cleared j s) p = tt
  passed_lower c b h (Stale j) p = tt
  passed_lower c b h (Read j) p = tt
  passed_lower c b h (Scanned j r) p = tt
  passed_lower c b h Marked p = tt

  pub record Best (c b : Option ℕ) : Type 0 where
    pub reached : Reached c
    pub stands : Stands c
    pub lower : Lower c b

  best_put : (j x : ℕ) (b : Option ℕ) → Reached b → Stands b → Best (least_line (says q o) k (Wrote j x) b) b × Passed (least_line (says q o) k (Wrote j x) b) (Wrote j x)
  unfolding viewed
  best_put j x b r s =
      elim (cases_Bool (ltb k j && (under j b && is_there (says q o j)))) [
        | inl e ↦
            let p = and_parts (ltb k j) (under j b && is_there (says q o j)) e in
            let p' = and_parts (under j b) (is_there (says q o j)) p.1 in
            let i : k < j = ltb-true k j p.0 in
            let u : Under j b = under_true j b p'.0 in
            rw e (
              record {
                reached = λ m h g n. r m h (under_less m j b g u) n;
                stands = (i, there_word (says q o j) (find j t) p'.1);
                lower = λ m h. under_less m j b h u;
              },
              λ h g z. omega arith,
            )
        | inr e ↦
            rw e (
              record { reached = r; stands = s; lower = λ m h. h },
              λ h g z. elim (and_cases (ltb k j) (under j b && is_there (says q o j)) e) [
                | inl w ↦ omega (arith, ltb-false k j w)
                | inr w ↦ elim (and_cases (under j b) (is_there (says q o j)) w) [
                  | inl y ↦ under_false j b y z
                  | inr y ↦ both_ways (is_there (says q o j)) y g
                ]
              ],
            )
      ]

  best_line : (l : Line) (b : Option ℕ) → Reached b → Stands b → Best (least_line (says q o) k l b) b × Passed (least_line (says q o) k l b) l
  best_line Idle b r s = (record { reached = r; stands = s; lower = λ m h. h }, tt)
  best_line (Wrote j x) b r s = best_put j x b r s
  best_line (Cleared j n) b r s = (record { reached = r; stands = s; lower = λ m h. h }, tt)
  best_line (Stale j) b r s = (record { reached = r; stands = s; lower = λ m h. h }, tt)
  best_line (Read j) b r s = (record { reached = r; stands = s; lower = λ m h. h }, tt)
  best_line (Scanned j n) b r s = (record { reached = r; stands = s; lower = λ m h. h }, tt)
  best_line Marked b r s = (record { reached = r; stands = s; lower = λ m h. h }, tt)

  pub best_in : (ls : List Line) (b : Option ℕ) → Reached b → Stands b → Best (least_in (says q o) k ls b) b × AllByRecursion (Passed (least_in (says q o) k ls b)) ls
  best_in [] b r s = (record { reached = r; stands = s; lower = λ m h. h }, tt)
  best_in (l ∷ ls) b r s =
      let here = best_line l b r s in
      let c = least_line (says q o) k l b in
      let rest = best_in ls c here.0.reached here.0.stands in (
        record { reached = rest.0.reached; stands = rest.0.stands; lower = λ m h. here.0.lower m (rest.0.lower m h) },
        (passed_lower (least_in (says q o) k ls c) c rest.0.lower l here.1, rest.1),
      )

  no_put : (b : Option ℕ) (j : ℕ) → k < j → is_there (says q o j) ≡ true → Under j b → (l : Line) → Passed b l → NoPut j l
  no_put b j h g u Idle p = tt
  no_put b j h g u (Wrote m x) p = λ e. p (rw e at h) (rw e at g) (rw e at u)
  no_put b j h g u (Cleared m s) p = tt
  no_put b j h g u (Stale m) p = tt
  no_put b j h g u (Read m) p = tt
  no_put b j h g u (Scanned m r) p = tt
  no_put b j h g u Marked p = tt

  nothing : (b : Option ℕ) → Reached b → AllByRecursion (Passed b) q → AllByRecursion (Passed b) o → (j : ℕ) → k < j → Under j b → viewed t q o j ≡ None
  nothing b r pq po j h u =
      elim (cases_Bool (is_there (says q o j))) [
        | inl e ↦ absurd (both_ways (is_there (says q o j)) (no_says q o j (All-weaker (Passed b) (NoPut j) (no_put b j h e u) q pq) (All-weaker (Passed b) (NoPut j) (no_put b j h e u) o po)) e)
        | inr e ↦ r j h u e
      ]

  pub is_key : (b : Option ℕ) → Reached b → Stands b → AllByRecursion (Passed b) q → AllByRecursion (Passed b) o → IsKey (viewed t q o) k b
  is_key None r s pq po = end (λ j h. nothing None r pq po j h tt)
  is_key (Some p) r s pq po = at p s.1.0 s.0 s.1.1 (λ j h u. nothing (Some p) r pq po j h u)

  -- all together: from the tree's first key, over the dropped, to the least that is put
  pub next_key_lem : Rising t → SuccOk t q → SuccOk t o → (a r : Option ℕ) → a ≡ next_key k t → Walked (says q o) a r → IsKey (viewed t q o) k (least_in (says q o) k o (least_in (says q o) k q r))
  next_key_lem up okq oko a r e w =
      let f = reached_first a (rw e (key_is k t up)) in
      let g = walk_on up okq oko a r w f.0 f.1 in
      let b = least_in (says q o) k q r in
      let x = best_in q r g.0 g.1 in
      let y = best_in o b x.0.reached x.0.stands in
      let c = least_in (says q o) k o b in
      is_key c y.0.reached y.0.stands (All-weaker (Passed b) (Passed c) (passed_lower c b y.0.lower) q x.1) y.1

found_by : (t : Pairs) (q o : List Line) (k : ℕ) (s : Option Seen) → s ≡ says q o k → as_found s (find k t) ≡ viewed t q o k
unfolding viewed
found_by t q o k s e = ap (λ x. as_found x (find k t)) e

module _ (t : Pairs) (q o : List Line) (k : ℕ) (s : Option Seen) (is : s ≡ says q o k) where
  pub found_said : (a : Seen) → Some a ≡ s → word_of a ≡ viewed t q o k
  found_said a e = ap (λ x. as_found x (find k t)) e ∙ found_by t q o k s is

  pub found_asked : None ≡ s → find k t ≡ viewed t q o k
  found_asked e = ap (λ x. as_found x (find k t)) e ∙ found_by t q o k s is

-- the least of lines is a fold over them
pub least_fold : (f : ℕ → Option Seen) (k : ℕ) (ls : List Line) (b : Option ℕ) → fold (λ a l. least_line f k l a) b ls ≡ least_in f k ls b
least_fold f k [] b = refl
least_fold f k (l ∷ ls) b = least_fold f k ls (least_line f k l b)

-- THE WALK, a step
pub ahead_less : (f : ℕ → Option Seen) (t s : Option ℕ) (p : ℕ) → Rises f → t ≡ Some p → p < 2 ^ 64 → Some (Away s) ≡ f p → ahead s < ahead t
ahead_less f t None p r e h g = rw e (omega arith)
ahead_less f t (Some m) p r e h g = let i : p < m = r p m (sym g) in rw e (omega arith)

pub walk_more : (f : ℕ → Option Seen) (t s a r : Option ℕ) (p : ℕ) → t ≡ Some p → Some (Away s) ≡ f p → Walked f s r → Walked f t r
walk_more f t s a r p e g w = rw e (goes p s r (sym g) w)

pub walk_silent : (f : ℕ → Option Seen) (t : Option ℕ) (p : ℕ) → t ≡ Some p → None ≡ f p → Walked f t (Some p)
walk_silent f t p e g = rw e (stays p (ap is_away (sym g)))

not_away : (s : Seen) → ((n : Option ℕ) → s ≡ Away n → ⊥) → is_away (Some s) ≡ false
not_away (There x) h = refl
not_away (Away n) h = absurd (h n refl)

pub walk_there : (f : ℕ → Option Seen) (t : Option ℕ) (p : ℕ) (s : Seen) → t ≡ Some p → Some s ≡ f p → ((n : Option ℕ) → s ≡ Away n → ⊥) → Walked f t (Some p)
walk_there f t p s e g h = rw e (stays p (ap is_away (sym g) ∙ not_away s h))

pub walk_ends : (f : ℕ → Option Seen) (t : Option ℕ) → t ≡ None → Walked f t None
walk_ends f t e = rw e ends

-- THE KEY IN THE PAIRS THAT THE DEAL SEES
key_by : (f g : ℕ → Option ℕ) (k : ℕ) (o : Option ℕ) → ((j : ℕ) → f j ≡ g j) → IsKey f k o → IsKey g k o
key_by f g k o e (end h) = end (λ j l. sym (e j) ∙ h j l)
key_by f g k o e (at l x i h v) = at l x i (sym (e l) ∙ h) (λ j u w. sym (e j) ∙ v j u w)

pub onward_key : (t : Pairs) (q o : List Line) (k : ℕ) (first r : Option ℕ) → Rising t → SuccOk t q → SuccOk t o → first ≡ next_key k t → Onward q o k first r → r ≡ next_key k (with_lines (with_lines t q) o)
onward_key t q o k first r up okq oko e w =
    let b = with_lines (with_lines t q) o in
    let is : IsKey (viewed t q o) k r = rw w.least (next_key_lem t q o k up okq oko first w.over e w.walked) in
    key_only (λ j. find j b) k r (next_key k b) (key_by (viewed t q o) (λ j. find j b) k r (λ j. viewed_found t q o j up) is) (key_is k b (rising_lines (with_lines t q) o (rising_lines t q up)))

-- the word of the next key
pub next_none : (t : Pairs) (k : ℕ) → None ≡ next_key k t → None ≡ above k t
unfolding next_key
next_none t k e = no_key (above k t) e
  where
    no_key : (a : Option (ℕ × ℕ)) → None ≡ key_of a → None ≡ a
    no_key None e = refl
    no_key (Some p) e = cc

next_some : (t : Pairs) (k p x : ℕ) → Rising t → Some p ≡ next_key k t → Some x ≡ find p t → Some (p, x) ≡ above k t
unfolding next_key
next_some t k p x u e w = pair (above k t) (above_is k t u) e
  where
    pair : (a : Option (ℕ × ℕ)) → IsNext (λ j. find j t) k a → Some p ≡ key_of a → Some (p, x) ≡ a
    pair a (none h) z = cc
    pair a (some d i h v) z =
        let m : d.0 ≡ p = cc in
        let y : d.1 ≡ x = cc (ap (λ n. find n t) m) in
        ap Some (ap (λ n. (n, x)) (sym m) ∙ ap (λ n. (d.0, n)) (sym y))

next_there : (t : Pairs) (k p : ℕ) → Rising t → Some p ≡ next_key k t → None ≡ find p t → ⊥
next_there t k p u e w = stands (next_key k t) (key_is k t u) e
  where
    stands : (o : Option ℕ) → IsKey (λ j. find j t) k o → Some p ≡ o → ⊥
    stands o (end h) z = let y : ◌≡◌ {A = ℕ} 0 1 = cc in omega arith
    stands o (at l x i h v) z =
        let m : l ≡ p = cc in
        let y : ◌≡◌ {A = ℕ} 0 1 = cc (ap (λ n. find n t) m) in omega arith

pub next_word : (t : Pairs) (k p : ℕ) (o : Option ℕ) → Rising t → Some p ≡ next_key k t → o ≡ find p t → option_map (λ x. (p, x)) o ≡ above k t
next_word t k p None u e w = absurd (next_there t k p u e w)
next_word t k p (Some x) u e w = next_some t k p x u e w
