-- Who waits as deals stay and what is asked changes: who counts goes on counting until somebody is told.
use Rattle.std.proofs.Common.{◌≡◌, ℕ, zero, suc, Bool, false, not, ◌&&◌, ◌||◌, T, eqb, ltb, List, sym, refl, ap, ◌∙◌, ap₂, inl, inr, T_not, arith}
use mathlib.Core.Path.{fun_ext}
use lib.Dec.{not_T}
use Rattle.std.proofs.lemmas.Bool.{eq-eqb, ne_eqb, cases_eq}
use Rattle.deals.specs.declared.Op.{Op}
use Rattle.deals.specs.declared.Answer.{Answer}
use Rattle.deals.specs.Deals.{Said, Now, Quiet, Under, Over, State, set_clerk, aged, older, some', waits, waits_for, counts, comes_to, barred, told}
use Rattle.deals.proofs.Rings.{spread, reached, ring_is}

-- counts, by who waits for whom
abbrev pub counts_by : (ℕ → ℕ → Bool) → ℕ → Bool
counts_by w c = not (some' 32 (w c)) || reached 32 w (λ e. ltb e 32 && w c e) c

pub counts_is : (can : Op → Bool) (s : State) (c : ℕ) → counts can s c ≡ counts_by (waits can s) c
counts_is can s c = ap (λ x. not (some' 32 (waits can s c)) || x) (ring_is can s c)

-- more waits, more rings
and_grows : (x y u v : Bool) → (T x → T u) → (T y → T v) → T (x && y) → T (u && v)
and_grows x y u v f g t = grind arith

or_grows : (x y u v : Bool) → (T x → T u) → (T y → T v) → T (x || y) → T (u || v)
or_grows x y u v f g t = grind arith

pub some_grows : (n : ℕ) (f g : ℕ → Bool) → ((i : ℕ) → T (f i) → T (g i)) → T (some' n f) → T (some' n g)
unfolding some'
some_grows zero f g h t = t
some_grows (suc n) f g h t = or_grows (some' n f) (f n) (some' n g) (g n) (some_grows n f g h) (h n) t

spread_grows : (w v : ℕ → ℕ → Bool) (s r : ℕ → Bool) → ((d e : ℕ) → T (w d e) → T (v d e)) → ((e : ℕ) → T (s e) → T (r e)) → (e : ℕ) → T (spread w s e) → T (spread v r e)
spread_grows w v s r f g e = grind (arith, and_grows, or_grows, some_grows)

pub reached_grows : (n : ℕ) (w v : ℕ → ℕ → Bool) (s r : ℕ → Bool) → ((d e : ℕ) → T (w d e) → T (v d e)) → ((e : ℕ) → T (s e) → T (r e)) → (e : ℕ) → T (reached n w s e) → T (reached n v r e)
reached_grows zero w v s r f g e t = g e t
reached_grows (suc n) w v s r f g e t = reached_grows n w v (spread w s) (spread v r) f (spread_grows w v s r f g) e t

-- who counts goes on to, if it waits for the same and others wait for no less
pub counts_grows : (w v : ℕ → ℕ → Bool) (c : ℕ) → ((d e : ℕ) → T (w d e) → T (v d e)) → ((e : ℕ) → T (v c e) → T (w c e)) → T (counts_by w c) → T (counts_by v c)
counts_grows w v c f g =
    or_grows (not (some' 32 (w c))) (reached 32 w (λ e. ltb e 32 && w c e) c) (not (some' 32 (v c))) (reached 32 v (λ e. ltb e 32 && v c e) c)
    (λ t. not_T (some' 32 (v c)) (λ u. T_not (some' 32 (w c)) t (some_grows 32 (v c) (w c) g u)))
    (reached_grows 32 w v (λ e. ltb e 32 && w c e) (λ e. ltb e 32 && v c e) f (λ e. and_grows (ltb e 32) (w c e) (ltb e 32) (v c e) (λ t. t) (f c e)) c)

-- the same deals on the same book
pub record Like (s r : State) : Type 0 where
  pub book : s.book ≡ r.book
  pub deals : (j : ℕ) → (s.clerk j).deal ≡ (r.clerk j).deal

pub like_set : (s : State) (c : ℕ) (n : Now) → Like s (set_clerk c (s.clerk c).deal n s)
like_set s c n = record { book = refl; deals = λ j. elim (cases_eq j c) [ inl e ↦ rw (eq-eqb j c e, e) | inr d ↦ rw (ne_eqb j c d) ] }

pub waits_like : (can : Op → Bool) (s r : State) (c e : ℕ) (n : Now) → Like s r → waits_for can s c e n ≡ waits_for can r c e n
unfolding waits_for
waits_like can s r c e Quiet l = refl
waits_like can s r c e (Under o g) l =
    ap₂ ◌&&◌ (ap (λ d. not (eqb c e) && comes_to can o d) (l.deals c)) (ap₂ (λ a d. barred o a d) (ap₂ (told o) (l.deals c) l.book) (l.deals e))
waits_like can s r c e (Over o a g) l = refl

-- a turn changes nothing of this
waits_older : (can : Op → Bool) (s : State) (c e : ℕ) (y : Bool) (n : Now) → waits_for can s c e (older y n) ≡ waits_for can s c e n
unfolding waits_for older
waits_older can s c e y n = grind arith

pub waits_aged : (can : Op → Bool) (s : State) (c e : ℕ) → waits can (aged can s) c e ≡ waits can s c e
waits_aged can s c e = waits_like can (aged can s) s c e (older (counts can s c) (s.clerk c).now') (record { book = refl; deals = λ j. refl }) ∙ waits_older can s c e (counts can s c) (s.clerk c).now'

pub counts_aged : (can : Op → Bool) (s : State) (c : ℕ) → counts can (aged can s) c ≡ counts can s c
counts_aged can s c = counts_is can (aged can s) c ∙ ap (λ w. counts_by w c) (fun_ext (λ d. fun_ext (waits_aged can s d))) ∙ sym (counts_is can s c)

-- who isn't asking waits for nobody
waits_quiet : (can : Op → Bool) (s : State) (c e : ℕ) → (s.clerk c).now' ≡ Quiet → waits can s c e ≡ false
unfolding waits_for
waits_quiet can s c e q = rw q

waits_over : (can : Op → Bool) (s : State) (c e : ℕ) (o : Op) (a : Answer) (g : ℕ) → (s.clerk c).now' ≡ Over o a g → waits can s c e ≡ false
unfolding waits_for
waits_over can s c e o a g q = rw q

set_same : (s : State) (c : ℕ) (d : List Said) (n : Now) → ((set_clerk c d n s).clerk c).now' ≡ n
set_same s c d n = rw (eq-eqb c c refl)

set_other : (s : State) (c e : ℕ) (d : List Said) (n : Now) → (e ≡ c → ⊥) → ((set_clerk c d n s).clerk e).now' ≡ (s.clerk e).now'
set_other s c e d n h = rw (ne_eqb e c h)

waits_other : (can : Op → Bool) (s : State) (c : ℕ) (n : Now) (d e : ℕ) → (d ≡ c → ⊥) → waits can (set_clerk c (s.clerk c).deal n s) d e ≡ waits can s d e
waits_other can s c n d e h =
    ap (waits_for can (set_clerk c (s.clerk c).deal n s) d e) (set_other s c d (s.clerk c).deal n h) ∙ sym (waits_like can s (set_clerk c (s.clerk c).deal n s) d e (s.clerk d).now' (like_set s c n))

-- one is told what it was told
pub counts_told : (can : Op → Bool) (s : State) (c : ℕ) (o : Op) (a : Answer) (g : ℕ) (e : ℕ) → (s.clerk c).now' ≡ Over o a g → counts can (set_clerk c (s.clerk c).deal Quiet s) e ≡ counts can s e
counts_told can s c o a g e q =
    counts_is can (set_clerk c (s.clerk c).deal Quiet s) e ∙ ap (λ w. counts_by w e) (fun_ext (λ d. fun_ext (same d))) ∙ sym (counts_is can s e)
  where
    same : (d j : ℕ) → waits can (set_clerk c (s.clerk c).deal Quiet s) d j ≡ waits can s d j
    same d j =
        elim (cases_eq d c) [
          | inl i ↦ waits_quiet can (set_clerk c (s.clerk c).deal Quiet s) d j (rw i (set_same s c (s.clerk c).deal Quiet)) ∙ sym (waits_over can s d j o a g (rw i q))
          | inr h ↦ waits_other can s c Quiet d j h
        ]

-- one asks: who counted before still does
pub counts_asked : (can : Op → Bool) (s : State) (c : ℕ) (n : Now) (e : ℕ) → (s.clerk c).now' ≡ Quiet → (e ≡ c → ⊥) → T (counts can s e) → T (counts can (set_clerk c (s.clerk c).deal n s) e)
counts_asked can s c n e q h t =
    rw (counts_is can (set_clerk c (s.clerk c).deal n s) e)
    (counts_grows (waits can s) (waits can (set_clerk c (s.clerk c).deal n s)) e more (λ j u. rw (waits_other can s c n e j h) at u) (rw (counts_is can s e) at t))
  where
    more : (d j : ℕ) → T (waits can s d j) → T (waits can (set_clerk c (s.clerk c).deal n s) d j)
    more d j u =
        elim (cases_eq d c) [
          | inl i ↦ absurd (rw (waits_quiet can s d j (rw i q)) at u)
          | inr g ↦ rw (waits_other can s c n d j g) u
        ]
