-- The first key above another, in pairs that gain a key or lose one; and the lines that keep it.
use Rattle.std.proofs.Common.{◌≡◌, ℕ, zero, suc, ◌<◌, List, [], ◌∷◌, ◌++◌, map, Some, None, Option, sym, refl, ap, ◌∙◌, inl, inr, arith}
use Rattle.std.proofs.ByRecursion.{All-map, All-weaker, All-push}
use Rattle.std.proofs.lemmas.Bool.{cases_lt, cases_eq, cases_order, lt-ltb, le-ltb, eq-eqb, ne_eqb}
use Rattle.lines.specs.declared.line.Line.{Line}
use Rattle.lines.specs.declared.line.Line.TheVariants.{Idle, Wrote, Cleared, Stale, Read, Scanned, Marked}
use Rattle.lines.specs.Marks.{stale, backed}
use Rattle.view.specs.declared.kept.Change.{Change}
use Rattle.node.specs.Pairs.{find, above, put_in, drop_in}
use Rattle.view.specs.Writes.{Puts, Drops, onto, writes_in, with_lines, Rising}
use Rattle.view.proofs.Found.{Pairs, IsNext, none, some, above_is, rising_put, rising_drop, find_put_same, find_put_other, find_drop_same, find_drop_other}
use Rattle.view.specs.Upkeep.{key_of, next_key, gained, lost, change_by, kept_succ, kept_by, LineOk, SuccOk}

-- the first key above k at which something is found
pub data IsKey (f : ℕ → Option ℕ) (k : ℕ) : Option ℕ → Type 0 where
  end : ((j : ℕ) → k < j → f j ≡ None) → IsKey f k None
  at : (l x : ℕ) → k < l → f l ≡ Some x → ((j : ℕ) → k < j → j < l → f j ≡ None) → IsKey f k (Some l)

pub key_only : (f : ℕ → Option ℕ) (k : ℕ) (a c : Option ℕ) → IsKey f k a → IsKey f k c → a ≡ c
key_only f k a c (end h) (end h') = refl
key_only f k a c (end h) (at l x g e v) = cc (h l g, e)
key_only f k a c (at l x g e v) (end h) = cc (h l g, e)
key_only f k a c (at l x g e v) (at m y g' e' v') =
    elim (cases_order l m) [
      | inl i ↦ ap Some i
      | inr (inl i) ↦ cc (e, v' l g i)
      | inr (inr i) ↦ cc (e', v m g' i)
    ]

key_of_lem : (f : ℕ → Option ℕ) (k : ℕ) (a : Option (ℕ × ℕ)) → IsNext f k a → IsKey f k (key_of a)
key_of_lem f k a (none h) = end h
key_of_lem f k a (some e i h v) = at e.0 e.1 i h v

pub key_is : (k : ℕ) (t : Pairs) → Rising t → IsKey (λ j. find j t) k (next_key k t)
unfolding next_key
key_is k t u = key_of_lem (λ j. find j t) k (above k t) (above_is k t u)

-- a key more
module _ (f g : ℕ → Option ℕ) (m x k : ℕ) (has : g m ≡ Some x) (same : (j : ℕ) → (j ≡ m → ⊥) → g j ≡ f j) where
  gained_is : (o : Option ℕ) → IsKey f k o → IsKey g k (gained m k o)
  gained_is o (end h) =
      elim (cases_lt k m) [
        | inl i ↦ rw (lt-ltb k m i) (at m x i has (λ j u v. same j (λ e. omega arith) ∙ h j u))
        | inr i ↦ rw (le-ltb k m i) (end (λ j u. same j (λ e. omega arith) ∙ h j u))
      ]
  gained_is o (at l y i e v) =
      elim (cases_lt k m) [
        | inl a ↦ elim (cases_lt m l) [
          | inl c ↦ rw (lt-ltb k m a, lt-ltb m l c) (at m x a has (λ j u w. same j (λ q. omega arith) ∙ v j u (omega arith)))
          | inr c ↦ rw (lt-ltb k m a, le-ltb m l c) (elim (cases_eq l m) [
            | inl q ↦ at l x i (rw q has) (λ j u w. same j (λ r. omega arith) ∙ v j u w)
            | inr q ↦ at l y i (same l q ∙ e) (λ j u w. same j (λ r. omega arith) ∙ v j u w)
          ])
        ]
        | inr a ↦ rw (le-ltb k m a) (at l y i (same l (λ q. omega arith) ∙ e) (λ j u w. same j (λ r. omega arith) ∙ v j u w))
      ]

-- a key less
module _ (f g : ℕ → Option ℕ) (t k : ℕ) (gone : g t ≡ None) (same : (j : ℕ) → (j ≡ t → ⊥) → g j ≡ f j) where
  missing : (j : ℕ) → ((j ≡ t → ⊥) → f j ≡ None) → g j ≡ None
  missing j h = elim (cases_eq j t) [ inl e ↦ rw e gone | inr d ↦ same j d ∙ h d ]

  on : (n : Option ℕ) → k < t → ((j : ℕ) → k < j → j < t → f j ≡ None) → IsKey f t n → IsKey g k n
  on n i v (end h) = end (λ j u. missing j (λ d. elim (cases_lt j t) [ inl a ↦ v j u a | inr a ↦ h j (omega arith) ]))
  on n i v (at l x a e w) = at l x (omega arith) (same l (λ q. omega arith) ∙ e) (λ j u z. missing j (λ d. elim (cases_lt j t) [ inl c ↦ v j u c | inr c ↦ w j (omega arith) z ]))

  lost_is : (n o : Option ℕ) → IsKey f t n → IsKey f k o → IsKey g k (lost t n o)
  lost_is n o h (end r) = end (λ j u. missing j (λ d. r j u))
  lost_is n o h (at l y i e v) =
      elim (cases_eq l t) [
        | inl q ↦ rw (eq-eqb l t q) (on n (omega arith) (λ j u w. v j u (omega arith)) h)
        | inr q ↦ rw (ne_eqb l t q) (at l y i (same l q ∙ e) (λ j u w. missing j (λ d. v j u w)))
      ]

pub next_put : (k m x : ℕ) (t : Pairs) → Rising t → next_key k (put_in m x t) ≡ gained m k (next_key k t)
next_put k m x t u =
    key_only (λ j. find j (put_in m x t)) k (next_key k (put_in m x t)) (gained m k (next_key k t)) (key_is k (put_in m x t) (rising_put m x t u))
    (gained_is (λ j. find j t) (λ j. find j (put_in m x t)) m x k (find_put_same m x t) (λ j d. find_put_other j m x t d) (next_key k t) (key_is k t u))

pub next_drop : (k m : ℕ) (t : Pairs) → Rising t → next_key k (drop_in m t) ≡ lost m (next_key m t) (next_key k t)
next_drop k m t u =
    key_only (λ j. find j (drop_in m t)) k (next_key k (drop_in m t)) (lost m (next_key m t) (next_key k t)) (key_is k (drop_in m t) (rising_drop m t u))
    (lost_is (λ j. find j t) (λ j. find j (drop_in m t)) m k (find_drop_same m t u) (λ j d. find_drop_other j m t d) (next_key m t) (next_key k t) (key_is m t u) (key_is k t u))

-- a line goes into the tree
next_line : (k : ℕ) (l : Line) (t : Pairs) → Rising t → LineOk t l → next_key k (with_lines t (l ∷ [])) ≡ kept_succ (change_by l) k (next_key k t)
next_line k Idle t u h = refl
next_line k (Wrote m x) t u h = next_put k m x t u
next_line k (Cleared m s) t u h = next_drop k m t u ∙ ap (λ n. lost m n (next_key k t)) (sym h)
next_line k (Stale m) t u h = refl
next_line k (Read m) t u h = refl
next_line k (Scanned m q) t u h = refl
next_line k Marked t u h = refl

kept_line : (t : Pairs) (w : Line) → Rising t → LineOk t w → (l : Line) → LineOk t l → LineOk (with_lines t (w ∷ [])) (kept_by (change_by w) l)
kept_line t w u g Idle h = tt
kept_line t w u g (Wrote k x) h = tt
kept_line t w u g (Cleared k s) h = ap (kept_succ (change_by w) k) h ∙ sym (next_line k w t u g)
kept_line t w u g (Stale k) h = tt
kept_line t w u g (Read k) h = tt
kept_line t w u g (Scanned k q) h = tt
kept_line t w u g Marked h = tt

pub kept_succ_lem : (t : Pairs) (w : Line) (ls : List Line) → Rising t → LineOk t w → SuccOk t ls → SuccOk (with_lines t (w ∷ [])) (map (kept_by (change_by w)) ls)
kept_succ_lem t w ls u g h =
    let c = with_lines t (w ∷ []) in
    All-map (LineOk c) (kept_by (change_by w)) ls (All-weaker (LineOk t) (λ l. LineOk c (kept_by (change_by w) l)) (kept_line t w u g) ls h)

-- the writes stay
kept_writes : (h : Option Change) (ls : List Line) → writes_in (map (kept_by h) ls) ≡ writes_in ls
kept_writes h [] = refl
kept_writes h (Idle ∷ ls) = kept_writes h ls
kept_writes h (Wrote k x ∷ ls) = ap (λ ws. Puts k x ∷ ws) (kept_writes h ls)
kept_writes h (Cleared k s ∷ ls) = ap (λ ws. Drops k ∷ ws) (kept_writes h ls)
kept_writes h (Stale k ∷ ls) = kept_writes h ls
kept_writes h (Read k ∷ ls) = kept_writes h ls
kept_writes h (Scanned k q ∷ ls) = kept_writes h ls
kept_writes h (Marked ∷ ls) = kept_writes h ls

pub kept_lines : (t : Pairs) (h : Option Change) (ls : List Line) → with_lines t (map (kept_by h) ls) ≡ with_lines t ls
kept_lines t h ls = ap (onto t) (kept_writes h ls)

-- LINES COME, AND ARE GONE BACK OVER
pub more_ok : (t : Pairs) (ls : List Line) (l : Line) → SuccOk t ls → LineOk t l → SuccOk t (ls ++ l ∷ [])
more_ok t ls l h g = All-push (LineOk t) ls l h g

stale_ok : (t : Pairs) (l : Line) → LineOk t l → LineOk t (stale l)
stale_ok t Idle h = tt
stale_ok t (Wrote k x) h = tt
stale_ok t (Cleared k s) h = tt
stale_ok t (Stale k) h = tt
stale_ok t (Read k) h = tt
stale_ok t (Scanned k q) h = tt
stale_ok t Marked h = tt

pub back_ok : (t : Pairs) (n : ℕ) (ls : List Line) → SuccOk t ls → SuccOk t (backed n ls)
back_ok t n [] h = tt
back_ok t zero (l ∷ ls) h = (stale_ok t l h.0, back_ok t zero ls h.1)
back_ok t (suc n) (Idle ∷ ls) h = (tt, back_ok t (suc n) ls h.1)
back_ok t (suc n) (Wrote k x ∷ ls) h = (tt, back_ok t (suc n) ls h.1)
back_ok t (suc n) (Cleared k s ∷ ls) h = (h.0, back_ok t (suc n) ls h.1)
back_ok t (suc n) (Stale k ∷ ls) h = (tt, back_ok t (suc n) ls h.1)
back_ok t (suc n) (Read k ∷ ls) h = (tt, back_ok t (suc n) ls h.1)
back_ok t (suc n) (Scanned k q ∷ ls) h = (tt, back_ok t (suc n) ls h.1)
back_ok t (suc n) (Marked ∷ ls) h = (tt, back_ok t n ls h.1)
