-- What a cut may leave of each page.
use Rattle.std.proofs.Common.{◌≡◌, ℕ, ◌<◌, ◌≤◌, ◌⊎◌, List, [], ◌∷◌, replicate, sym, ap, ◌∙◌, subst, inl, inr, arith}
use mathlib.Core.List.{Memᴰ}
use Rattle.std.proofs.lemmas.Bool.{cases_lt, cases_eq, lt-ltb, le-ltb}
use Rattle.deals.specs.Disk.{at, Within}
use Rattle.pages.specs.Pages.{page_at, pages_in}
use Rattle.memdisk.specs.declared.keeping.Entry.{Entry}
use Rattle.memdisk.specs.Entries.{entries_of, kept}
use Rattle.memdisk.specs.Memory.{may_of}
use Rattle.memdisk.proofs.Places.{at_same, at_other}
use Rattle.memdisk.proofs.Entries.{mem_kept}

pub may_here : (ws : List ℕ) (es : List Entry) (p : ℕ) → p < pages_in ws → may_of ws es p ≡ page_at ws p ∷ entries_of p es
may_here ws es p h = rw (lt-ltb p (pages_in ws) h)

may_past : (ws : List ℕ) (es : List Entry) (p : ℕ) → pages_in ws ≤ p → may_of ws es p ≡ []
may_past ws es p h = rw (le-ltb p (pages_in ws) h)

-- what may be left of a page is what it shows, or an entry of it
mem_may : (ws : List ℕ) (es : List Entry) (p : ℕ) (x : List ℕ) → Memᴰ x (may_of ws es p) → (p < pages_in ws) × ((x ≡ page_at ws p) ⊎ Memᴰ x (entries_of p es))
mem_may ws es p x m = elim (cases_lt p (pages_in ws)) [
  | inl h ↦ (h, mathlib.Core.List.Memᴰ.cases_cons (subst (Memᴰ x) (may_here ws es p h) m))
  | inr h ↦ absurd (mathlib.Core.List.Memᴰ.not-nil (subst (Memᴰ x) (may_past ws es p h) m))
]

may_mem : (ws : List ℕ) (es : List Entry) (p : ℕ) (x : List ℕ) → p < pages_in ws → (x ≡ page_at ws p) ⊎ Memᴰ x (entries_of p es) → Memᴰ x (may_of ws es p)
may_mem ws es p x h (inl e) = subst (Memᴰ x) (sym (may_here ws es p h)) (mathlib.Core.List.Memᴰ.head e)
may_mem ws es p x h (inr m) = subst (Memᴰ x) (sym (may_here ws es p h)) (mathlib.Core.List.Memᴰ.tail m)

-- with no entries only what is shown is left
pub within_shown : (ws : List ℕ) → Within (may_of ws []) (λ p. page_at ws p ∷ [])
unfolding entries_of
within_shown ws p x m = elim (mem_may ws [] p x m).1 [ inl e ↦ mathlib.Core.List.Memᴰ.head e | inr n ↦ absurd (mathlib.Core.List.Memᴰ.not-nil n) ]

-- An entry e of page p more, and maybe b shown there: b, and what could be left before.
pub within_kept : (ws vs b : List ℕ) (es : List Entry) (r p : ℕ) (e : Entry) → pages_in vs ≡ pages_in ws → e.page ≡ p → (e.words ≡ b) ⊎ (e.words ≡ page_at ws p) →
    ((q : ℕ) → (page_at vs q ≡ page_at ws q) ⊎ ((q ≡ p) × (page_at vs q ≡ b))) → Within (may_of vs (kept r e es)) (at p (b ∷ may_of ws es p) (may_of ws es))
within_kept ws vs b es r p e l z w s q x m =
    let h : q < pages_in ws = omega (arith, (mem_may vs (kept r e es) q x m).0) in
    elim (mem_may vs (kept r e es) q x m).1 [
      | inl y ↦ elim (s q) [ inl o ↦ older h (inl (y ∙ o)) | inr n ↦ newer n.0 (y ∙ n.1) ]
      | inr k ↦ elim (mem_kept q r e es x k) [ inl o ↦ older h (inr o) | inr n ↦ entry h (sym n.0 ∙ z) n.1 ]
    ]
  where
    newer : q ≡ p → x ≡ b → Memᴰ x (at p (b ∷ may_of ws es p) (may_of ws es) q)
    newer i y = subst (Memᴰ x) (sym (at_same p q (b ∷ may_of ws es p) (may_of ws es) i)) (mathlib.Core.List.Memᴰ.head y)

    older : q < pages_in ws → (x ≡ page_at ws q) ⊎ Memᴰ x (entries_of q es) → Memᴰ x (at p (b ∷ may_of ws es p) (may_of ws es) q)
    older h o = elim (cases_eq q p) [
      | inl i ↦ subst (Memᴰ x) (sym (at_same p q (b ∷ may_of ws es p) (may_of ws es) i)) (mathlib.Core.List.Memᴰ.tail (subst (λ q. Memᴰ x (may_of ws es q)) i (may_mem ws es q x h o)))
      | inr n ↦ subst (Memᴰ x) (sym (at_other p q (b ∷ may_of ws es p) (may_of ws es) n)) (may_mem ws es q x h o)
    ]

    entry : q < pages_in ws → q ≡ p → x ≡ e.words → Memᴰ x (at p (b ∷ may_of ws es p) (may_of ws es) q)
    entry h i y = elim w [ inl n ↦ newer i (y ∙ n) | inr o ↦ older h (inl (y ∙ o ∙ ap (page_at ws) (sym i))) ]

-- and with nought everywhere, noughts
pub within_zeros : (ws : List ℕ) (es : List Entry) → es ≡ [] → ((p : ℕ) → p < pages_in ws → page_at ws p ≡ replicate 512 0) → Within (may_of ws es) (λ p. replicate 512 0 ∷ [])
within_zeros ws es e z p x m =
    let n : Memᴰ x (may_of ws [] p) = subst (λ es. Memᴰ x (may_of ws es p)) e m in
    subst (λ y. Memᴰ x (y ∷ [])) (z p (mem_may ws [] p x n).0) (within_shown ws p x n)
