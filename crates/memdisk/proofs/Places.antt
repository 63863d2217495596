-- What a write to one page of a slice leaves of each page.
use Rattle.std.proofs.Common.{◌≡◌, ℕ, ◌+◌, ◌-◌, ◌*◌, ◌<◌, List, length, take, drop, replicate, sym, ap, ◌∙◌, inl, inr, arith}
use mathlib.Core.Path.{fun_ext}
use Rattle.std.proofs.lemmas.Slice.{take-put_mid_below, drop-put_mid, between-put_mid}
use Rattle.std.proofs.lemmas.List.{drop-take, drop-replicate, take-replicate, length-replicate}
use Rattle.std.proofs.lemmas.Bool.{cases_order, eq-eqb, ne_eqb}
use Rattle.deals.specs.Disk.{at}
use Rattle.pages.specs.Pages.{page_at, pages_in, with_page}

pub at_same : {A : Type 0} (p q : ℕ) (x : A) (f : ℕ → A) → q ≡ p → at p x f q ≡ x
at_same p q x f e = rw (eq-eqb q p e)

pub at_other : {A : Type 0} (p q : ℕ) (x : A) (f : ℕ → A) → (q ≡ p → ⊥) → at p x f q ≡ f q
at_other p q x f ne = rw (ne_eqb q p ne)

page_same : (p : ℕ) (xs ys : List ℕ) → length ys ≡ 512 → p < pages_in xs → page_at (with_page xs p ys) p ≡ ys
page_same p xs ys l h =
    let n : (512 * p + 512) - 512 * p ≡ 512 = omega arith in
    ap (λ n. take n (drop (512 * p) (with_page xs p ys))) (sym n) ∙ between-put_mid (512 * p) 512 xs ys (512 * p + 512) (omega arith) (omega arith)

page_below : (p q : ℕ) (xs ys : List ℕ) → q < p → p < pages_in xs → page_at (with_page xs p ys) q ≡ page_at xs q
page_below p q xs ys l h =
    sym (drop-take (512 * q) 512 (with_page xs p ys)) ∙ ap (drop (512 * q)) (take-put_mid_below (512 * p) 512 xs ys (512 * q + 512) (omega arith) (omega arith)) ∙ drop-take (512 * q) 512 xs

page_above : (p q : ℕ) (xs ys : List ℕ) → length ys ≡ 512 → p < q → p < pages_in xs → page_at (with_page xs p ys) q ≡ page_at xs q
page_above p q xs ys n l h = ap (take 512) (drop-put_mid (512 * p) 512 xs ys (512 * q) (omega arith) (omega arith) (omega arith))

page_each : (p : ℕ) (xs ys : List ℕ) → length ys ≡ 512 → p < pages_in xs → (q : ℕ) → page_at (with_page xs p ys) q ≡ at p ys (page_at xs) q
page_each p xs ys l h q = elim (cases_order q p) [
  | inl s ↦ ap (page_at (with_page xs p ys)) s ∙ page_same p xs ys l h ∙ sym (at_same p q ys (page_at xs) s)
  | inr o ↦ elim o [
    | inl b ↦ page_below p q xs ys b h ∙ sym (at_other p q ys (page_at xs) (λ z. omega arith))
    | inr a ↦ page_above p q xs ys l a h ∙ sym (at_other p q ys (page_at xs) (λ z. omega arith))
  ]
]

pub page_put : (p : ℕ) (xs ys : List ℕ) → length ys ≡ 512 → p < pages_in xs → page_at (with_page xs p ys) ≡ at p ys (page_at xs)
page_put p xs ys l h = fun_ext (page_each p xs ys l h)

pub page_zeros : (ws : List ℕ) (n : ℕ) → ws ≡ replicate n 0 → (p : ℕ) → p < pages_in ws → page_at ws p ≡ replicate 512 0
page_zeros ws n e p h =
    let l : length ws ≡ n = ap length e ∙ length-replicate n 0 in
    ap (λ ws. take 512 (drop (512 * p) ws)) e ∙ ap (take 512) (drop-replicate (512 * p) n 0) ∙ take-replicate 512 (n - 512 * p) 0 (omega arith)
