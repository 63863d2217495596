-- The other lines stay as they were where one is written.
use Rattle.std.proofs.Common.{◌≡◌, ℕ, ◌+◌, ◌*◌, ◌≤◌, ◌≢◌, List, length, get_or, ap, ◌∙◌, arith}
use borrow.Rule.Slice.PartMut.{put_mid}
use Rattle.std.proofs.lemmas.List.{places}
use Rattle.lines.specs.Lines.{line_of, line_at}

same3 : {t a b u c d : ℕ} → t ≡ u → a ≡ c → b ≡ d → line_of t a b ≡ line_of u c d
same3 {t} {a} {b} {u} {c} {d} p q r = ap (λ x. line_of x a b) p ∙ ap (λ x. line_of u x b) q ∙ ap (λ x. line_of u c x) r

-- ys are the three words of line i
module _ (w ys : List ℕ) (i k : ℕ) (part : k ≡ 3) (same : length ys ≡ k) (fits : 3 * i + 3 ≤ length w) where
  kept : (q : ℕ) → q ≢ 3 * i → q ≢ 3 * i + 1 → q ≢ 3 * i + 2 → get_or (put_mid (3 * i) k w ys) q 0 ≡ get_or w q 0
  kept q e f g = grind (arith, places)

  pub other : (j : ℕ) → j ≢ i → line_at (put_mid (3 * i) k w ys) j ≡ line_at w j
  other j ne = same3
      (kept (3 * j) (λ e. ne (omega arith)) (λ e. ne (omega arith)) (λ e. ne (omega arith)))
      (kept (3 * j + 1) (λ e. ne (omega arith)) (λ e. ne (omega arith)) (λ e. ne (omega arith)))
      (kept (3 * j + 2) (λ e. ne (omega arith)) (λ e. ne (omega arith)) (λ e. ne (omega arith)))
