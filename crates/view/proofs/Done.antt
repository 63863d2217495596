-- Writes done to pairs: what is found then, by the last write of the key.
use Rattle.std.proofs.Common.{◌≡◌, ℕ, cond, eqb, List, [], ◌∷◌, ◌++◌, Some, None, Option, refl, ap, ◌∙◌, inl, inr}
use Rattle.std.proofs.lemmas.Bool.{cases_eq, eq-eqb, ne_eqb}
use Rattle.node.specs.Pairs.{find}
use Rattle.lines.specs.declared.line.Line.{Line}
use Rattle.lines.specs.declared.line.Line.TheVariants.{Idle, Wrote, Cleared, Stale, Read, Scanned, Marked}
use Rattle.view.specs.Writes.{Write, Puts, Drops, apply, onto, writes_in, with_lines, Rising}
use Rattle.view.proofs.Found.{Pairs, rising_put, rising_drop, find_put_same, find_put_other, find_drop_same, find_drop_other}

abbrev pub written : ℕ → Write → Option ℕ → Option ℕ
written j (Puts k x) d = cond (eqb j k) (Some x) d
written j (Drops k) d = cond (eqb j k) None d

abbrev pub last_written : ℕ → List Write → Option ℕ → Option ℕ
last_written j [] d = d
last_written j (w ∷ ws) d = last_written j ws (written j w d)

rising_apply : (w : Write) (t : Pairs) → Rising t → Rising (apply w t)
rising_apply (Puts k x) t u = rising_put k x t u
rising_apply (Drops k) t u = rising_drop k t u

rising_onto : (t : Pairs) (ws : List Write) → Rising t → Rising (onto t ws)
rising_onto t [] u = u
rising_onto t (w ∷ ws) u = rising_onto (apply w t) ws (rising_apply w t u)

pub rising_lines : (t : Pairs) (ls : List Line) → Rising t → Rising (with_lines t ls)
rising_lines t ls u = rising_onto t (writes_in ls) u

find_apply : (j : ℕ) (w : Write) (t : Pairs) → Rising t → find j (apply w t) ≡ written j w (find j t)
find_apply j (Puts k x) t u =
    elim (cases_eq j k) [
      | inl e ↦ rw (eq-eqb j k e, e) (find_put_same k x t)
      | inr d ↦ rw (ne_eqb j k d) (find_put_other j k x t d)
    ]
find_apply j (Drops k) t u =
    elim (cases_eq j k) [
      | inl e ↦ rw (eq-eqb j k e, e) (find_drop_same k t u)
      | inr d ↦ rw (ne_eqb j k d) (find_drop_other j k t d)
    ]

pub find_onto : (j : ℕ) (t : Pairs) (ws : List Write) → Rising t → find j (onto t ws) ≡ last_written j ws (find j t)
find_onto j t [] u = refl
find_onto j t (w ∷ ws) u = find_onto j (apply w t) ws (rising_apply w t u) ∙ ap (last_written j ws) (find_apply j w t u)

-- ROWS OF WRITES, put together
pub writes_append : (a b : List Line) → writes_in (a ++ b) ≡ writes_in a ++ writes_in b
writes_append [] b = refl
writes_append (Idle ∷ a) b = writes_append a b
writes_append (Wrote k x ∷ a) b = ap (λ ws. Puts k x ∷ ws) (writes_append a b)
writes_append (Cleared k s ∷ a) b = ap (λ ws. Drops k ∷ ws) (writes_append a b)
writes_append (Stale k ∷ a) b = writes_append a b
writes_append (Read k ∷ a) b = writes_append a b
writes_append (Scanned k q ∷ a) b = writes_append a b
writes_append (Marked ∷ a) b = writes_append a b

onto_append : (t : Pairs) (a b : List Write) → onto t (a ++ b) ≡ onto (onto t a) b
onto_append t [] b = refl
onto_append t (w ∷ a) b = onto_append (apply w t) a b

pub lines_append : (t : Pairs) (a b : List Line) → with_lines t (a ++ b) ≡ with_lines (with_lines t a) b
lines_append t a b = ap (onto t) (writes_append a b) ∙ onto_append t (writes_in a) (writes_in b)

pub lines_front : (t : Pairs) (l : Line) (ls : List Line) → with_lines t (l ∷ ls) ≡ with_lines (with_lines t (l ∷ [])) ls
lines_front t l ls = lines_append t (l ∷ []) ls
