-- The lines of a deal as one more is told, and as it goes back to a mark.
use Rattle.std.proofs.Common.{◌≡◌, ℕ, zero, suc, ◌+◌, cond, List, [], ◌∷◌, ◌++◌, map, Option, sym, refl, ap, ◌∙◌, ap₂, add-one, arith}
use Rattle.std.proofs.lemmas.List.{map_push}
use Rattle.deals.specs.declared.Op.{Op}
use Rattle.deals.specs.declared.Op.TheVariants.{Back}
use Rattle.deals.specs.declared.Answer.{Answer}
use Rattle.lines.specs.declared.line.Line.{Line}
use Rattle.lines.specs.declared.ring.Ring.{Ring}
use Rattle.lines.specs.Marks.{stale, backed}
use Rattle.lines.specs.Tables.{deal_ring}
use Rattle.lines.proofs.Going.{is_mark}
use Rattle.deals.specs.Deals.{Said}
use Rattle.deals.specs.Rows.{line_for, with_above, gone_by, then_lines, lines_from, said_lines, bare}

-- as long as a mark stays, lines do
pub back_on : (n : ℕ) (l : Line) (ls : List Line) → backed (suc n) (l ∷ ls) ≡ l ∷ backed (cond (is_mark l) n (suc n)) ls
back_on n l ls = grind arith

-- what a line says of the tree doesn't matter
pub bare_mark : (l : Line) → is_mark (bare l) ≡ is_mark l
bare_mark l = grind arith

bare_stale : (l : Line) → bare (stale l) ≡ stale (bare l)
bare_stale l = grind arith

bare_backed : (n : ℕ) (ls : List Line) → map bare (backed n ls) ≡ backed n (map bare ls)
bare_backed n [] = refl
bare_backed zero (l ∷ ls) = grind (arith, bare_stale, bare_backed zero ls)
bare_backed (suc n) (l ∷ ls) = grind (arith, back_on, bare_mark, bare_backed (cond (is_mark l) n (suc n)) ls)

bare_gone : (o : Op) (ls : List Line) → map bare (gone_by o ls) ≡ gone_by o (map bare ls)
bare_gone o ls = grind (arith, bare_backed)

pub gone_none : (o : Op) (ls : List Line) → ((j : ℕ) → o ≡ Back j → ⊥) → gone_by o ls ≡ ls
gone_none o ls h = grind arith

-- ONE MORE IS TOLD
said_push : (ls : List Line) (ss : List Said) (s : Said) → lines_from ls (ss ++ s ∷ []) ≡ then_lines s (lines_from ls ss)
unfolding lines_from
said_push ls [] s = refl
said_push ls (r ∷ ss) s = said_push (then_lines r ls) ss s

pub bare_push : (ls : List Line) (ss : List Said) (s : Said) (l : Line) → map bare ls ≡ said_lines ss → bare l ≡ line_for s.op s.told → map bare (gone_by s.op ls ++ l ∷ []) ≡ said_lines (ss ++ s ∷ [])
bare_push ls ss s l e b =
    map_push bare (gone_by s.op ls) l ∙ ap₂ (λ x y. x ++ y ∷ []) (bare_gone s.op ls ∙ ap (gone_by s.op) e) b ∙ sym (said_push [] ss s)

-- what a line says of the tree doesn't show
pub bare_line : (above : Option ℕ) (o : Op) (a : Answer) → bare (with_above above (line_for o a)) ≡ line_for o a
bare_line above o a = grind arith

pub gone_back : (o : Op) (j : ℕ) (ls : List Line) → o ≡ Back j → gone_by o ls ≡ backed (j + 1) ls
gone_back o j ls e = rw e (ap (λ n. backed n ls) (sym (add-one j)))

pub ring_is : (r : Ring) (n : ℕ) → r.cap ≡ 1024 → r.start ≡ 0 → r.count ≡ n → r ≡ deal_ring n
ring_is r n c s e = grind arith
