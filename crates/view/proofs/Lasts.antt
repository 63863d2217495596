-- The last line that says something of a key, found from the end on.
use Rattle.std.proofs.Common.{◌≡◌, ℕ, suc, true, List, [], ◌∷◌, ◌++◌, Some, None, Option, sym, ap, ◌∙◌, subst}
use Rattle.std.specs.Fn.{Called}
use Rattle.std.specs.Iterator.{Yields, YieldsThen, YieldsLast, FindsMapped}
use Rattle.std.specs.Iterator.Runs.{Run, SomeRun, YieldsRun, AllItemsGive}
use Rattle.std.specs.List.{FoldsTo, slice_get}
use Rattle.std.specs.Option.{IfSome, MatchOption}
use denote.Param.Members.{Mut}
use Rattle.lines.specs.declared.line.Line.{Line}
use Rattle.view.specs.declared.seen.Seen.{Seen}
use Rattle.view.specs.Sight.{seen_line, seen_in}
use Rattle.view.proofs.Looks.{over, seen_push, line_over}

-- each call tells what the line says, and changes nothing of what is called
module _ {F S : Type 0} (g : Mut F (Line × Unit {0}) (Option Seen)) (f : F) (rest : S → List Line) (j : ℕ)
    (acts : (x : Line) (r : Option Seen) (q : F) → Called g f (x, tt) r q → (q ≡ f) × (r ≡ seen_line j x None)) where
  at_end : (ls : List Line) (x : Line) (r : Option Seen) → r ≡ seen_line j x None → seen_in j (ls ++ x ∷ []) None ≡ over r (seen_in j ls None)
  at_end ls x r e = seen_push j ls x None ∙ (line_over j x (seen_in j ls None) ∙ ap (λ s. over s (seen_in j ls None)) (sym e))

  -- the lines xs from the end on say nothing, and then x says y
  hit : (s u : S) (xs : List Line) (x : Line) (y : Seen) (q h : F) → YieldsThen (YieldsLast rest) s xs (Some x) u
      → FoldsTo (λ p z k. Called g p (z, tt) None k) f xs q → Called g q (x, tt) (Some y) h → Some y ≡ seen_in j (rest s) None
  hit s u [] x y q h (t, e, last) fo ca =
      let k = acts x (Some y) h (subst (λ p. Called g p (x, tt) (Some y) h) (sym fo) ca) in
      sym (ap (λ z. seen_in j (rest z) None) e ∙ (ap (λ z. seen_in j z None) last ∙ at_end (rest u) x (Some y) k.1))
  hit s u (z ∷ xs) x y q h (t, (i, first, ys), last) (p, c, fo) ca =
      let k = acts z None p c in
      hit i u xs x y q h (t, ys, last) (subst (λ a. FoldsTo (λ p z k. Called g p (z, tt) None k) a xs q) k.0 fo) ca
      ∙ sym (ap (λ w. seen_in j w None) first ∙ at_end (rest i) z None k.1)

  -- all lines say nothing
  miss : (s t u : S) (xs : List Line) → Yields (YieldsLast rest) s xs t → YieldsLast rest t None u → ((k : ℕ) → IfSome (slice_get xs k) (λ x. Called g f (x, tt) None f)) → None ≡ seen_in j (rest s) None
  miss s t u [] e last all = sym (ap (λ z. seen_in j (rest z) None) e ∙ ap (λ w. seen_in j w None) last.0)
  miss s t u (z ∷ xs) (i, first, ys) last all =
      let k = acts z None f (all 0) in
      miss i t u xs ys last (λ n. all (suc n)) ∙ sym (ap (λ w. seen_in j w None) first ∙ at_end (rest i) z None k.1)

  pub last_found : (s u : S) (r : Option Seen) (P : Run (YieldsLast rest) → Seen → Type 0) → FindsMapped (YieldsLast rest) g s f r u
      → SomeRun (YieldsLast rest) s (λ p. MatchOption r ((p.whole ≡ true) × AllItemsGive p g f None) (P p)) → r ≡ seen_in j (rest s) None
  unfolding YieldsRun
  last_found s u (Some y) P (xs, None, q, ys, fo, e) run = cc
  last_found s u (Some y) P (xs, Some x, q, ys, fo, (h, ca)) run = hit s u xs x y q h ys fo ca
  last_found s u None P ran (p, from, (whole, all)) =
      let d = p.gave.0 in
      let e = d.2 whole in
      let none : (k : ℕ) → IfSome (slice_get p.items k) (λ x. Called g f (x, tt) None f) = λ k. subst (λ o. IfSome o (λ x. Called g f (x, tt) None f)) (p.gave.1 k) (all (λ a r q c. (acts a.0 r q c).0) k) in
      miss p.from d.0 e.0 p.items d.1 e.1 none ∙ ap (λ z. seen_in j (rest z) None) from
