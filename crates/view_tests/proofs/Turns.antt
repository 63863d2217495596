-- A row of steps, of which each may break off.
use Rattle.std.proofs.Common.{◌≡◌, List, [], ◌∷◌, Some, None, Option, sym, ap, ◌∙◌}
use Rattle.std.specs.List.{FoldsTo}
use Rattle.std.specs.Option.{MatchOption}

-- what each turn that goes on leaves of the total as it is, the row does
pub stays : {F A B C : Type 0} (of : B → C) (turn : F × B → A → F × B → Type 0) → ((p : F × B) (x : A) (q : F × B) → turn p x q → of q.1 ≡ of p.1) → (xs : List A) (p q : F × B) → FoldsTo turn p xs q → of q.1 ≡ of p.1
stays of turn acts [] p q e = sym (ap (λ z. of z.1) e)
stays of turn acts (x ∷ xs) p q (s, c, fo) = stays of turn acts xs s q fo ∙ acts p x s c

-- at the end, or where a turn broke off
pub chosen : {A : Type 0} (o : Option A) (N X : Type 0) (S : A → Type 0) → MatchOption o N S → (N → X) → ((x : A) → S x → X) → X
chosen None N X S m n s = n m
chosen (Some x) N X S m n s = s x m
