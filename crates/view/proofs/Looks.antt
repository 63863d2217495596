-- What lines say of a key, one line more; and what is found by their writes.
use Rattle.std.proofs.Common.{◌≡◌, ℕ, false, eqb, List, [], ◌∷◌, ◌++◌, Some, None, Option, sym, refl, ap, ◌∙◌, inl, inr}
use Rattle.std.specs.List.{AllByRecursion}
use Rattle.std.proofs.lemmas.Bool.{cases_Bool, ne_eqb, eqb-true}
use Rattle.node.specs.Pairs.{find}
use Rattle.lines.specs.declared.line.Line.{Line}
use Rattle.lines.specs.declared.line.Line.TheVariants.{Idle, Wrote, Cleared, Stale, Read, Scanned, Marked}
use Rattle.view.specs.declared.seen.Seen.{Seen}
use Rattle.view.specs.declared.seen.Seen.TheVariants.{There, Away}
use Rattle.view.specs.Writes.{Puts, Drops, writes_in, with_lines, Rising}
use Rattle.view.specs.Sight.{seen_line, seen_in, as_found, is_there, says, viewed}
use Rattle.view.proofs.Found.{Pairs}
use Rattle.view.proofs.Done.{written, last_written, find_onto, rising_lines}
use Rattle.view.specs.Upkeep.{next_key, LineOk, SuccOk}

pub seen_push : (j : ℕ) (ls : List Line) (l : Line) (d : Option Seen) → seen_in j (ls ++ l ∷ []) d ≡ seen_line j l (seen_in j ls d)
seen_push j [] l d = refl
seen_push j (m ∷ ls) l d = seen_push j ls l (seen_line j m d)

-- the second where the first says nothing
abbrev pub over : Option Seen → Option Seen → Option Seen
over (Some s) d = Some s
over None d = d

over_line : (j : ℕ) (l : Line) (s d : Option Seen) → seen_line j l (over s d) ≡ over (seen_line j l s) d
over_line j Idle s d = refl
over_line j (Wrote k x) s d = elim (cases_Bool (eqb j k)) [ inl e ↦ rw e | inr e ↦ rw e ]
over_line j (Cleared k o) s d = elim (cases_Bool (eqb j k)) [ inl e ↦ rw e | inr e ↦ rw e ]
over_line j (Stale k) s d = refl
over_line j (Read k) s d = refl
over_line j (Scanned k q) s d = refl
over_line j Marked s d = refl

pub seen_over : (j : ℕ) (ls : List Line) (s d : Option Seen) → seen_in j ls (over s d) ≡ over (seen_in j ls s) d
seen_over j [] s d = refl
seen_over j (l ∷ ls) s d = rw (over_line j l s d) (seen_over j ls (seen_line j l s) d)

-- one line, that says something or nothing
pub line_over : (j : ℕ) (l : Line) (d : Option Seen) → seen_line j l d ≡ over (seen_line j l None) d
line_over j l d = over_line j l None d

pub says_over : (q o : List Line) (j : ℕ) → says q o j ≡ over (seen_in j o None) (seen_in j q None)
unfolding says
says_over q o j = seen_over j o None (seen_in j q None)

-- where the deal's own lines are silent, and where they are not
pub says_silent : (q o : List Line) (j : ℕ) → seen_in j o None ≡ None → says q o j ≡ seen_in j q None
says_silent q o j e = says_over q o j ∙ ap (λ x. over x (seen_in j q None)) e

pub says_spoken : (q o : List Line) (j : ℕ) → (seen_in j o None ≡ None → ⊥) → says q o j ≡ seen_in j o None
says_spoken q o j n = says_over q o j ∙ spoken (seen_in j o None) n
  where
    spoken : (s : Option Seen) → (s ≡ None → ⊥) → over s (seen_in j q None) ≡ s
    spoken None h = absurd (h refl)
    spoken (Some x) h = refl

-- what is found by the writes
put_found : (j k x : ℕ) (s : Option Seen) (d : Option ℕ) → written j (Puts k x) (as_found s d) ≡ as_found (seen_line j (Wrote k x) s) d
put_found j k x s d = elim (cases_Bool (eqb j k)) [ inl e ↦ rw e | inr e ↦ rw e ]

drop_found : (j k : ℕ) (o : Option ℕ) (s : Option Seen) (d : Option ℕ) → written j (Drops k) (as_found s d) ≡ as_found (seen_line j (Cleared k o) s) d
drop_found j k o s d = elim (cases_Bool (eqb j k)) [ inl e ↦ rw e | inr e ↦ rw e ]

pub found_line : (j : ℕ) (ls : List Line) (s : Option Seen) (d : Option ℕ) → last_written j (writes_in ls) (as_found s d) ≡ as_found (seen_in j ls s) d
found_line j [] s d = refl
found_line j (Idle ∷ ls) s d = found_line j ls s d
found_line j (Wrote k x ∷ ls) s d = ap (last_written j (writes_in ls)) (put_found j k x s d) ∙ found_line j ls (seen_line j (Wrote k x) s) d
found_line j (Cleared k o ∷ ls) s d = ap (last_written j (writes_in ls)) (drop_found j k o s d) ∙ found_line j ls (seen_line j (Cleared k o) s) d
found_line j (Stale k ∷ ls) s d = found_line j ls s d
found_line j (Read k ∷ ls) s d = found_line j ls s d
found_line j (Scanned k q ∷ ls) s d = found_line j ls s d
found_line j (Marked ∷ ls) s d = found_line j ls s d

pub viewed_is : (t : Pairs) (q o : List Line) (j : ℕ) → Rising t → viewed t q o j ≡ last_written j (writes_in o) (find j (with_lines t q))
unfolding viewed says
viewed_is t q o j u =
    sym (ap (last_written j (writes_in o)) (find_onto j t (writes_in q) u ∙ found_line j q None (find j t)) ∙ found_line j o (seen_in j q None) (find j t))

pub viewed_found : (t : Pairs) (q o : List Line) (j : ℕ) → Rising t → viewed t q o j ≡ find j (with_lines (with_lines t q) o)
viewed_found t q o j u = viewed_is t q o j u ∙ sym (find_onto j (with_lines t q) (writes_in o) (rising_lines t q u))

-- what lines say is dropped has the tree's first key above
abbrev pub SeenOk : Pairs → ℕ → Option Seen → Type 0
SeenOk b j (Some (There x)) = Unit {0}
SeenOk b j (Some (Away s)) = s ≡ next_key j b
SeenOk b j None = Unit {0}

ok_line : (b : Pairs) (j : ℕ) (l : Line) (d : Option Seen) → LineOk b l → SeenOk b j d → SeenOk b j (seen_line j l d)
ok_line b j Idle d h g = g
ok_line b j (Wrote k x) d h g = elim (cases_Bool (eqb j k)) [ inl e ↦ rw e tt | inr e ↦ rw e g ]
ok_line b j (Cleared k o) d h g = elim (cases_Bool (eqb j k)) [ inl e ↦ rw (e, eqb-true j k e) h | inr e ↦ rw e g ]
ok_line b j (Stale k) d h g = g
ok_line b j (Read k) d h g = g
ok_line b j (Scanned k q) d h g = g
ok_line b j Marked d h g = g

ok_in : (b : Pairs) (j : ℕ) (ls : List Line) (d : Option Seen) → SuccOk b ls → SeenOk b j d → SeenOk b j (seen_in j ls d)
ok_in b j [] d h g = g
ok_in b j (l ∷ ls) d h g = ok_in b j ls (seen_line j l d) h.1 (ok_line b j l d h.0 g)

pub ok_says : (b : Pairs) (q o : List Line) (j : ℕ) → SuccOk b q → SuccOk b o → SeenOk b j (says q o j)
unfolding says
ok_says b q o j h g = ok_in b j o (seen_in j q None) g (ok_in b j q None h tt)

-- where no line puts a key, it isn't there by them
abbrev pub NoPut : ℕ → Line → Type 0
NoPut j Idle = Unit {0}
NoPut j (Wrote k x) = j ≡ k → ⊥
NoPut j (Cleared k s) = Unit {0}
NoPut j (Stale k) = Unit {0}
NoPut j (Read k) = Unit {0}
NoPut j (Scanned k q) = Unit {0}
NoPut j Marked = Unit {0}

no_line : (j : ℕ) (l : Line) (d : Option Seen) → NoPut j l → is_there d ≡ false → is_there (seen_line j l d) ≡ false
no_line j Idle d h g = g
no_line j (Wrote k x) d h g = rw (ne_eqb j k h) g
no_line j (Cleared k o) d h g = elim (cases_Bool (eqb j k)) [ inl e ↦ rw e | inr e ↦ rw e g ]
no_line j (Stale k) d h g = g
no_line j (Read k) d h g = g
no_line j (Scanned k q) d h g = g
no_line j Marked d h g = g

no_in : (j : ℕ) (ls : List Line) (d : Option Seen) → AllByRecursion (NoPut j) ls → is_there d ≡ false → is_there (seen_in j ls d) ≡ false
no_in j [] d h g = g
no_in j (l ∷ ls) d h g = no_in j ls (seen_line j l d) h.1 (no_line j l d h.0 g)

pub no_says : (q o : List Line) (j : ℕ) → AllByRecursion (NoPut j) q → AllByRecursion (NoPut j) o → is_there (says q o j) ≡ false
unfolding says
no_says q o j h g = no_in j o (seen_in j q None) g (no_in j q None h refl)
