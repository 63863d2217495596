-- What holds in every run.
use Rattle.std.proofs.Common.{◌≡◌, ℕ, Bool, not, T, eqb, List, [], ◌∷◌, refl, ◌∙◌, inl, inr, T_not}
use lib.Dec.{eqb_refl}
use Rattle.std.proofs.lemmas.Bool.{eq-eqb, ne_eqb, cases_eq}
use Rattle.deals.specs.declared.Op.{Op}
use Rattle.deals.specs.declared.Op.TheVariants.{Commit, Undo}
use Rattle.deals.specs.Deals.{Said, Event, Now, Quiet, Under, State, Run, begin, asks, answers, commits, undoes, full, too_long, not_built, clashes, tells, turns, cuts, idle, older, set_clerk}
use Rattle.deals.specs.Promise.{KeysRise, none, one, OneAfterTheOther}
use Rattle.deals.proofs.Books.{Up, up_rising, and_t}
use Rattle.deals.proofs.Writes.{up_leaves}

pub run_up : (can : Op → Bool) (pages : ℕ) (es : List Event) (s : State) → Run can pages es s → Up 0 s.book
run_up can pages es s begin = tt
run_up can pages es s (asks c o r h q) = run_up can pages _ _ r
run_up can pages es s (answers c a r q m n l t) = run_up can pages _ _ r
run_up can pages es s (commits {s = s'} c r q t) = up_leaves s'.book (s'.clerk c).deal (run_up can pages _ _ r)
run_up can pages es s (undoes c r q) = run_up can pages _ _ r
run_up can pages es s (full c r q m i f) = run_up can pages _ _ r
run_up can pages es s (too_long c r q m n l) = run_up can pages _ _ r
run_up can pages es s (not_built c r q m) = run_up can pages _ _ r
run_up can pages es s (clashes c r q g) = run_up can pages _ _ r
run_up can pages es s (tells c r q) = run_up can pages _ _ r
run_up can pages es s (turns r y) = run_up can pages _ _ r
run_up can pages es s (cuts r) = run_up can pages _ _ r

pub keys_rise : KeysRise
keys_rise can pages es s r = up_rising 0 s.book (run_up can pages es s r)

pub one_after_the_other : OneAfterTheOther
one_after_the_other can pages es s begin = ([], none)
one_after_the_other can pages es s (asks c o r h q) = one_after_the_other can pages _ _ r
one_after_the_other can pages es s (answers c a r q m n l t) = one_after_the_other can pages _ _ r
one_after_the_other can pages es s (commits {s = s'} c r q t) =
    let m = one_after_the_other can pages _ _ r in ((s'.clerk c).deal ∷ m.0, one (s'.clerk c).deal m.1 t)
one_after_the_other can pages es s (undoes c r q) = one_after_the_other can pages _ _ r
one_after_the_other can pages es s (full c r q m i f) = one_after_the_other can pages _ _ r
one_after_the_other can pages es s (too_long c r q m n l) = one_after_the_other can pages _ _ r
one_after_the_other can pages es s (not_built c r q m) = one_after_the_other can pages _ _ r
one_after_the_other can pages es s (clashes c r q g) = one_after_the_other can pages _ _ r
one_after_the_other can pages es s (tells c r q) = one_after_the_other can pages _ _ r
one_after_the_other can pages es s (turns r y) = one_after_the_other can pages _ _ r
one_after_the_other can pages es s (cuts r) = one_after_the_other can pages _ _ r

-- WHO IS IDLE has nothing under way.
set_clerk_other : (c e : ℕ) (d : List Said) (n : Now) (s : State) → (c ≡ e → ⊥) → ((set_clerk e d n s).clerk c).now' ≡ (s.clerk c).now'
set_clerk_other c e d n s h = rw (ne_eqb c e h)

quiet_under : (s : State) (c e : ℕ) (o : Op) (g : ℕ) (d : List Said) (n : Now) → (s.clerk c).now' ≡ Quiet → (s.clerk e).now' ≡ Under o g → ((set_clerk e d n s).clerk c).now' ≡ Quiet
quiet_under s c e o g d n q u =
    elim (cases_eq c e) [
      | inl i ↦ let q' : (s.clerk e).now' ≡ Quiet = rw i at q in cc
      | inr h ↦ set_clerk_other c e d n s h ∙ q
    ]

pub idle_quiet : (can : Op → Bool) (pages : ℕ) (c : ℕ) (es : List Event) (s : State) → Run can pages es s → T (idle c es) → (s.clerk c).now' ≡ Quiet
unfolding idle older
idle_quiet can pages c es s begin t = refl
idle_quiet can pages c es s (asks {es = es'} {s = s'} e o r h q) t =
    let m = and_t (not (eqb c e)) (idle c es') t in
    set_clerk_other c e (s'.clerk e).deal (Under o 0) s' (λ i. T_not (eqb c e) m.0 (rw i (eqb_refl e))) ∙ idle_quiet can pages c es' s' r m.1
idle_quiet can pages c es s (answers {s = s'} {o} {g} e a r q m n l t') t = quiet_under s' c e o g _ _ (idle_quiet can pages c es s' r t) q
idle_quiet can pages c es s (commits {s = s'} {g} e r q t') t = quiet_under s' c e Commit g _ _ (idle_quiet can pages c es s' r t) q
idle_quiet can pages c es s (undoes {s = s'} {g} e r q) t = quiet_under s' c e Undo g _ _ (idle_quiet can pages c es s' r t) q
idle_quiet can pages c es s (full {s = s'} {o} {g} e r q m i f) t = quiet_under s' c e o g _ _ (idle_quiet can pages c es s' r t) q
idle_quiet can pages c es s (too_long {s = s'} {o} {g} e r q m n l) t = quiet_under s' c e o g _ _ (idle_quiet can pages c es s' r t) q
idle_quiet can pages c es s (not_built {s = s'} {o} {g} e r q m) t = quiet_under s' c e o g _ _ (idle_quiet can pages c es s' r t) q
idle_quiet can pages c es s (clashes {s = s'} {o} {g} e r q m) t = quiet_under s' c e o g _ _ (idle_quiet can pages c es s' r t) q
idle_quiet can pages c es s (tells {es = es'} {s = s'} e r q) t =
    elim (cases_eq c e) [
      | inl i ↦ rw (eq-eqb c e i)
      | inr h ↦ set_clerk_other c e (s'.clerk e).deal Quiet s' h ∙ idle_quiet can pages c es' s' r (rw (ne_eqb c e h) at t)
    ]
idle_quiet can pages c es s (turns {es = es'} {s = s'} r y) t = rw (idle_quiet can pages c es' s' r t)
idle_quiet can pages c es s (cuts r) t = refl
