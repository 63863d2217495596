-- What a run says of its clerks, and how what is seen grows.
use Rattle.std.proofs.Common.{◌≡◌, ℕ, ◌<◌, Bool, true, false, cond, not, ◌&&◌, ◌||◌, T, eqb, List, ◌∷◌, Some, None, Option, sym, refl, ap, ◌∙◌, subst, inl, inr}
use Rattle.std.proofs.lemmas.Bool.{ne_eqb, cases_eq}
use Rattle.deals.specs.declared.Op.{Op}
use Rattle.deals.specs.declared.Answer.{Answer}
use Rattle.deals.specs.Disk.{Disk, Back, allowed}
use Rattle.deals.specs.Deals.{Book, Event, Asked, Told, Turned, Cut, Said, Quiet, Under, Clerk, State, set_clerk, aged, older, counts, idle, Comes, one, none, Run, begin, asks, answers, commits, undoes, full, too_long, not_built, clashes, tells, turns, cuts}
use Rattle.deals.specs.Promise.{can}
use Rattle.deals.specs.Holds.{Holds, HoldsBook, Tells, hears, Went}
use Rattle.deals.proofs.Good.{quiet≢under}

-- another clerk's doing
still : (s : State) {o : Op} {g : ℕ} (c e : ℕ) (x : Clerk) → (s.clerk c).now' ≡ Quiet → (s.clerk e).now' ≡ Under o g → (cond (eqb c e) x (s.clerk c)).now' ≡ Quiet
still s {o} {g} c e x q u =
    elim (cases_eq c e) [
      | inl i ↦ absurd (quiet≢under o g (sym q ∙ (rw i u)))
      | inr d ↦ rw (ne_eqb c e d) q
    ]

asking : (b : Bool) (s : State) (c : ℕ) (x : Clerk) (i : Bool) → T (not b && i) → (T i → (s.clerk c).now' ≡ Quiet) → (cond b x (s.clerk c)).now' ≡ Quiet
asking true s c x i t q = absurd t
asking false s c x i t q = q t

telling : (b : Bool) (s : State) (c : ℕ) (d : List Said) (i : Bool) → T (b || i) → (T i → (s.clerk c).now' ≡ Quiet) → (cond b (record { deal = d; now' = Quiet }) (s.clerk c)).now' ≡ Quiet
telling true s c d i t q = refl
telling false s c d i t q = q t

-- who is idle is quiet
pub quiet : {may : Op → Bool} {pages : ℕ} {es : List Event} {s : State} (c : ℕ) → Run may pages es s → T (idle c es) → (s.clerk c).now' ≡ Quiet
unfolding idle older
quiet c begin i = refl
quiet c (asks {es} {s} e o r l q) i = asking (eqb c e) s c _ (idle c es) i (quiet c r)
quiet c (answers {es} {s} e a r u _ _ _ _) i = still s c e _ (quiet c r i) u
quiet c (commits {es} {s} e r u _) i = still s c e _ (quiet c r i) u
quiet c (undoes {es} {s} e r u) i = still s c e _ (quiet c r i) u
quiet c (full {es} {s} e r u _ _ _) i = still s c e _ (quiet c r i) u
quiet c (too_long {es} {s} e r u _ _ _) i = still s c e _ (quiet c r i) u
quiet c (not_built {es} {s} e r u _) i = still s c e _ (quiet c r i) u
quiet c (clashes {es} {s} e r u _) i = still s c e _ (quiet c r i) u
quiet c (tells {es} {s} e r u) i = telling (eqb c e) s c _ (idle c es) i (quiet c r)
quiet {may} c (turns {es} {s} r y) i = ap (older (counts may s c)) (quiet c r i)
quiet c (cuts r) i = refl

-- what comes is asked
abbrev pub Came : Option (ℕ × Op) → List Event → List Event → Type 0
Came None es fs = fs ≡ es
Came (Some x) es fs = (x.0 < 32) × T (idle x.0 es) × (fs ≡ Asked x.0 x.1 ∷ es)

pub came : {r : Option (ℕ × Op)} {es fs : List Event} → Comes r es fs → Came r es fs
came (one c o es l i) = (l, i, refl)
came (none es) = refl

-- what is told after a turn
hearing : {pages : ℕ} {es : List Event} (c : ℕ) (a : Answer) (s : State) → Run can pages es (aged can s) → Tells (Some (c, a)) s → Run can pages (Told c a ∷ es) (hears (Some (c, a)) (aged can s))
unfolding older
hearing c a s r t = tells c r (ap (older (counts can s c)) t.2)

-- a clerk asks, or nobody does, and then the disk may be asked: P stands of the office f, the room r and the disk x
module _ {F : Type 0} (P : F → List ℕ → Disk → State → Type 0) (law : (f : F) (r : List ℕ) (x : Disk) (s : State) → P f r x s → P f r (allowed 512 x) s) where
  pub ready_one : {pages : ℕ} {es fs : List Event} {f f' f'' : F} {r r' r'' : List ℕ} {x y : Disk} (c : ℕ) (o : Op) → Holds pages es (P f r x) → Comes (Some (c, o)) es fs
      → ((s : State) → P f r x s → (s.clerk c).now' ≡ Quiet → P f' r' x (set_clerk c (s.clerk c).deal (Under o 0) s))
      → f'' ≡ f' → r'' ≡ r' → y ≡ allowed 512 x → Holds pages fs (P f'' r'' y)
  ready_one {pages} {es} {fs} {f} {f'} {f''} {r} {r'} {r''} {x} {y} c o (s, run, p) k ask i j e =
      let z : Came (Some (c, o)) es fs = came k in
      let q : (s.clerk c).now' ≡ Quiet = quiet c run z.1 in
      let s' : State = set_clerk c (s.clerk c).deal (Under o 0) s in
      let m : Run can pages fs s' = subst (λ (v : List Event). Run can pages v s') (sym z.2) (asks c o run z.0 q) in
      (s', m, rw (i, j, e) (law f' r' x s' (ask s p q)))

  pub ready_none : {pages : ℕ} {es fs : List Event} {o : Option (ℕ × Op)} {f f'' : F} {r r'' : List ℕ} {x y : Disk} → Holds pages es (P f r x) → o ≡ None → Comes o es fs
      → f'' ≡ f → r'' ≡ r → y ≡ allowed 512 x → Holds pages fs (P f'' r'' y)
  ready_none {pages} {es} {fs} {o} {f} {f''} {r} {r''} {x} {y} (s, run, p) n k i j e =
      let z : Came None es fs = subst (λ (v : Option (ℕ × Op)). Came v es fs) n (came k) in
      (s, subst (λ (v : List Event). Run can pages v s) (sym z) run, rw (i, j, e) (law f r x s p))

-- the same run, its pages and what is seen under other names
pub alike_run : {n m : ℕ} {es fs : List Event} {s : State} → m ≡ n → fs ≡ es → Run can n es s → Run can m fs s
alike_run {n} {m} {es} {fs} {s} i j r = subst (λ (v : ℕ). Run can v fs s) (sym i) (subst (λ (v : List Event). Run can n v s) (sym j) r)

-- a turn is noted, and what it brings is told
module _ {p : ℕ} {es : List Event} {P : State → Type 0} {x : Option (ℕ × Answer)} (w : Went p es P x) where
  pub noted : Run can p (Turned ∷ es) (aged can w.to)
  noted = turns w.run w.prompt

  pub told_one : (c : ℕ) (a : Answer) → x ≡ Some (c, a) → Run can p (Told c a ∷ Turned ∷ es) (hears x (aged can w.to))
  told_one c a i =
      subst (λ (y : Option (ℕ × Answer)). Run can p (Told c a ∷ Turned ∷ es) (hears y (aged can w.to))) (sym i)
      (hearing c a w.to noted (subst (λ (y : Option (ℕ × Answer)). Tells y w.to) i w.tells))

  pub told_none : x ≡ None → Run can p (Turned ∷ es) (hears x (aged can w.to))
  told_none i = subst (λ (y : Option (ℕ × Answer)). Run can p (Turned ∷ es) (hears y (aged can w.to))) (sym i) noted

-- the power comes back
pub anew : {p : ℕ} {es fs gs : List Event} (L : ℕ → Disk → Book → Type 0) {d d' e : Disk} → ((x : Disk) → Back d x → Holds p es (λ s. L p x s.book))
    → d' ≡ d → fs ≡ es → gs ≡ Cut ∷ fs → Back d' e → (q : ℕ) × HoldsBook q gs (L q e)
anew {p} {es} {fs} {gs} L {d} {d'} {e} falls i j k b =
    let h : Holds p es (λ s. L p e s.book) = falls e (subst (λ (x : Disk). Back x e) i b) in
    (p, (h.0.book, alike_run refl (k ∙ ap (λ (v : List Event). Cut ∷ v) j) (cuts h.1), h.2))
