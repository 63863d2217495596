-- A turn, once its one clerk is served: what is left to show for the office to sit again.
use Rattle.std.proofs.Common.{◌≡◌, ℕ, zero, suc, ◌+◌, ◌*◌, ◌<◌, ◌≤◌, Bool, true, false, T, List, length, Some, None, Option, sym, refl, ap, ◌∙◌, subst, ap₂, inl, inr, arith}
use Rattle.std.proofs.lemmas.Bool.{cases_eq, lt-ltb, both_ways, eq-eqb, ne_eqb}
use Rattle.lines.specs.declared.line.Line.{Line}
use Rattle.view.specs.Upkeep.{SuccOk}
use Rattle.ledger.specs.Ledger.{now_pairs, limit}
use Rattle.pager.specs.Ground.{pairs_by}
use Rattle.pager.specs.Volume.{view_of}
use Rattle.deals.specs.declared.Op.{Op}
use Rattle.deals.specs.declared.Answer.{Answer}
use Rattle.deals.specs.declared.engine.Office.{Office}
use Rattle.deals.specs.Disk.{Disk}
use Rattle.deals.specs.Drives.{medium_of}
use Rattle.deals.specs.Deals.{Event, Said, State, Now, Quiet, Under, Over, set_clerk, aged, older, counts, young}
use Rattle.deals.specs.Promise.{can}
use Rattle.deals.specs.Writes.{effect}
use Rattle.deals.specs.Tables.{lines_in, rest_of, OnlyLines}
use Rattle.deals.specs.LineUps.{age_of, TablesHold}
use Rattle.deals.specs.Holds.{is_over, Tells, Alone, hears, Went}
use Rattle.deals.specs.Sits.{sum_to, puts_in, open_writes, open_puts, records_in, Apart, Seated, Sits, Worked}
use Rattle.deals.proofs.Apart.{apart_stays, apart_aged}
use Rattle.deals.proofs.Good.{every_all}
use Rattle.deals.proofs.Holding.{same_deal, holds_turns, holds_tells, holds_young}
use Rattle.deals.proofs.Ages.{set_same, set_other}
use Rattle.deals.proofs.Seating.{part_same, queue_same, stands_same, seated_like}

-- NOBODY IS OLD in the turn
young_low : (l : ℕ) (n : Now) → 33 ≤ l → age_of n ≤ 32 → T (young l n)
unfolding young age_of
young_low l Quiet h a = tt
young_low l (Under o g) h a = subst T (sym (lt-ltb g l (omega arith))) tt
young_low l (Over o a g) h b = subst T (sym (lt-ltb g l (omega arith))) tt

-- who isn't told is young by the order of asking
age_waits : (room : List ℕ) (s : State) (c : ℕ) (n : Now) → TablesHold can false room s → c < 32 → (s.clerk c).now' ≡ n → is_over n ≡ false → age_of n ≤ 32
unfolding age_of is_over
age_waits room s c Quiet i l e h = omega arith
age_waits room s c (Under o g) i l e h = holds_young can false room s c o g i l e
age_waits room s c (Over o a g) i l e h = absurd (both_ways true h refl)

age_all : (room : List ℕ) (s : State) (x : Option (ℕ × Answer)) → TablesHold can false room s → Alone x s → (c : ℕ) → c < 32 → age_of (s.clerk c).now' ≤ 32
age_all room s None i a c l = age_waits room s c (s.clerk c).now' i l refl (a c)
age_all room s (Some x) i a c l =
    elim (cases_eq c x.0) [
      | inl e ↦ rw e a.0
      | inr d ↦ age_waits room s c (s.clerk c).now' i l refl (a.1 c d)
    ]

over_older : (b : Bool) (n : Now) → is_over (older b n) ≡ is_over n
unfolding is_over older
over_older b n = grind arith

seated_aged : (p : ℕ) (f : Office) (room : List ℕ) (d : Disk) (s : State) → records_in d s ≤ 32768 → Seated false p f room d s → Seated true p f room d (aged can s)
seated_aged p f room d s few i = seated_like false true p f room room d s (aged can s) few i (holds_turns can room s i.tables) (apart_aged can s i.apart) refl (λ c. refl) (λ c l. refl) refl

seated_hears : (p : ℕ) (f : Office) (room : List ℕ) (d : Disk) (s : State) (c : ℕ) (o : Op) (a : Answer) (g : ℕ) → (s.clerk c).now' ≡ Over o a g → Seated true p f room d s → Seated true p f room d (set_clerk c (s.clerk c).deal Quiet s)
seated_hears p f room d s c o a g e i =
    let r = set_clerk c (s.clerk c).deal Quiet s in
    seated_like true true p f room room d s r i.records i (holds_tells can room s c o a g e i.tables) (apart_stays s c Quiet i.apart) refl (λ j. sym (same_deal s c Quiet j)) (λ j l. refl) refl

quiet_told : (s : State) (c e : ℕ) → ((e ≡ c → ⊥) → is_over (s.clerk e).now' ≡ false) → is_over ((set_clerk c (s.clerk c).deal Quiet s).clerk e).now' ≡ false
unfolding is_over
quiet_told s c e h =
    elim (cases_eq e c) [
      | inl q ↦ ap is_over (set_same s s.book c e (s.clerk c).deal Quiet q)
      | inr x ↦ ap is_over (set_other s s.book c e (s.clerk c).deal Quiet x) ∙ h x
    ]

heard : (p : ℕ) (f : Office) (room : List ℕ) (d : Disk) (s : State) (x : Option (ℕ × Answer)) → records_in d s ≤ 32768 → Seated false p f room d s → Tells x s → Alone x s → Sits p f room d (hears x (aged can s))
unfolding older
heard p f room d s None few i t a = record { seated = seated_aged p f room d s few i; told = λ c. over_older (counts can s c) (s.clerk c).now' ∙ a c }
heard p f room d s (Some x) few i t a =
    record {
      seated = seated_hears p f room d (aged can s) x.0 t.0 x.1 (t.1 + 1) (ap (older (counts can s x.0)) t.2) (seated_aged p f room d s few i);
      told = λ c. quiet_told (aged can s) x.0 c (λ h. over_older (counts can s c) (s.clerk c).now' ∙ a.1 c h);
    }

-- THE TURN ENDS
pub went : (p : ℕ) (es : List Event) (f : Office) (room : List ℕ) (d : Disk) (x : Option (ℕ × Answer)) → Worked p es f room d x → Went p es (Sits p f room d) x
went p es f room d x w =
    let i = w.answered in
    let s = i.to in
    record {
      to = s;
      run = i.run;
      prompt = every_all 32 (λ (c : ℕ). young (256 + 2 * length (s.clerk c).deal) (s.clerk c).now') (λ c l. young_low (256 + 2 * length (s.clerk c).deal) (s.clerk c).now' (omega arith) (age_all room s x i.seated.tables i.alone c l));
      tells = i.tells;
      stands = heard p f room d s x w.few i.seated i.tells i.alone;
    }

-- NOBODY COUNTS: nobody is served
pub seated_idle : (p : ℕ) (f : Office) (room : List ℕ) (d : Disk) (s : State) → Seated true p f room d s → TablesHold can false room s → Seated false p f room d s
seated_idle p f room d s i h = seated_like true false p f room room d s s i.records i h i.apart refl (λ c. refl) (λ c l. refl) refl

-- THE SUMS, as one deal is another
sum_below : (m : ℕ) (g h : ℕ → ℕ) (c : ℕ) → m ≤ c → ((e : ℕ) → (e ≡ c → ⊥) → h e ≡ g e) → sum_to m h ≡ sum_to m g
unfolding sum_to
sum_below zero g h c l f = refl
sum_below (suc m) g h c l f = ap₂ (λ x y. x + y) (sum_below m g h c (omega arith) f) (f m (λ q. omega arith))

pub sum_set : (n : ℕ) (g h : ℕ → ℕ) (c : ℕ) → c < n → ((e : ℕ) → (e ≡ c → ⊥) → h e ≡ g e) → sum_to n h + g c ≡ sum_to n g + h c
unfolding sum_to
sum_set zero g h c l f = absurd (omega arith)
sum_set (suc n) g h c l f =
    elim (cases_eq c n) [
      | inl e ↦ let z = sum_below n g h c (omega arith) f in omega (arith, z, ap g e, ap h e)
      | inr d ↦ let z = sum_set n g h c (omega (arith, d)) f in omega (arith, z, f n (λ q. d (sym q)))
    ]

set_deal : (s : State) (c : ℕ) (d : List Said) (n : Now) → ((set_clerk c d n s).clerk c).deal ≡ d
set_deal s c d n = rw (eq-eqb c c refl)

other_deal : (s : State) (c e : ℕ) (d : List Said) (n : Now) → (e ≡ c → ⊥) → ((set_clerk c d n s).clerk e).deal ≡ (s.clerk e).deal
other_deal s c e d n h = rw (ne_eqb e c h)

pub writes_set : (s : State) (c : ℕ) (d : List Said) (n : Now) → c < 32 → open_writes (set_clerk c d n s) + length (effect (s.clerk c).deal) ≡ open_writes s + length (effect d)
writes_set s c d n l =
    let r = set_clerk c d n s in
    omega (arith, sum_set 32 (λ e. length (effect (s.clerk e).deal)) (λ e. length (effect (r.clerk e).deal)) c l (λ e h. ap (λ x. length (effect x)) (other_deal s c e d n h)), ap (λ x. length (effect x)) (set_deal s c d n))

pub puts_set : (s : State) (c : ℕ) (d : List Said) (n : Now) → c < 32 → open_puts (set_clerk c d n s) + puts_in (effect (s.clerk c).deal) ≡ open_puts s + puts_in (effect d)
puts_set s c d n l =
    let r = set_clerk c d n s in
    omega (arith, sum_set 32 (λ e. puts_in (effect (s.clerk e).deal)) (λ e. puts_in (effect (r.clerk e).deal)) c l (λ e h. ap (λ x. puts_in (effect x)) (other_deal s c e d n h)), ap (λ x. puts_in (effect x)) (set_deal s c d n))

-- ONE IS SERVED, whose deal is d then, with the lines ls, on the same book
pub seated_served : (p : ℕ) (f g : Office) (room then : List ℕ) (d : Disk) (s : State) (c : ℕ) (deal : List Said) (n : Now) (ls : List Line) → Seated true p f room d s
    → g.ledger ≡ f.ledger → TablesHold can false then (set_clerk c deal n s) → Apart (set_clerk c deal n s)
    → OnlyLines c ls room then → SuccOk (now_pairs (medium_of d) room f.ledger) ls → rest_of then ≡ rest_of room
    → records_in d (set_clerk c deal n s) ≤ 32769 → length s.book + open_puts (set_clerk c deal n s) ≤ limit p
    → g.tally.writes ≡ open_writes (set_clerk c deal n s) → g.tally.puts ≡ open_puts (set_clerk c deal n s)
    → Seated false p g then d (set_clerk c deal n s)
seated_served p f g room then d s c deal n ls i e tables apart lines ok rest records left writes puts =
    let m = medium_of d in
    let r = set_clerk c deal n s in
    let long : length then ≡ length room = tables.sound.wide ∙ sym i.tables.sound.wide in
    let part = part_same room then rest in
    let tree : now_pairs m then f.ledger ≡ now_pairs m room f.ledger = ap (λ w. pairs_by f.ledger.store.root (view_of m w)) part in
    let stood = stands_same p m room then f.ledger i.pairs long part (queue_same room then f.ledger.queue rest) i.stands in
    record {
      tables = tables;
      apart = apart;
      pairs = i.pairs;
      stands = rw e stood;
      book = i.book;
      succs = λ j l. rw e
          (subst (λ t. SuccOk t (lines_in then j)) (sym tree)
          (elim (cases_eq j c) [
            | inl q ↦ rw (q, lines.here) ok
            | inr h ↦ rw (lines.there j l h) (i.succs j l)
          ]));
      records = records;
      room_left = left;
      writes = writes;
      puts = puts;
    }
