-- What stands on a disk, and the office on it, as the power comes back and as clerks ask and are told.
use Rattle.std.proofs.Common.{◌≡◌, ℕ, zero, suc, ◌≤◌, ◌⊎◌, true, List, [], ◌∷◌, map, length, take, sym, refl, ap, ◌∙◌, subst, inl, inr, arith}
use Rattle.std.proofs.lemmas.List.{take_all}
use Rattle.lines.specs.declared.line.Line.{Line}
use Rattle.store.specs.declared.head.Record.{Record}
use Rattle.store.specs.Medium as store
use Rattle.store.specs.State.{State as StoreState, empty, Same}
use Rattle.store.proofs.Media.{blank_rested, blank_empty}
use Rattle.tree.specs.Tree.{pairs_of_tree, keys_end}
use Rattle.tree.proofs.Sizes.{rising_keys}
use Rattle.pager.specs.Ground.{pairs_by, still, Grounded}
use Rattle.pager.proofs.Grounds.{blank_ground}
use Rattle.view.specs.Writes.{Rising}
use Rattle.view.specs.Upkeep.{SuccOk}
use Rattle.view.proofs.Done.{rising_lines}
use Rattle.ledger.specs.declared.Ledger.{Ledger}
use Rattle.ledger.specs.Ledger.{Pairs, Lasts, Stands, Cut, CutEither, line_of, lasting, last_pairs, book_pairs, after, Fits, limit}
use Rattle.deals.specs.Disk.{Disk, Back, Blank}
use Rattle.deals.specs.Drives.{medium_of}
use Rattle.deals.specs.Deals.{Book, State, Quiet}
use Rattle.deals.specs.Promise.{can}
use Rattle.deals.specs.Books.{Up}
use Rattle.deals.specs.Rows.{bare, lines_from}
use Rattle.deals.specs.Tables.{lines_in, rest_of}
use Rattle.deals.specs.LineUps.{TablesHold}
use Rattle.deals.specs.Holds.{at_rest, is_over}
use Rattle.deals.specs.Sits.{sum_to, puts_in, Lasting, Sits}
use Rattle.deals.specs.Paired.{book_of}
use Rattle.deals.proofs.Apart.{agrees_none, nothing_bars}
use Rattle.deals.proofs.Drives.{back, blank}
use Rattle.deals.proofs.Telling.{up_book}
use Rattle.deals.proofs.Seating.{part_same, queue_same, stands_same}

pub book_long : (t : Pairs) → length (book_of t) ≡ length t
unfolding book_of
book_long [] = refl
book_long (e ∷ es) = ap suc (book_long es)

-- A BLANK DISK has an empty book
no_pairs : (r : StoreState) (n : ℕ) → Same n r empty → pairs_by r.root r.page ≡ []
unfolding pairs_of_tree
no_pairs r n e = ap (λ x. pairs_by x r.page) e.root

take_none : (i : ℕ) → take {A = Record} i [] ≡ []
take_none zero = refl
take_none (suc i) = refl

after_none : (t : Pairs) (rs : List Record) → t ≡ [] → rs ≡ [] → after t rs ≡ []
after_none t rs e f = rw (e, f) refl

fits_none : (n : ℕ) (t : Pairs) (rs : List Record) → t ≡ [] → rs ≡ [] → Fits n t rs
fits_none n t rs e f i = omega (arith, ap length (after_none t (take i rs) e (ap (take i) f ∙ take_none i)))

pub lasting_blank : (d : Disk) → Blank d → Lasting d.pages d []
unfolding book_of
lasting_blank d b =
    let m = medium_of d in
    let e = blank_empty m (blank b) in
    let t = no_pairs (lasting m) d.pages e in
    record {
      pairs = [];
      rests = record {
        rested = blank_rested m (blank b);
        lasts = record {
          pages = refl;
          big = b.0;
          small = b.1;
          ground = subst (λ r. Grounded d.pages r (lasting m).page) (sym e.root) (blank_ground d.pages (lasting m).page (omega (arith, b.0)));
          few = omega (arith, ap length e.queue);
          fits = fits_none (limit d.pages) (last_pairs m) (lasting m).queue t e.queue;
        };
        book = after_none (last_pairs m) (lasting m).queue t e.queue;
      };
      book = refl;
    }

-- THE POWER COMES BACK, after it went
pub lasting_back : (p : ℕ) (t : Pairs) (d e : Disk) → Cut p t (medium_of d) → Back d e → Lasting p e (book_of t)
lasting_back p t d e c b = record { pairs = t; rests = c.back (medium_of e) (back b); book = refl }

pub lasting_either : (p : ℕ) (t u : Pairs) (d e : Disk) → CutEither p t u (medium_of d) → Back d e → Lasting p e (book_of t) ⊎ Lasting p e (book_of u)
lasting_either p t u d e c b =
    elim (c.back (medium_of e) (back b)) [
      | inl r ↦ inl (record { pairs = t; rests = r; book = refl })
      | inr r ↦ inr (record { pairs = u; rests = r; book = refl })
    ]

-- keys rise in what has lasted
pub last_rising : (p : ℕ) (m : store.Medium) → Lasts p m → Rising (last_pairs m)
last_rising p m i = (keys_end, rising_keys (still p (lasting m).root (lasting m).page) (lasting m).root.height (lasting m).root.page i.ground.sound)

pub book_rising : (p : ℕ) (m : store.Medium) → Lasts p m → Rising (book_pairs m)
book_rising p m i = rising_lines (last_pairs m) (map line_of (lasting m).queue) (last_rising p m i)

-- and it isn't too long
pub book_fits : (p : ℕ) (m : store.Medium) → Lasts p m → length (book_pairs m) ≤ limit p
book_fits p m i = subst (λ rs. length (after (last_pairs m) rs) ≤ limit p) (take_all (length (lasting m).queue) (lasting m).queue (omega arith)) (i.fits (length (lasting m).queue))

-- THE OFFICE HAS OPENED: nobody has a deal
no_lines : (t : Pairs) (ls : List Line) → map bare ls ≡ [] → SuccOk t ls
no_lines t [] e = tt
no_lines t (l ∷ ls) e = absurd (omega (arith, ap length e))

no_sum : (n : ℕ) → sum_to n (λ _. 0) ≡ 0
unfolding sum_to
no_sum zero = refl
no_sum (suc n) = omega (arith, no_sum n)

pub sits_opened : (p : ℕ) (l : Ledger) (room : List ℕ) (d : Disk) (t : Pairs) → Stands p (medium_of d) room l t
    → ((s : State) → ((c : ℕ) → (s.clerk c).deal ≡ []) → ((c : ℕ) → (s.clerk c).now' ≡ Quiet) → TablesHold can true room s)
    → Sits p (record { ledger = l; tally = record { writes = 0; puts = 0 } }) room d (at_rest (book_of t))
unfolding lines_from is_over puts_in
sits_opened p l room d t i h =
    let s = at_rest (book_of t) in
    let k = h s (λ c. refl) (λ c. refl) in
    let m = medium_of d in
    record {
      seated = record {
        tables = k;
        apart = record { up = subst (λ u. Up 0 (book_of u)) i.book (up_book (book_pairs m) (book_rising p m i.lasts)); agree = λ c. agrees_none (book_of t); apart = λ c e n. nothing_bars [] };
        pairs = t;
        stands = i;
        book = refl;
        succs = λ c f. no_lines _ (lines_in room c) (k.desk c f).lines;
        records = omega (arith, no_sum 32, i.lasts.few);
        room_left = omega (arith, no_sum 32, book_long t, ap length i.book, book_fits p m i.lasts);
        writes = sym (no_sum 32);
        puts = sym (no_sum 32);
      };
      told = λ c. refl;
    }

-- the power went as it came up
pub lasting_cut : (p : ℕ) (t : Pairs) (b : Book) (d e : Disk) → book_of t ≡ b → Cut p t (medium_of d) → Back d e → Lasting p e b
lasting_cut p t b d e q c k = rw (sym q) (lasting_back p t d e c k)

-- the tables were cleared after the ledger came up
pub sits_raised : (p : ℕ) (l : Ledger) (room then : List ℕ) (d : Disk) (t : Pairs) (b : Book) → book_of t ≡ b → Stands p (medium_of d) room l t
    → ((s : State) → ((c : ℕ) → (s.clerk c).deal ≡ []) → ((c : ℕ) → (s.clerk c).now' ≡ Quiet) → TablesHold can true then s)
    → rest_of then ≡ rest_of room
    → Sits p (record { ledger = l; tally = record { writes = 0; puts = 0 } }) then d (at_rest b)
sits_raised p l room then d t b q i h rest =
    let long : length then ≡ length room = (h (at_rest b) (λ c. refl) (λ c. refl)).sound.wide ∙ sym i.ring.room in
    let stood = stands_same p (medium_of d) room then l t long (part_same room then rest) (queue_same room then l.queue rest) i in
    subst (λ x. Sits p (record { ledger = l; tally = record { writes = 0; puts = 0 } }) then d (at_rest x)) q (sits_opened p l then d t stood h)
