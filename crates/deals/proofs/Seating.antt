-- The office as a clerk asks, is turned away and told, and as turns go: the ledger and the deals stay as they are.
use Rattle.std.proofs.Common.{◌≡◌, ℕ, zero, suc, ◌+◌, ◌≤◌, Bool, true, false, cond, List, map, length, take, drop, sym, refl, ap, ◌∙◌, subst, ap₂, inl, inr, arith}
use Rattle.std.proofs.lemmas.List.{drop-take, take-take, drop-drop}
use Rattle.std.proofs.lemmas.Bool.{cases_eq}
use Rattle.lines.specs.declared.ring.Ring.{Ring}
use Rattle.lines.specs.Lines.{bare}
use Rattle.lines.specs.Rings.{lines_of}
use Rattle.lines.specs.Tables.{queue_lines}
use Rattle.store.specs.Medium.{Medium}
use Rattle.store.specs.Store.{Intact, next}
use Rattle.store.specs.State.{queue_by}
use Rattle.pager.specs.Ground.{pairs_by, Grounded}
use Rattle.pager.specs.Volume.{view_of}
use Rattle.view.specs.Upkeep.{SuccOk}
use Rattle.ledger.specs.declared.Ledger.{Ledger}
use Rattle.ledger.specs.Ledger.{Pairs, Stands, part_of, now_pairs, lasting}
use Rattle.deals.specs.declared.Op.{Op}
use Rattle.deals.specs.declared.engine.Office.{Office}
use Rattle.deals.specs.Disk.{Disk}
use Rattle.deals.specs.Drives.{medium_of}
use Rattle.deals.specs.Deals.{Said, State, Now, Under, set_clerk}
use Rattle.deals.specs.Promise.{can}
use Rattle.deals.specs.Writes.{effect}
use Rattle.deals.specs.Tables.{lines_in, rest_of, SameLines}
use Rattle.deals.specs.LineUps.{TablesHold}
use Rattle.deals.specs.Holds.{is_over}
use Rattle.deals.specs.Sits.{sum_to, puts_in, open_writes, open_puts, records_in, Apart, Seated, Sits}
use Rattle.deals.proofs.Apart.{apart_stays}
use Rattle.deals.proofs.Holding.{same_deal}
use Rattle.deals.proofs.Ages.{set_same, set_other}

-- THE QUEUE AND THE STORE'S PART are what isn't the clerks'
part_rest : (room : List ℕ) → part_of room ≡ take 62976 (drop 98304 (rest_of room))
unfolding rest_of
part_rest room =
    let a : drop 98304 (take 161280 (drop 98304 room)) ≡ take 62976 (drop 98304 (drop 98304 room)) = drop-take 98304 62976 (drop 98304 room) in
    let b : drop 98304 (drop 98304 room) ≡ drop 196608 room = drop-drop 98304 98304 room in
    let c : take 62976 (take 62976 (drop 98304 (drop 98304 room))) ≡ take 62976 (drop 98304 (drop 98304 room)) = take-take 62976 62976 (drop 98304 (drop 98304 room)) (omega arith) in
    sym (ap (take 62976) a ∙ c ∙ ap (take 62976) b)

pub part_same : (room then : List ℕ) → rest_of then ≡ rest_of room → part_of then ≡ part_of room
part_same room then e = part_rest then ∙ ap (λ w. take 62976 (drop 98304 w)) e ∙ sym (part_rest room)

queue_rest : (room : List ℕ) (r : Ring) → queue_lines room r ≡ lines_of (take 98304 (rest_of room)) r
unfolding rest_of queue_lines
queue_rest room r = ap (λ w. lines_of w r) (sym (take-take 98304 161280 (drop 98304 room) (omega arith)))

pub queue_same : (room then : List ℕ) (r : Ring) → rest_of then ≡ rest_of room → queue_lines then r ≡ queue_lines room r
queue_same room then r e = queue_rest then r ∙ ap (λ w. lines_of (take 98304 w) r) e ∙ sym (queue_rest room r)

-- the ledger stands in the room as long as both are as they were
pub stands_same : (p : ℕ) (m : Medium) (room then : List ℕ) (l : Ledger) (t : Pairs) → length then ≡ length room → part_of then ≡ part_of room → queue_lines then l.queue ≡ queue_lines room l.queue
    → Stands p m room l t → Stands p m then l t
stands_same p m room then l t long e f i =
    record {
      lasts = i.lasts;
      book = i.book;
      intact = subst (λ w. Intact m w l.store) (sym e) i.intact;
      sealed = subst (λ w. queue_by (next w) m.shown ≡ (lasting m).queue) (sym e) i.sealed;
      ground = subst (λ w. Grounded p l.store.root (view_of m w)) (sym e) i.ground;
      done = i.done;
      tree = tree_same ∙ i.tree;
      ring = record { room = long ∙ i.ring.room; cap = i.ring.cap; start = i.ring.start; count = i.ring.count };
      queue = ap (map bare) f ∙ i.queue;
      succs = subst (λ u. SuccOk u (queue_lines then l.queue)) (sym tree_same) (subst (SuccOk (now_pairs m room l)) (sym f) i.succs);
      begun = i.begun;
    }
  where
    tree_same : now_pairs m then l ≡ now_pairs m room l
    tree_same = ap (λ w. pairs_by l.store.root (view_of m w)) e

pub sum_same : (n : ℕ) (f g : ℕ → ℕ) → ((c : ℕ) → f c ≡ g c) → sum_to n f ≡ sum_to n g
unfolding sum_to
sum_same zero f g h = refl
sum_same (suc n) f g h = ap₂ (λ x y. x + y) (sum_same n f g h) (h n)

brim : (b : Bool) (n : ℕ) → n ≤ 32768 → n ≤ cond b 32768 32769
brim b n h = grind arith

-- ANOTHER STATE, with the same deals on the same book, and perhaps other tables of the clerks
pub seated_like : (more also : Bool) (p : ℕ) (f : Office) (room then : List ℕ) (d : Disk) (s r : State) → records_in d s ≤ 32768 → Seated more p f room d s → TablesHold can also then r → Apart r
    → r.book ≡ s.book → ((c : ℕ) → (r.clerk c).deal ≡ (s.clerk c).deal) → SameLines room then → rest_of then ≡ rest_of room
    → Seated also p f then d r
seated_like more also p f room then d s r few i tables apart book deals lines rest =
    let m = medium_of d in
    let long : length then ≡ length room = tables.sound.wide ∙ sym i.tables.sound.wide in
    let part = part_same room then rest in
    let tree : now_pairs m then f.ledger ≡ now_pairs m room f.ledger = ap (λ w. pairs_by f.ledger.store.root (view_of m w)) part in
    let writes : open_writes r ≡ open_writes s = sum_same 32 (λ c. length (effect (r.clerk c).deal)) (λ c. length (effect (s.clerk c).deal)) (λ c. ap (λ x. length (effect x)) (deals c)) in
    let puts : open_puts r ≡ open_puts s = sum_same 32 (λ c. puts_in (effect (r.clerk c).deal)) (λ c. puts_in (effect (s.clerk c).deal)) (λ c. ap (λ x. puts_in (effect x)) (deals c)) in
    record {
      tables = tables;
      apart = apart;
      pairs = i.pairs;
      stands = stands_same p m room then f.ledger i.pairs long part (queue_same room then f.ledger.queue rest) i.stands;
      book = i.book ∙ sym book;
      succs = λ c l. subst (λ t. SuccOk t (lines_in then c)) (sym tree) (subst (SuccOk (now_pairs m room f.ledger)) (sym (lines c l)) (i.succs c l));
      records = brim also (records_in d r) (omega (arith, writes, few));
      room_left = omega (arith, puts, ap length book, i.room_left);
      writes = i.writes ∙ sym writes;
      puts = i.puts ∙ sym puts;
    }

-- ONE ASKS, who has nothing under way
now_set : (s : State) (c e : ℕ) (d : List Said) (n : Now) → is_over n ≡ false → is_over (s.clerk e).now' ≡ false → is_over ((set_clerk c d n s).clerk e).now' ≡ false
now_set s c e d n h i =
    elim (cases_eq e c) [
      | inl q ↦ ap is_over (set_same s s.book c e d n q) ∙ h
      | inr x ↦ ap is_over (set_other s s.book c e d n x) ∙ i
    ]

pub sits_asks : (p : ℕ) (f : Office) (room then : List ℕ) (d : Disk) (s : State) (c : ℕ) (o : Op) → Sits p f room d s → TablesHold can true then (set_clerk c (s.clerk c).deal (Under o 0) s)
    → SameLines room then → rest_of then ≡ rest_of room → Sits p f then d (set_clerk c (s.clerk c).deal (Under o 0) s)
unfolding is_over
sits_asks p f room then d s c o i tables lines rest =
    let r = set_clerk c (s.clerk c).deal (Under o 0) s in
    record {
      seated = seated_like true true p f room then d s r i.seated.records i.seated tables (apart_stays s c (Under o 0) i.seated.apart) refl (λ e. sym (same_deal s c (Under o 0) e)) lines rest;
      told = λ e. now_set s c e (s.clerk c).deal (Under o 0) refl (i.told e);
    }
