-- The clerks' tables, while the ledger is at work: their words stay, and their lines but for what they tell of the tree.
use Rattle.std.proofs.Common.{◌≡◌, ℕ, zero, suc, ◌+◌, ◌-◌, ◌*◌, ◌<◌, ◌≤◌, Bool, false, List, [], ◌∷◌, map, length, get_or, take, drop, sym, ap, ◌∙◌, subst, arith}
use Rattle.std.proofs.lemmas.List.{get_or-drop, length-append}
use Rattle.lines.specs.declared.line.Line.{Line}
use Rattle.lines.specs.Tables.{deal_ring, deal_lines, clerks_in}
use Rattle.lines.proofs.Circle.{length_lines}
use Rattle.view.specs.Upkeep.{SuccOk}
use Rattle.ledger.specs.declared.Ledger.{Ledger}
use Rattle.ledger.specs.Ledger.{now_pairs}
use Rattle.deals.specs.declared.Op.{Op}
use Rattle.deals.specs.declared.engine.Office.{Office}
use Rattle.deals.specs.Disk.{Disk}
use Rattle.deals.specs.Drives.{medium_of}
use Rattle.deals.specs.Deals.{Said, State, Under}
use Rattle.deals.specs.Promise.{can}
use Rattle.deals.specs.Rows.{bare}
use Rattle.deals.specs.Writes.{effect, write_in, writes_in}
use Rattle.deals.specs.Tables.{count_at, lines_in, waiting_in, Keeps}
use Rattle.deals.specs.LineUps.{LineUp, TablesHold}
use Rattle.deals.specs.Sits.{sum_to, open_writes, records_in, Seated, Toiled}
use Rattle.deals.proofs.Offs.{Kept, kept_op, kept_order}
use Rattle.deals.proofs.Effects.{table_writes}

module _ (room then : List ℕ) (e : clerks_in then ≡ clerks_in room) where
  word_same : (i : ℕ) → 259584 ≤ i → get_or then i 0 ≡ get_or room i 0
  word_same i h =
      let k : 259584 + (i - 259584) ≡ i = omega arith in
      ap (λ j. get_or then j 0) (sym k) ∙ sym (get_or-drop 259584 then (i - 259584) 0) ∙ ap (λ w. get_or w (i - 259584) 0) e ∙ get_or-drop 259584 room (i - 259584) 0 ∙ ap (λ j. get_or room j 0) k

  pub words_same : (p k : ℕ) → 259584 ≤ p → Kept p k room then
  words_same p k h i l g = word_same i (omega arith)

  pub count_kept : (c : ℕ) → count_at then c ≡ count_at room c
  count_kept c = word_same (259680 + c) (omega arith)

  -- all of the tables but the lines
  pub holds_kept : (also : Op → Bool) (more : Bool) (s : State) → length then ≡ length room
      → ((c : ℕ) → c < 32 → map bare (deal_lines then c (count_at room c)) ≡ map bare (deal_lines room c (count_at room c))) → TablesHold also more room s → TablesHold also more then s
  unfolding lines_in
  holds_kept also more s long lines i =
      let waiting : waiting_in then ≡ waiting_in room = word_same 259744 (omega arith) in
      record {
        sound = record {
          wide = long ∙ i.sound.wide;
          short = λ c l. rw (count_kept c) (i.sound.short c l);
          most = rw waiting i.sound.most;
          few = λ k l. rw (word_same (259712 + k) (omega arith)) (i.sound.few k (omega (arith, waiting)));
        };
        desk = λ c l. record { count = count_kept c ∙ (i.desk c l).count; lines = ap (λ n. map bare (deal_lines then c n)) (count_kept c) ∙ lines c l ∙ (i.desk c l).lines };
        asks = λ c l u. let g = i.asks c l u in (g.0, g.1 ∙ ap (λ o. Under o g.0) (sym (kept_op room then c (words_same (259584 + 3 * c) 3 (omega arith)))));
        line = subst (LineUp also more s) (sym (kept_order room then long (words_same 259712 33 (omega arith)))) i.line;
      }

-- no more writes are open than lines stand
write_few : (l : Line) → length (write_in l) ≤ 1
write_few l = grind arith

writes_few : (ls : List Line) → length (writes_in ls) ≤ length ls
unfolding writes_in
writes_few [] = omega arith
writes_few (l ∷ ls) = omega (arith, length-append (write_in l) (writes_in ls), write_few l, writes_few ls)

sum_few : (n : ℕ) (f : ℕ → ℕ) → ((c : ℕ) → c < n → f c ≤ 1024) → sum_to n f ≤ n * 1024
unfolding sum_to
sum_few zero f h = omega arith
sum_few (suc n) f h = omega (arith, sum_few n f (λ c l. h c (omega arith)), h n (omega arith))

deal_few : (room : List ℕ) (c : ℕ) (ss : List Said) → Keeps room c ss → count_at room c ≤ 1024 → length (effect ss) ≤ 1024
unfolding lines_in deal_lines
deal_few room c ss i h = omega (arith, ap length (table_writes room c ss i), writes_few (lines_in room c), length_lines (take 3072 (drop (3072 * c) room)) (deal_ring (count_at room c)), h)

pub open_few : (also : Op → Bool) (more : Bool) (room : List ℕ) (s : State) → TablesHold also more room s → open_writes s ≤ 32768
open_few also more room s i = omega (arith, sum_few 32 (λ c. length (effect (s.clerk c).deal)) (λ c l. deal_few room c (s.clerk c).deal (i.desk c l) (i.sound.short c l)))

-- THE LEDGER HAS WORKED
pub seated_toiled : (p : ℕ) (f : Office) (room then : List ℕ) (d e : Disk) (k : Ledger) (ns : List ℕ) (s : State) (i : Seated false p f room d s)
    → ((c : ℕ) → c < 32 → get_or ns c 0 ≡ count_at room c) → Toiled p (medium_of d) room f.ledger (medium_of e) then k ns f.tally.writes i.pairs
    → Seated false p (record { ledger = k; tally = f.tally }) then e s × (records_in e s ≤ 32768)
unfolding lines_in
seated_toiled p f room then d e k ns s i counts w =
    let u = w.kept in
    let few : records_in e s ≤ 32768 = omega (arith, w.brim (omega (arith, i.records, i.writes)), i.writes) in
    let same : (c : ℕ) → c < 32 → map bare (deal_lines then c (count_at room c)) ≡ map bare (deal_lines room c (count_at room c)) =
    λ c l. subst (λ n. map bare (deal_lines then c n) ≡ map bare (deal_lines room c n)) (counts c l) (u.deals c l) in (
      record {
        tables = holds_kept room then u.clerks can false s u.long same i.tables;
        apart = i.apart;
        pairs = i.pairs;
        stands = w.stands;
        book = i.book;
        succs = λ c l.
            let old : SuccOk (now_pairs (medium_of d) room f.ledger) (deal_lines room c (get_or ns c 0)) = rw (counts c l) (i.succs c l) in
            subst (λ n. SuccOk (now_pairs (medium_of e) then k) (deal_lines then c n)) (counts c l ∙ sym (count_kept room then u.clerks c)) (u.succs c l old);
        records = omega (arith, few);
        room_left = i.room_left;
        writes = i.writes;
        puts = i.puts;
      },
      few,
    )
