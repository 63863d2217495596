-- The ledger was looked at: all stands as before.
use Rattle.std.proofs.Common.{◌≡◌, ℕ, ◌+◌, ◌*◌, ◌<◌, true, List, map, length, sym, ap, ◌∙◌, subst, arith}
use Rattle.locks.specs.declared.graph.Pick.{Pick}
use Rattle.lines.specs.Tables.{deal_lines}
use Rattle.view.specs.Upkeep.{SuccOk}
use Rattle.ledger.specs.declared.Ledger.{Ledger}
use Rattle.ledger.specs.Ledger.{now_pairs}
use Rattle.deals.specs.declared.Op.{Op}
use Rattle.deals.specs.declared.engine.Office.{Office}
use Rattle.deals.specs.Disk.{Disk}
use Rattle.deals.specs.Drives.{medium_of}
use Rattle.deals.specs.Deals.{Event, State}
use Rattle.deals.specs.Promise.{can}
use Rattle.deals.specs.Rows.{bare}
use Rattle.deals.specs.Tables.{count_at, lines_in, op_at, order_of}
use Rattle.deals.specs.LineUps.{Served}
use Rattle.deals.specs.Sits.{Sits, Serving, GoesOn, Looked}
use Rattle.deals.proofs.Offs.{kept_op, kept_order}
use Rattle.deals.proofs.Keeping.{count_kept, words_same, holds_kept}

module _ (p : ℕ) (f : Office) (room then : List ℕ) (d e : Disk) (k : Ledger) (s : State) (i : Sits p f room d s) (w : Looked p (medium_of d) room f.ledger (medium_of e) then k i.seated.pairs) where
  pub lines_looked : (c : ℕ) → c < 32 → lines_in then c ≡ lines_in room c
  unfolding lines_in
  lines_looked c l = ap (deal_lines then c) (count_kept room then w.aside.clerks c) ∙ w.aside.deals c (count_at room c) l

  pub order_looked : order_of then ≡ order_of room
  order_looked = kept_order room then w.aside.long (words_same room then w.aside.clerks 259712 33 (omega arith))

  pub op_looked : (c : ℕ) → op_at then c ≡ op_at room c
  op_looked c = kept_op room then c (words_same room then w.aside.clerks (259584 + 3 * c) 3 (omega arith))

  pub sits_looked : Sits p (record { ledger = k; tally = f.tally }) then e s
  sits_looked =
      let j = i.seated in
      record {
        seated = record {
          tables = holds_kept room then w.aside.clerks can true s w.aside.long (λ c l. ap (map bare) (w.aside.deals c (count_at room c) l)) j.tables;
          apart = j.apart;
          pairs = j.pairs;
          stands = w.stands;
          book = j.book;
          succs = λ c l. subst (λ t. SuccOk t (lines_in then c)) (sym w.tree) (subst (SuccOk (now_pairs (medium_of d) room f.ledger)) (sym (lines_looked c l)) (j.succs c l));
          records = omega (arith, j.records, ap length w.queue);
          room_left = j.room_left;
          writes = j.writes;
          puts = j.puts;
        };
        told = i.told;
      }

pub serving_looked : (p : ℕ) (es : List Event) (f : Office) (room then : List ℕ) (d e : Disk) (k : Ledger) (pick : Pick) (s : State) (i : Serving p es f room d pick s)
    → Looked p (medium_of d) room f.ledger (medium_of e) then k i.sits.seated.pairs → Serving p es (record { ledger = k; tally = f.tally }) then e pick s
serving_looked p es f room then d e k pick s i w =
    record {
      run = i.run;
      sits = sits_looked p f room then d e k s i.sits w;
      served = subst (λ q. Served can s q pick) (sym (order_looked p f room then d e k s i.sits w)) i.served;
    }

-- SO WHO GOES ON GOES ON
pub goes_looked : (p : ℕ) (es : List Event) (f : Office) (room then : List ℕ) (d e : Disk) (k : Ledger) (pick : Pick) (o : Op) (s : State) (i : GoesOn p es f room d pick o s)
    → Looked p (medium_of d) room f.ledger (medium_of e) then k i.serving.sits.seated.pairs → GoesOn p es (record { ledger = k; tally = f.tally }) then e pick o s
goes_looked p es f room then d e k pick o s i w =
    record {
      serving = serving_looked p es f room then d e k pick s i.serving w;
      asks = op_looked p f room then d e k s i.serving.sits w pick.who ∙ i.asks;
      calm = i.calm;
      comes = i.comes;
    }
