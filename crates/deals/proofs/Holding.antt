-- All of the clerks' tables, as one asks, is served and is told, and as turns go.
use Rattle.std.proofs.Common.{◌≡◌, ℕ, ◌+◌, ◌*◌, ◌<◌, ◌≤◌, Bool, true, false, List, [], ◌∷◌, ◌++◌, None, sym, refl, ap, ◌∙◌, subst, inl, inr, arith}
use Rattle.std.specs.List.{remove}
use Rattle.std.proofs.lemmas.Bool.{cases_lt, cases_eq, eq-eqb, ne_eqb, false≢true}
use Rattle.locks.specs.declared.graph.Pick.{Pick}
use Rattle.deals.specs.declared.Op.{Op}
use Rattle.deals.specs.declared.Answer.{Answer}
use Rattle.deals.specs.Deals.{Book, Said, State, Now, Quiet, Under, Over, set_clerk, aged, older}
use Rattle.deals.specs.Tables.{count_at, op_at, waiting_in, order_of, is_under, Off, SameLines, Sound, Desk, Asks, OnlyDeals, OnlyOrder, OnlyAsk}
use Rattle.deals.specs.LineUps.{LineUp, TablesHold, Served, Picked}
use Rattle.deals.proofs.Offs.{off_kept, kept_op, kept_lines, kept_order, kept_rest}
use Rattle.deals.proofs.Desks.{keeps_same, desk_like}
use Rattle.deals.proofs.Orders.{order_long, last_few}
use Rattle.deals.proofs.Ages.{set_same, set_other, under_older, line_room, line_asks, line_served, line_none, line_turns, line_tells, line_young}

-- three words of what is asked are written
pub only_ask : (r t : List ℕ) (c : ℕ) → Sound r → c < 32 → Off (259584 + 3 * c) 3 r t → OnlyAsk c r t × SameLines r t
only_ask r t c i l f = (
  record {
    sound = record {
      wide = f.long ∙ i.wide;
      short = λ e h. rw (count_same e h) (i.short e h);
      most = rw waiting_same i.most;
      few = λ k h. let g : k < waiting_in r = omega (arith, waiting_same) in rw (f.same (259712 + k) (inr (omega arith))) (i.few k g);
    };
    ops = λ e h x. kept_op r t e (off_kept (259584 + 3 * c) 3 r t (259584 + 3 * e) 3 f (elim (cases_lt e c) [ inl g ↦ inl (omega arith) | inr g ↦ inr (elim (cases_eq e c) [ inl q ↦ absurd (x q) | inr q ↦ omega arith ]) ]));
    deals = λ s d e h. keeps_same r t e (s.clerk e).deal (count_same e h) (lines_same e h) (d e h);
    order = kept_order r t f.long (off_kept (259584 + 3 * c) 3 r t 259712 33 f (inr (omega arith)));
    waiting = waiting_same;
    rest = kept_rest r t f.long (off_kept (259584 + 3 * c) 3 r t 98304 161280 f (inl (omega arith)));
  },
  lines_same,
)
  where
    count_same : (e : ℕ) → e < 32 → count_at t e ≡ count_at r e
    count_same e h = f.same (259680 + e) (inr (omega arith))

    lines_same : SameLines r t
    lines_same e h = kept_lines r t e f.long (off_kept (259584 + 3 * c) 3 r t (3072 * e) 3072 f (inl (omega arith))) (count_same e h)

    waiting_same : waiting_in t ≡ waiting_in r
    waiting_same = f.same 259744 (inr (omega arith))

-- WHAT EACH HAS ASKED
asks_like : (r t : List ℕ) (s : State) → ((c : ℕ) → c < 32 → op_at t c ≡ op_at r c) → Asks r s → Asks t s
asks_like r t s h i c l u = let g = i c l u in (g.0, g.1 ∙ ap (λ o. Under o g.0) (sym (h c l)))

asks_asked : (r t : List ℕ) (s : State) (c : ℕ) (d : List Said) (o : Op) → op_at t c ≡ o → ((e : ℕ) → e < 32 → (e ≡ c → ⊥) → op_at t e ≡ op_at r e) → Asks r s → Asks t (set_clerk c d (Under o 0) s)
asks_asked r t s c d o new old i e l u = grind (arith, cases_eq, set_same, set_other)

-- c is no more under way
asks_set : (room : List ℕ) (s : State) (b : Book) (c : ℕ) (d : List Said) (n : Now) → is_under n ≡ false → Asks room s → Asks room (set_clerk c d n (record { book = b; clerk = s.clerk }))
asks_set room s b c d n z i e l u = grind (arith, cases_eq, false≢true, set_same, set_other)

asks_aged : (can : Op → Bool) (room : List ℕ) (s : State) → Asks room s → Asks room (aged can s)
unfolding older
asks_aged can room s i e l u = grind (arith, under_older)

-- ONE ASKS, who has nothing under way
pub same_deal : (s : State) (c : ℕ) (n : Now) (e : ℕ) → (s.clerk e).deal ≡ ((set_clerk c (s.clerk c).deal n s).clerk e).deal
same_deal s c n e = elim (cases_eq e c) [ inl q ↦ rw (eq-eqb e c q, q) | inr h ↦ rw (ne_eqb e c h) ]

-- there is room for one more
pub holds_room : (can : Op → Bool) (room : List ℕ) (s : State) (c : ℕ) → TablesHold can true room s → c < 32 → (s.clerk c).now' ≡ Quiet → waiting_in room < 32
holds_room can room s c i l z = omega (arith, order_long room i.sound, line_room can s (order_of room) c (op_at room c) i.line l z)

pub holds_asks : (can : Op → Bool) (room : List ℕ) (s : State) (c : ℕ) → TablesHold can true room s → (s.clerk c).now' ≡ Quiet
    → (mid then : List ℕ) (o : Op) → op_at mid c ≡ o → OnlyAsk c room mid → order_of then ≡ order_of mid ++ c ∷ [] → OnlyOrder mid then → TablesHold can true then (set_clerk c (s.clerk c).deal (Under o 0) s)
holds_asks can room s c i z mid then o is asked order stood =
    record {
      sound = stood.sound;
      desk = desk_like then s (set_clerk c (s.clerk c).deal (Under o 0) s) (same_deal s c (Under o 0)) (stood.deals s (asked.deals s i.desk));
      asks = asks_like mid then (set_clerk c (s.clerk c).deal (Under o 0) s) stood.ops (asks_asked room mid s c (s.clerk c).deal o is asked.ops i.asks);
      line =
          subst (LineUp can true (set_clerk c (s.clerk c).deal (Under o 0) s)) (sym (order ∙ ap (λ q. q ++ c ∷ []) asked.order))
          (line_asks can s (order_of room) c o i.line (last_few then (order_of mid) c stood.sound order) z);
    }

-- ONE IS SERVED; b, d: the book and its deal then
over_idle : (o : Op) (a : Answer) (g : ℕ) → is_under (Over o a g) ≡ false
unfolding is_under
over_idle o a g = refl

module _ (can : Op → Bool) (room : List ℕ) (s : State) (p : Pick) (i : TablesHold can true room s) (v : Served can s (order_of room) p) where
  pub holds_serves : (mid then : List ℕ) (b : Book) (d : List Said) (o : Op) (a : Answer) (g : ℕ) → Desk mid (set_clerk p.who d (Over o a g) (record { book = b; clerk = s.clerk })) → OnlyDeals room mid
      → order_of then ≡ remove (order_of mid) p.place → OnlyOrder mid then → TablesHold can false then (set_clerk p.who d (Over o a g) (record { book = b; clerk = s.clerk }))
  holds_serves mid then b d o a g desk noted order closed =
      record {
        sound = closed.sound;
        desk = closed.deals (set_clerk p.who d (Over o a g) (record { book = b; clerk = s.clerk })) desk;
        asks = asks_set then s b p.who d (Over o a g) (over_idle o a g) (asks_like mid then s closed.ops (asks_like room mid s noted.ops i.asks));
        line =
            subst (LineUp can false (set_clerk p.who d (Over o a g) (record { book = b; clerk = s.clerk }))) (sym (order ∙ ap (λ q. remove q p.place) noted.order))
            (subst (λ c. LineUp can false (set_clerk c d (Over o a g) (record { book = b; clerk = s.clerk })) (remove (order_of room) p.place)) v.there
            (line_served can s (order_of room) p.place b d o a g i.line v.among v.before));
      }

-- nobody counts, and nobody is served
pub holds_none : (can : Op → Bool) (room : List ℕ) (s : State) → TablesHold can true room s → Picked can s (order_of room) None → TablesHold can false room s
unfolding Picked
holds_none can room s i h = record { sound = i.sound; desk = i.desk; asks = i.asks; line = line_none can s (order_of room) i.line h }

-- A TURN HAS GONE
pub holds_turns : (can : Op → Bool) (room : List ℕ) (s : State) → TablesHold can false room s → TablesHold can true room (aged can s)
holds_turns can room s i = record { sound = i.sound; desk = i.desk; asks = asks_aged can room s i.asks; line = line_turns can s (order_of room) i.line }

-- ONE IS TOLD
quiet_idle : is_under Quiet ≡ false
unfolding is_under
quiet_idle = refl

pub holds_tells : (can : Op → Bool) (room : List ℕ) (s : State) (c : ℕ) (o : Op) (a : Answer) (g : ℕ) → (s.clerk c).now' ≡ Over o a g → TablesHold can true room s → TablesHold can true room (set_clerk c (s.clerk c).deal Quiet s)
holds_tells can room s c o a g z i =
    record {
      sound = i.sound;
      desk = desk_like room s (set_clerk c (s.clerk c).deal Quiet s) (same_deal s c Quiet) i.desk;
      asks = asks_set room s s.book c (s.clerk c).deal Quiet quiet_idle i.asks;
      line = line_tells can s (order_of room) c o a g z i.line;
    }

-- NOBODY IS OLD
pub holds_young : (can : Op → Bool) (more : Bool) (room : List ℕ) (s : State) (c : ℕ) (o : Op) (g : ℕ) → TablesHold can more room s → c < 32 → (s.clerk c).now' ≡ Under o g → g ≤ 32
holds_young can more room s c o g i l z = line_young can more s (order_of room) c o g i.line l z
