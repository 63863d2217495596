-- What lines write joins the next head, one after the other.
use Rattle.std.proofs.Common.{◌≡◌, ℕ, ◌+◌, ◌*◌, ◌<◌, ◌≤◌, Bool, true, false, List, [], ◌∷◌, ◌++◌, length, get_or, take, drop, Option, sym, refl, ap, ◌∙◌, subst, arith, length-append, length-take}
use Rattle.std.specs.List.{cons_option}
use Rattle.std.proofs.lemmas.List.{take-append-drop, take_all, take_more}
use Rattle.std.proofs.lemmas.List.Elements.{filter_map-append}
use Rattle.lines.specs.declared.line.Line.{Line}
use Rattle.lines.specs.declared.line.Line.TheVariants.{Idle, Wrote, Cleared}
use Rattle.lines.specs.Tables.{deal_ring, deal_lines}
use Rattle.lines.proofs.Circle.{length_lines}
use Rattle.store.specs.declared.head.Record.{Record}
use Rattle.store.specs.declared.Store.{Store}
use Rattle.store.specs.Medium.{Medium}
use Rattle.store.specs.Head.{head_of}
use Rattle.store.specs.State.{queue_by}
use Rattle.store.specs.Store.{Intact, next, Appended, Appends}
use Rattle.store.proofs.Grows.{length_queue, appended_none, appended_on}
use Rattle.view.specs.Adds.{writing}
use Rattle.view.specs.Writes.{with_lines}
use Rattle.ledger.specs.Ledger.{Pairs, part_of, OnlyPart}
use Rattle.ledger.specs.Commits.{record_by, records_by, writes_any, AppendsAll}
use Rattle.ledger.proofs.Counting.{records_few}

pub length_deal : (w : List ℕ) (c n : ℕ) → length (deal_lines w c n) ≡ n
unfolding deal_lines
length_deal w c n = length_lines (take 3072 (drop (3072 * c) w)) (deal_ring n)

-- lines that write nothing
pub none_written : (b : Pairs) (ls : List Line) → writes_any ls ≡ false → with_lines b ls ≡ b
none_written b [] e = refl
none_written b (Wrote k x ∷ ls) e = absurd (cc)
none_written b (Cleared k s ∷ ls) e = absurd (cc)
none_written b (l ∷ ls) e = none_written b ls e

pub none_writing : (ls : List Line) → writes_any ls ≡ false → writing ls ≡ []
none_writing [] e = refl
none_writing (Wrote k x ∷ ls) e = absurd (cc)
none_writing (Cleared k s ∷ ls) e = absurd (cc)
none_writing (l ∷ ls) e = none_writing ls e

-- one line
pub line_is : (l : Line) (o : Option Record) → o ≡ record_by l → records_by (l ∷ []) ≡ cons_option o []
line_is l o e = ap (λ x. cons_option x []) (sym e)

pub one_appends : (m : Medium) (p : List ℕ) (s : Store) (r : Record) (ok : Bool) (e : Medium) (q v : List ℕ) (z : Store) (rs : List Record) → Appends m p s r ok e q z → rs ≡ r ∷ [] → v ≡ q → AppendsAll m p s rs ok e v z
one_appends m p s r true e q v z rs k er ev = subst (λ x. Appended m p s rs e x z) (sym ev) (subst (λ x. Appended m p s x e q z) (sym er) k)
one_appends m p s r false e q v z rs k er ev = k

-- the rows of the ring that so many records fill
pub few_full : (m : Medium) (p : List ℕ) (s : Store) (rs : List Record) (e : Medium) (q : List ℕ) (z : Store) → Intact m p s → Appended m p s rs e q z → 128 * (next q).full ≤ 128 * (next p).full + length rs + 128
few_full m p s rs e q z i a =
    let f = i.ready.follows in let g = a.intact.ready.follows in
    let d : (next q).done ≡ (next p).done = g.done ∙ ap (λ w. (head_of w).done) a.held.head ∙ sym f.done in
    omega (arith, d, ap length a.queue, length-append (queue_by (next p) m.shown) rs, length_queue (next q) e.shown, length_queue (next p) m.shown, f.ok.brim, f.ok.less, g.ok.brim, g.ok.less)

-- the lines up to i have joined it
pub record Adding (m : Medium) (room : List ℕ) (s : Store) (own : List Line) (i : ℕ) (e : Medium) (then : List ℕ) (z : Store) : Type 0 where
  pub rows : Appended m (part_of room) s (records_by (take i own)) e (part_of then) z
  pub only : OnlyPart room then

pub only_refl : (room : List ℕ) → OnlyPart room room
only_refl room = record { long = refl; tables = refl; clerks = refl }

pub only_on : (a b c : List ℕ) → OnlyPart a b → OnlyPart b c → OnlyPart a c
only_on a b c f g = record { long = g.long ∙ f.long; tables = g.tables ∙ f.tables; clerks = g.clerks ∙ f.clerks }

pub adding_none : (m : Medium) (room : List ℕ) (s : Store) (own : List Line) → Intact m (part_of room) s → Adding m room s own 0 m room s
adding_none m room s own i = record { rows = appended_none i; only = only_refl room }

-- the line at i
module _ (own : List Line) (i : ℕ) (low : i < length own) (l : Line) (is : l ≡ get_or own i Idle) where
  more : records_by (take (i + 1) own) ≡ records_by (take i own) ++ records_by (l ∷ [])
  more = ap records_by (take_more own i Idle low ∙ ap (λ x. take i own ++ x ∷ []) (sym is)) ∙ filter_map-append record_by (take i own) (l ∷ [])

  fewer : length (records_by (take i own)) + length (records_by (l ∷ [])) ≤ length (records_by own)
  fewer = omega (
    arith,
    ap length more,
    length-append (records_by (take i own)) (records_by (l ∷ [])),
    ap length (sym (filter_map-append record_by (take (i + 1) own) (drop (i + 1) own)) ∙ ap records_by (take-append-drop (i + 1) own)),
    length-append (records_by (take (i + 1) own)) (records_by (drop (i + 1) own)),
  )

  module _ (m : Medium) (room : List ℕ) (s : Store) (k : Intact m (part_of room) s) (e : Medium) (then : List ℕ) (z : Store) (a : Adding m room s own i e then z) where
    pub adding_room : length (queue_by (next (part_of room)) m.shown) + length (records_by own) ≤ 32768 → length (queue_by (next (part_of then)) e.shown) + length (records_by (l ∷ [])) ≤ 32768
    adding_room h = omega (arith, h, fewer, ap length a.rows.queue, length-append (queue_by (next (part_of room)) m.shown) (records_by (take i own)))

    pub adding_asks : 9 ≤ m.left → length own ≤ 1024 → 0 < e.left
    adding_asks h few = omega (arith, h, few, a.rows.left, few_full m (part_of room) s _ e (part_of then) z k a.rows, records_few (take i own), length-take i own)

    pub adding_more : (f : Medium) (v : List ℕ) (y : Store) → Appended e (part_of then) z (records_by (l ∷ [])) f (part_of v) y → OnlyPart then v → Adding m room s own (i + 1) f v y
    adding_more f v y b o = record { rows = subst (λ rs. Appended m (part_of room) s rs f (part_of v) y) (sym more) (appended_on a.rows b); only = only_on room then v a.only o }

-- all lines
module _ (own : List Line) (i : ℕ) (m : Medium) (room : List ℕ) (s : Store) (k : Intact m (part_of room) s) (e : Medium) (then : List ℕ) (z : Store) (a : Adding m room s own i e then z) where
  pub adding_all : length own ≤ i → Appended m (part_of room) s (records_by own) e (part_of then) z
  adding_all h = subst (λ ls. Appended m (part_of room) s (records_by ls) e (part_of then) z) (take_all i own h) a.rows

  pub adding_asked : length own ≤ 1024 → m.left ≤ e.left + 9
  adding_asked few = omega (arith, few, a.rows.left, few_full m (part_of room) s _ e (part_of then) z k a.rows, records_few (take i own), length-take i own)
