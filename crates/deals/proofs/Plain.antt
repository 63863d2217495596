-- One is told within its deal what writes nothing: a word, a key, a mark.
use Rattle.std.proofs.Common.{◌≡◌, ℕ, ◌+◌, ◌<◌, Bool, true, false, not, ◌||◌, T, List, [], ◌∷◌, ◌++◌, length, Some, Option, sym, refl, ap, ◌∙◌, subst, arith}
use Rattle.std.proofs.lemmas.Bool.{ltb-true}
use Rattle.node.specs.Pairs.{find}
use Rattle.lines.specs.declared.line.Line.{Line}
use Rattle.lines.specs.declared.line.Line.TheVariants.{Read}
use Rattle.lines.specs.Tables.{deal_lines}
use Rattle.locks.specs.declared.graph.Pick.{Pick}
use Rattle.view.specs.Upkeep.{LineOk}
use Rattle.view.specs.Writes.{with_lines, Rising}
use Rattle.ledger.specs.declared.Ledger.{Ledger}
use Rattle.ledger.specs.Ledger.{now_pairs}
use Rattle.deals.specs.declared.Op.{Op}
use Rattle.deals.specs.declared.Op.TheVariants.{Get}
use Rattle.deals.specs.declared.Answer.{Answer}
use Rattle.deals.specs.declared.engine.Office.{Office}
use Rattle.deals.specs.Disk.{Disk}
use Rattle.deals.specs.Drives.{medium_of}
use Rattle.deals.specs.Deals.{Event, Said, State, Under, Over, set_clerk, told, ends, longest, comes_to}
use Rattle.deals.specs.Promise.{can}
use Rattle.deals.specs.Rows.{gone_by}
use Rattle.deals.specs.Writes.{Write, effect, writes_then, writes_at}
use Rattle.deals.specs.Tables.{count_at, lines_in, order_of, rest_of, OnlyLines}
use Rattle.deals.specs.LineUps.{TablesHold, Served}
use Rattle.deals.specs.Sits.{puts_in, GoesOn, Answered, Looked}
use Rattle.deals.specs.Paired.{as_word}
use Rattle.deals.proofs.Books.{and_t}
use Rattle.deals.proofs.Answering.{asked, told_so, gone_ok}
use Rattle.deals.proofs.Looking.{goes_looked}
use Rattle.deals.proofs.Sitting.{book_rising}
use Rattle.deals.proofs.Sums.{effect_push}
use Rattle.deals.proofs.Telling.{get_told}

on_true : (b : Bool) → T b → b ≡ true
on_true true t = refl
on_true false t = absurd t

last_of : (x y : Bool) → T (not x) → T (x || y) → T y
last_of x y n t = grind arith

-- what goes on is built, and there's room for a line
pub comes_parts : (o : Op) (d : List Said) → T (comes_to can o d) → T (not (ends o)) → T (can o) × (length d < longest)
comes_parts o d t n =
    let z = and_t (can o) _ t in
    (z.0, ltb-true (length d) longest (on_true _ (last_of (ends o) _ n z.1)))

pub told_plain : (p : ℕ) (es : List Event) (f : Office) (room then : List ℕ) (d : Disk) (s : State) (pick : Pick) (o : Op) (a : Answer) (line : Line) → GoesOn p es f room d pick o s → T (not (ends o))
    → ((ws : List Write) (ms : List (List Write)) → writes_then o ws ms ≡ ws)
    → told o (s.clerk pick.who).deal s.book ≡ a
    → ((k : ℕ) → TablesHold can false then (set_clerk pick.who ((s.clerk pick.who).deal ++ record { op = o; told = a } ∷ []) (Over o a k) s))
    → OnlyLines pick.who (gone_by o (lines_in room pick.who) ++ line ∷ []) room then → rest_of then ≡ rest_of room
    → LineOk (now_pairs (medium_of d) room f.ledger) line
    → Answered p es f then d (Some (pick.who, a))
told_plain p es f room then d s pick o a line v n same is tables lines rest ok =
    let i = v.serving.sits in
    let j = i.seated in
    let who = pick.who in
    let few = v.serving.served.few in
    let deal = (s.clerk who).deal in
    let k = asked room s pick j.tables v.serving.served in
    let c = comes_parts o deal v.comes n in
    let e : effect (deal ++ record { op = o; told = a } ∷ []) ≡ effect deal = effect_push deal (record { op = o; told = a }) ∙ same (effect deal) (writes_at deal [] []) in
    told_so p es f f room then d s who k.0 o a line v.serving.run i few (k.1 ∙ ap (λ x. Under x k.0) v.asks) c.0 n c.1 (subst (λ b. T (not b)) (sym (v.serving.served.free v.calm)) tt) is (tables k.0) lines rest
    (gone_ok _ o (lines_in room who) (j.succs who few)) ok refl (ap (λ x. f.tally.writes + length x) (sym e)) (ap (λ x. f.tally.puts + puts_in x) (sym e)) (omega (arith, ap length e)) (omega (arith, j.room_left, j.puts))

-- A WORD that was looked up
pub got : (p : ℕ) (es : List Event) (f : Office) (room then new : List ℕ) (d e : Disk) (l : Ledger) (pick : Pick) (key count : ℕ) (s : State) (found : Option ℕ) (a : Answer) (v : GoesOn p es f room d pick (Get key) s)
    → Looked p (medium_of d) room f.ledger (medium_of e) then l v.serving.sits.seated.pairs → count ≡ count_at room pick.who
    → found ≡ find key (with_lines v.serving.sits.seated.pairs (deal_lines room pick.who count)) → a ≡ as_word found
    → ((k : ℕ) → TablesHold can true then s → Served can s (order_of then) pick → TablesHold can false new (set_clerk pick.who ((s.clerk pick.who).deal ++ record { op = Get key; told = a } ∷ []) (Over (Get key) a k) s))
    → OnlyLines pick.who (lines_in then pick.who ++ Read key ∷ []) then new → rest_of new ≡ rest_of then
    → Answered p es (record { ledger = l; tally = f.tally }) new e (Some (pick.who, a))
unfolding lines_in ends
got p es f room then new d e l pick key count s found a v w n q r tables lines rest =
    let i = v.serving.sits in
    let j = i.seated in
    let who = pick.who in
    let deal = (s.clerk who).deal in
    let u = goes_looked p es f room then d e l pick (Get key) s v w in
    let up : Rising j.pairs = subst Rising j.stands.book (book_rising p (medium_of d) j.stands.lasts) in
    let is : told (Get key) deal s.book ≡ a =
    sym (ap (λ b. told (Get key) deal b) j.book) ∙ get_told j.pairs room who key deal up (j.tables.desk who v.serving.served.few) ∙ ap (λ x. as_word (find key (with_lines j.pairs (deal_lines room who x)))) (sym n) ∙ ap as_word (sym q) ∙ sym r in
    told_plain p es (record { ledger = l; tally = f.tally }) then new e s pick (Get key) a (Read key) u tt (λ ws ms. refl) is (λ k. tables k u.serving.sits.seated.tables u.serving.served) lines rest tt
