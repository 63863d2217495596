-- What a deal sees is the book after its own lines, and a question leaves the book standing.
use Rattle.std.proofs.Common.{◌≡◌, ℕ, ◌<◌, List, [], ◌∷◌, length, take, drop, map, Result, Ok, Err, T, refl, sym, ap, ◌∙◌, subst, drop-drop, arith}
use Rattle.std.specs.Result.{is_ok, IfOk, OnOk}
use Rattle.std.proofs.lemmas.List.{take-append-drop}
use Rattle.lines.specs.declared.line.Line.{Line}
use Rattle.lines.specs.declared.line.Line.TheVariants.{Idle, Wrote, Cleared, Stale, Read, Scanned, Marked}
use Rattle.lines.specs.Lines.{bare}
use Rattle.lines.specs.Tables.{tables, behind, queue_lines}
use Rattle.lines.proofs.Parts.{same_queue}
use Rattle.store.specs.declared.Store.{Store}
use Rattle.store.specs.Medium.{Medium}
use Rattle.view.specs.Asks.{Spent}
use Rattle.view.specs.Writes.{Puts, Drops, onto, writes_in, with_lines}
use Rattle.view.specs.Upkeep.{SuccOk}
use Rattle.view.proofs.Tabled.{queue_in_on}
use Rattle.pager.specs.Volume.{pairs_in}
use Rattle.treeindex.specs.Behind.{budget_of, Came, Onto}
use Rattle.treeindex.proofs.Rooms.{came_of}
use Rattle.ledger.specs.declared.Ledger.{Ledger}
use Rattle.ledger.specs.Ledger.{Pairs, part_of, line_of, after, now_pairs, lasting, last_pairs, Stands, Stays}
use Rattle.ledger.specs.Looks.{Finds, Looked}
use Rattle.ledger.proofs.Ahead.{after_append}
use Rattle.ledger.proofs.Works.{came_stands, worked_is, worked_cut}

writes_bare : (ls : List Line) → writes_in (map bare ls) ≡ writes_in ls
writes_bare [] = refl
writes_bare (Idle ∷ ls) = writes_bare ls
writes_bare (Wrote k x ∷ ls) = ap (λ ws. Puts k x ∷ ws) (writes_bare ls)
writes_bare (Cleared k s ∷ ls) = ap (λ ws. Drops k ∷ ws) (writes_bare ls)
writes_bare (Stale k ∷ ls) = writes_bare ls
writes_bare (Read k ∷ ls) = writes_bare ls
writes_bare (Scanned k q ∷ ls) = writes_bare ls
writes_bare (Marked ∷ ls) = writes_bare ls

-- f and y are the disk and what is noted, under other names
pub finds_of : {A E X : Type 0} (o : Result A E) (n : ℕ) (m : Medium) (room : List ℕ) (s : Store) (e f : Medium) (then : List ℕ) (z y : Store) → f ≡ e → y ≡ z →
    OnOk o X → (X → (pairs_in e (part_of then) z ≡ pairs_in m (part_of room) s) × Spent n (budget_of m) (budget_of e)) → OnOk o (Finds n m room s f then y)
finds_of (Ok q) n m room s e f then z y fe yz a g = let k = g a in subst (λ x. Finds n m room s x then y) (sym fe) (subst (λ x. Finds n m room s e then x) (sym yz) (record { pairs = k.0; left = k.1.left }))
finds_of (Err x) n m room s e f then z y fe yz a g = tt

module _ (p : ℕ) (m : Medium) (room : List ℕ) (l : Ledger) (b : Pairs) (s : Stands p m room l b) where
  -- the queue's writes done to the tree are the book
  pub seen_is : with_lines (now_pairs m room l) (queue_lines room l.queue) ≡ b
  seen_is =
      let w = l.store.worked in let q = (lasting m).queue in
      ap (onto (now_pairs m room l)) (sym (writes_bare (queue_lines room l.queue)))
      ∙ (ap (with_lines (now_pairs m room l)) s.queue
      ∙ (ap (λ t. after t (drop w q)) s.tree
      ∙ (sym (after_append (last_pairs m) (take w q) (drop w q))
      ∙ (ap (after (last_pairs m)) (take-append-drop w q) ∙ s.book))))

  module _ (n : ℕ) (e : Medium) (then : List ℕ) (z : Store) (long : length then ≡ length room) (same : tables then ≡ tables room) where
    abbrev k : Ledger
    k = record { store = z; queue = l.queue }

    looked_on : Came m (behind room) l.store e (behind then) z → Finds n m room l.store e then z → Looked n m room l e then k
    looked_on c f = record {
      only = record { long = long; tables = same; clerks = sym (drop-drop 62976 196608 then) ∙ (c.rest ∙ drop-drop 62976 196608 room) };
      tree = f.pairs;
      queue = refl;
      worked = worked_is p m room l b s e then z c;
      imaged = ap (λ (x : Store). x.imaged) c.store;
      left = f.left;
    }

    stands_on : Came m (behind room) l.store e (behind then) z → Finds n m room l.store e then z → Stands p e then k b
    stands_on c f =
        let w = worked_is p m room l b s e then z c in
        let lines = same_queue room then long same l.queue in
        came_stands p m room l b s e then z c z.worked l.queue (omega (arith, w, s.done)) (f.pairs ∙ (s.tree ∙ ap (λ i. after (last_pairs m) (take i (lasting m).queue)) (sym w))) (queue_in_on room then l.queue long s.ring)
        (ap (map bare) lines ∙ (s.queue ∙ ap (λ i. map line_of (drop i (lasting m).queue)) (sym w)))
        (subst (λ t. SuccOk t (queue_lines then l.queue)) (sym f.pairs) (subst (SuccOk (now_pairs m room l)) (sym lines) s.succs))
        (λ t. subst (λ i. 0 < i) (sym w) (s.begun (subst (λ (x : Store). T x.imaged) c.store t)))

    pub look_looked : {A E : Type 0} (o : Result A E) → Onto m (behind room) l.store (is_ok o) e (behind then) z → OnOk o (Finds n m room l.store e then z) → OnOk o (Looked n m room l e then k)
    look_looked (Ok a) c f = looked_on (came_of c) f
    look_looked (Err x) c f = tt

    pub look_stays : {A E : Type 0} (o : Result A E) → Onto m (behind room) l.store (is_ok o) e (behind then) z → OnOk o (Finds n m room l.store e then z) → Stays p b (is_ok o) e then k
    look_stays (Ok a) c f = stands_on (came_of c) f
    look_stays (Err x) c f = worked_cut p m room l b s e (behind then) z c

-- what is told of the tree after the queue is so of the book
pub told_in : {B E : Type 0} (o : Result B E) (m : Medium) (room : List ℕ) (l : Ledger) (own : List Line) (f : Pairs → B) → IfOk o (λ x. x ≡ f (with_lines (with_lines (now_pairs m room l) (queue_lines room l.queue)) own)) →
    IfOk o (λ x. (p : ℕ) (b : Pairs) → Stands p m room l b → x ≡ f (with_lines b own))
told_in (Ok x) m room l own f h = λ p b s. h ∙ ap (λ t. f (with_lines t own)) (seen_is p m room l b s)
told_in (Err x) m room l own f h = tt
