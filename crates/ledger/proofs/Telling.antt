-- The drops of the room's queue are told of the tree, one after the other.
use Rattle.std.proofs.Common.{◌≡◌, ℕ, ◌+◌, ◌-◌, ◌*◌, ◌<◌, ◌≤◌, List, [], ◌∷◌, ◌++◌, length, get_or, set, take, drop, map, append-nil, sym, refl, ap, ap₂, ◌∙◌, subst, arith, Option, T}
use Rattle.std.proofs.lemmas.List.{map-append, append_assoc, length-map, length-take-le, set-append_right, set-get_or, take_all, drop_all, take_more, drop_more, get_or-append_right}
use Rattle.lines.specs.declared.line.Line.{Line}
use Rattle.lines.specs.declared.line.Line.TheVariants.{Idle, Wrote, Cleared, Stale, Read, Scanned, Marked}
use Rattle.lines.specs.Lines.{bare}
use Rattle.lines.specs.Tables.{queue_lines, QueueIn, OnlyQueue}
use Rattle.lines.specs.declared.ring.Ring.{Ring}
use Rattle.store.specs.declared.head.Record.{Record}
use Rattle.store.specs.declared.head.Record.TheVariants.{Put, Drop}
use Rattle.store.specs.declared.Store.{Store}
use Rattle.store.specs.Medium.{Medium}
use Rattle.view.specs.Upkeep.{LineOk, SuccOk, next_key}
use Rattle.pager.specs.Volume.{pairs_in, Leaves}
use Rattle.ledger.specs.Ledger.{Pairs, part_of, line_of, lasting, after, last_pairs, Rests, Stands, Aside}
use Rattle.ledger.specs.Opens.{Raised, Queued, told}
use Rattle.ledger.proofs.Parting.{Lent, only_queue, only_aside}
use Rattle.store.specs.State.{state_of}
use Rattle.store.specs.Store.{Opened}
use Rattle.ledger.proofs.Opens.{opened_raised, raised_asked}
use Rattle.ledger.proofs.Filing.{same_part, queue_aside, aside_none, aside_trans}
use Rattle.view.proofs.Filed.{length_queue}
use Rattle.view.proofs.Tabled.{queue_in_on}

-- what was told is right, and nothing else is told
told_right : (t : Pairs) (l : Line) → LineOk t (told t l)
told_right t Idle = tt
told_right t (Wrote k x) = tt
told_right t (Cleared k s) = refl
told_right t (Stale k) = tt
told_right t (Read k) = tt
told_right t (Scanned k q) = tt
told_right t Marked = tt

pub all_told : (t : Pairs) (ls : List Line) → SuccOk t (map (told t) ls)
all_told t [] = tt
all_told t (l ∷ ls) = (told_right t l, all_told t ls)

told_bare : (t : Pairs) (l : Line) → bare (told t l) ≡ bare l
told_bare t Idle = refl
told_bare t (Wrote k x) = refl
told_bare t (Cleared k s) = refl
told_bare t (Stale k) = refl
told_bare t (Read k) = refl
told_bare t (Scanned k q) = refl
told_bare t Marked = refl

line_bare : (r : Record) → bare (line_of r) ≡ line_of r
line_bare (Put k x) = refl
line_bare (Drop k) = refl

pub records_told : (t : Pairs) (rs : List Record) → map bare (map (told t) (map line_of rs)) ≡ map line_of rs
records_told t [] = refl
records_told t (r ∷ rs) = ap₂ (λ x y. x ∷ y) (told_bare t (line_of r) ∙ line_bare r) (records_told t rs)

-- one line more of a list is changed
pub turned_more : {X : Type 0} (f : X → X) (xs : List X) (d : X) (i : ℕ) → i < length xs → set (map f (take i xs) ++ drop i xs) i (f (get_or (map f (take i xs) ++ drop i xs) i d)) ≡ map f (take (i + 1) xs) ++ drop (i + 1) xs
turned_more f xs d i l =
    let ys = map f (take i xs) in
    let n : length ys ≡ i = length-map (take i xs) f ∙ length-take-le i xs (omega (arith, l)) in
    let x = get_or xs i d in
    let zs : drop i xs ≡ x ∷ drop (i + 1) xs = drop_more xs i d l in
    let z : i - i ≡ 0 = omega arith in
    let got : get_or (ys ++ drop i xs) i d ≡ x = get_or-append_right ys (drop i xs) i i d n (omega arith) ∙ ap (λ k. get_or (drop i xs) k d) z ∙ ap (λ q. get_or q 0 d) zs in
    ap (λ y. set (ys ++ drop i xs) i (f y)) got ∙ set-append_right ys (drop i xs) i i (f x) n (omega arith) ∙ ap₂ (λ k q. ys ++ set q k (f x)) z zs
    ∙ sym (append_assoc ys (f x ∷ []) (drop (i + 1) xs)) ∙ ap (λ q. q ++ drop (i + 1) xs) (sym (map-append f (take i xs) (x ∷ [])) ∙ ap (map f) (sym (take_more xs i d l)))

-- a drop is told
module _ (m : Medium) (room : List ℕ) (s : Store) (r : Ring) (e : Medium) (mid q : List ℕ) (z : Store) (k : Leaves (pairs_in m (part_of room) s) 11 0 m (part_of room) s e q z) (t : Lent room mid q)
    (last : List ℕ) (o : OnlyQueue mid last) where
  told_part : part_of last ≡ q
  told_part = same_part mid last o ∙ t.part

  pub told_raised : (p : ℕ) (b : Pairs) → Raised p m (part_of room) s b → Raised p e (part_of last) z b
  told_raised p b h = subst (λ w. Raised p e w z b) (sym told_part) (raised_asked p m (part_of room) s b h (pairs_in m (part_of room) s) 11 0 e q z refl k)

  pub told_pairs : pairs_in e (part_of last) z ≡ pairs_in m (part_of room) s
  told_pairs = ap (λ w. pairs_in e w z) told_part ∙ k.pairs

  pub told_lines : (i key : ℕ) (was above : Option ℕ) → above ≡ next_key key (pairs_in m (part_of room) s) → get_or (queue_lines room r) i Idle ≡ Cleared key was → queue_lines last r ≡ set (queue_lines mid r) i (Cleared key above) →
      queue_lines last r ≡ set (queue_lines room r) i (told (pairs_in m (part_of room) s) (get_or (queue_lines room r) i Idle))
  told_lines i key was above a l w = w ∙ ap₂ (λ x y. set x i y) (only_queue room mid t.only r) (ap (Cleared key) a ∙ ap (told (pairs_in m (part_of room) s)) (sym l))

  pub told_aside : QueueIn room r → QueueIn last r → Aside room last
  told_aside a b = aside_trans room mid last (only_aside room mid t.only) (queue_aside mid last r r (queue_in_on room mid r t.only.long a) b o)

-- the first i lines are told, and all else is as it was
pub record Telling (m : Medium) (room : List ℕ) (s : Store) (r : Ring) (i : ℕ) (e : Medium) (then : List ℕ) (z : Store) : Type 0 where
  pub raised : (p : ℕ) (b : Pairs) → Raised p m (part_of room) s b → Raised p e (part_of then) z b
  pub pairs : pairs_in e (part_of then) z ≡ pairs_in m (part_of room) s
  pub lines : queue_lines then r ≡ map (told (pairs_in m (part_of room) s)) (take i (queue_lines room r)) ++ drop i (queue_lines room r)
  pub shown : e.shown ≡ m.shown
  pub ring : QueueIn then r
  pub aside : Aside room then
  pub left : m.left ≤ e.left + 11 * i

pub telling_none : (m : Medium) (room : List ℕ) (s : Store) (r : Ring) → QueueIn room r → Telling m room s r 0 m room s
telling_none m room s r q = record { raised = λ p b h. h; pairs = refl; lines = refl; shown = refl; ring = q; aside = aside_none room; left = omega arith }

pub telling_more : (m : Medium) (room : List ℕ) (s : Store) (r : Ring) (i : ℕ) (e : Medium) (then : List ℕ) (z : Store) → Telling m room s r i e then z → i < r.count → (f : Medium) (last : List ℕ) (y : Store) →
    ((p : ℕ) (b : Pairs) → Raised p e (part_of then) z b → Raised p f (part_of last) y b) → queue_lines last r ≡ set (queue_lines then r) i (told (pairs_in e (part_of then) z) (get_or (queue_lines then r) i Idle)) →
    pairs_in f (part_of last) y ≡ pairs_in e (part_of then) z → f.shown ≡ e.shown → QueueIn last r → e.left ≤ f.left + 11 → Aside then last → Telling m room s r (i + 1) f last y
telling_more m room s r i e then z k l f last y raised lines pairs shown ring left aside = record {
  raised = λ p b h. raised p b (k.raised p b h);
  pairs = pairs ∙ k.pairs;
  lines = lines ∙ ap (λ t. set (queue_lines then r) i (told t (get_or (queue_lines then r) i Idle))) k.pairs ∙ ap (λ x. set x i (told (pairs_in m (part_of room) s) (get_or x i Idle))) k.lines
      ∙ turned_more (told (pairs_in m (part_of room) s)) (queue_lines room r) Idle i (omega (arith, l, length_queue room r));
  shown = shown ∙ k.shown;
  ring = ring;
  aside = aside_trans room then last k.aside aside;
  left = omega (arith, k.left, left);
}

pub telling_all : (m : Medium) (room : List ℕ) (s : Store) (r : Ring) (i : ℕ) (e : Medium) (then : List ℕ) (z : Store) → Telling m room s r i e then z → r.count ≤ i → queue_lines then r ≡ map (told (pairs_in e (part_of then) z)) (queue_lines room r)
telling_all m room s r i e then z k l =
    let n : length (queue_lines room r) ≤ i = omega (arith, l, length_queue room r) in
    k.lines ∙ ap₂ (λ x y. map (told (pairs_in m (part_of room) s)) x ++ y) (take_all i (queue_lines room r) n) (drop_all i (queue_lines room r) n) ∙ append-nil _ ∙ ap (λ t. map (told t) (queue_lines room r)) (sym k.pairs)

-- what is no drop is told nothing
pub told_not : (t : Pairs) (ls : List Line) (i : ℕ) → ((k : ℕ) (s : Option ℕ) → get_or ls i Idle ≡ Cleared k s → ⊥) → ls ≡ set ls i (told t (get_or ls i Idle))
told_not t ls i h = sym (ap (set ls i) (same (get_or ls i Idle) h) ∙ set-get_or ls i Idle)
  where
    same : (l : Line) → ((k : ℕ) (s : Option ℕ) → l ≡ Cleared k s → ⊥) → told t l ≡ l
    same Idle n = refl
    same (Wrote k x) n = refl
    same (Cleared k s) n = absurd (n k s refl)
    same (Stale k) n = refl
    same (Read k) n = refl
    same (Scanned k q) n = refl
    same Marked n = refl

-- THE BOOK STANDS
pub opened_here : (p : ℕ) (m : Medium) (b : Pairs) → Rests p m b → (e : Medium) (room then q : List ℕ) (z : Store) → Opened m e q z → Lent room then q → Raised p e (part_of then) z b
opened_here p m b r e room then q z o t = subst (λ w. Raised p e w z b) (sym t.part) (opened_raised p m b r e q z o)

pub stands_told : (p : ℕ) (e : Medium) (room : List ℕ) (s : Store) (b : Pairs) (r : Ring) → Queued p e room s b r → (f : Medium) (then : List ℕ) (z : Store) → Raised p f (part_of then) z b →
    queue_lines then r ≡ map (told (pairs_in f (part_of then) z)) (queue_lines room r) → f.shown ≡ e.shown → QueueIn then r → Stands p f then (record { store = z; queue = r }) b
stands_told p e room s b r k f then z h lines shown ring =
    let t = pairs_in f (part_of then) z in
    record {
      lasts = h.lasts;
      book = h.book;
      intact = h.intact;
      sealed = h.sealed;
      ground = h.ground;
      done = omega (arith, h.none);
      tree = h.tree ∙ ap (λ n. after (last_pairs f) (take n (lasting f).queue)) (sym h.none);
      ring = ring;
      queue = ap (map bare) (lines ∙ ap (map (told t)) k.lines) ∙ records_told t (lasting e).queue ∙ ap (λ x. map line_of (state_of x).queue) (sym shown) ∙ ap (λ n. map line_of (drop n (lasting f).queue)) (sym h.none);
      succs = subst (SuccOk t) (sym lines) (all_told t (queue_lines room r));
      begun = λ y. absurd (subst T h.plain y);
    }
