-- The durable queue is filed as the room's queue: record by record of a page, and page by page.
use Rattle.std.proofs.Common.{◌≡◌, ℕ, ◌+◌, ◌-◌, ◌*◌, ◌≤◌, List, [], ◌∷◌, ◌++◌, length, take, drop, map, sym, refl, ap, ap₂, ◌∙◌, subst, append-nil, arith}
use Rattle.std.specs.List.{range_with_len}
use Rattle.std.specs.declared.ops.Range.{Range}
use Rattle.std.proofs.lemmas.List.{map-append, append_assoc, drop-drop, length-map, length-take, take_all}
use Rattle.std.proofs.lemmas.List.FromFn.{map-range_with_len_more}
use Rattle.lines.specs.declared.line.Line.{Line}
use Rattle.lines.specs.declared.ring.Ring.{Ring}
use Rattle.lines.specs.Tables.{queue_lines, QueueIn, OnlyQueue}
use Rattle.store.proofs.Grows as grows
use Rattle.lines.proofs.Circle.{no_lines}
use Rattle.view.proofs.Filed.{length_queue}
use Rattle.view.proofs.Tabled.{queue_in_on}
use Rattle.store.specs.declared.head.Record.{Record}
use Rattle.store.specs.declared.Store.{Store}
use Rattle.store.specs.Medium.{Medium}
use Rattle.store.specs.Head.{head_of, record_at}
use Rattle.store.specs.State.{state_of, queue_by}
use Rattle.store.specs.Store.{next, next_of, scratch_of}
use Rattle.store.specs.Queue.{QueuePage, Loaded}
use Rattle.ledger.specs.Ledger.{Pairs, part_of, line_of, Aside}
use Rattle.ledger.specs.Opens.{Raised, Queued, records_at}
use Rattle.ledger.proofs.Parting.{Lent, only_queue, only_aside}
use Rattle.ledger.proofs.Opens.{raised_loaded, page_more, page_room}

-- the records of a page from place a on and before place j have joined the queue r, which is s then
pub record Filed (room : List ℕ) (r : Ring) (a j : ℕ) (then : List ℕ) (s : Ring) : Type 0 where
  pub lines : queue_lines then s ≡ queue_lines room r ++ map line_of (map (record_at (scratch_of (part_of room))) (range_with_len a (j - a)))
  pub queue : QueueIn then s
  pub count : s.count ≡ r.count + (j - a)
  pub only : OnlyQueue room then

pub same_part : (room then : List ℕ) → OnlyQueue room then → part_of then ≡ part_of room
same_part room then o = ap (take 62976) o.behind

pub only_queue_trans : (u v w : List ℕ) → OnlyQueue u v → OnlyQueue v w → OnlyQueue u w
only_queue_trans u v w a b = record { deals = λ c n l. b.deals c n l ∙ a.deals c n l; behind = b.behind ∙ a.behind }

pub filed_none : (room : List ℕ) (r : Ring) (a : ℕ) → QueueIn room r → Filed room r a a room r
filed_none room r a q =
    let z : a - a ≡ 0 = omega arith in
    record {
      lines = sym (append-nil _) ∙ ap (λ n. queue_lines room r ++ map line_of (map (record_at (scratch_of (part_of room))) (range_with_len a n))) (sym z);
      queue = q;
      count = omega arith;
      only = record { deals = λ c n l. refl; behind = refl };
    }

pub filed_more : (room : List ℕ) (r : Ring) (a j : ℕ) (then : List ℕ) (s : Ring) → Filed room r a j then s → a ≤ j → (x : Record) → x ≡ record_at (scratch_of (part_of then)) j →
    (l : Line) → l ≡ line_of x → (last : List ℕ) (t : Ring) → queue_lines last t ≡ queue_lines then s ++ l ∷ [] → QueueIn last t → t.count ≡ s.count + 1 → OnlyQueue then last → Filed room r a (j + 1) last t
filed_more room r a j then s f le x xe l lx last t lines queue count only =
    let w = scratch_of (part_of room) in
    let n : (j + 1) - a ≡ (j - a) + 1 = omega (arith, le) in
    let at : a + (j - a) ≡ j = omega (arith, le) in
    let is : l ≡ line_of (record_at w j) = lx ∙ ap line_of (xe ∙ ap (λ p. record_at (scratch_of p) j) (same_part room then f.only)) in
    let more : map line_of (map (record_at w) (range_with_len a (j - a))) ++ line_of (record_at w j) ∷ [] ≡ map line_of (map (record_at w) (range_with_len a ((j + 1) - a))) =
    sym (map-append line_of (map (record_at w) (range_with_len a (j - a))) (record_at w j ∷ [])) ∙ ap (map line_of) (sym (map-range_with_len_more (record_at w) a (j - a) j at)) ∙ ap (λ k. map line_of (map (record_at w) (range_with_len a k))) (sym n) in
    record {
      lines = lines ∙ ap₂ (λ y z. y ++ z ∷ []) f.lines is ∙ append_assoc (queue_lines room r) _ _ ∙ ap (λ y. queue_lines room r ++ y) more;
      queue = queue;
      count = omega (arith, count, f.count, n);
      only = only_queue_trans room then last f.only only;
    }

-- nothing of the deals and of the clerks' tables has changed
pub aside_none : (room : List ℕ) → Aside room room
aside_none room = record { long = refl; deals = λ c n l. refl; clerks = refl }

pub aside_trans : (u v w : List ℕ) → Aside u v → Aside v w → Aside u w
aside_trans u v w a b = record { long = b.long ∙ a.long; deals = λ c n l. b.deals c n l ∙ a.deals c n l; clerks = b.clerks ∙ a.clerks }

pub queue_aside : (room then : List ℕ) (r s : Ring) → QueueIn room r → QueueIn then s → OnlyQueue room then → Aside room then
queue_aside room then r s a b o = record {
  long = b.room ∙ sym a.room;
  deals = o.deals;
  clerks = sym (drop-drop 62976 196608 then) ∙ ap (drop 62976) o.behind ∙ drop-drop 62976 196608 room;
}

-- the pages before page i are in the room's queue r; t is what stood when the first was read
pub record Took (m : Medium) (room : List ℕ) (s : Store) (i : ℕ) (e : Medium) (then : List ℕ) (r : Ring) : Type 0 where
  pub raised : (p : ℕ) (b : Pairs) → Raised p m (part_of room) s b → Raised p e (part_of then) s b
  pub head : next_of (part_of then) ≡ next_of (part_of room)
  pub shown : e.shown ≡ m.shown
  pub ring : QueueIn then r
  pub lines : queue_lines then r ≡ map line_of (take (128 * i - (next (part_of room)).done) (queue_by (next (part_of room)) m.shown))
  pub aside : Aside room then
  pub left : m.left ≤ e.left + i

module _ (p : ℕ) (m : Medium) (room : List ℕ) (s : Store) (b : Pairs) (h : Raised p m (part_of room) s b) (i : ℕ) (e : Medium) (then : List ℕ) (r : Ring) (k : Took m room s i e then r)
    (le : i ≤ (next (part_of room)).full) (places : Range ℕ) (f : Medium) (q mid : List ℕ) (l : Loaded e (part_of then) s i places f q) (t : Lent then mid q) where
  -- the page is a page of the queue that stood
  paged : QueuePage (next (part_of room)) m.shown i places (scratch_of (part_of mid))
  paged = subst (λ w. QueuePage (next (part_of room)) m.shown i places (scratch_of w)) (sym t.part)
      (subst (λ w. QueuePage (head_of w) m.shown i places (scratch_of q)) k.head (subst (λ v. QueuePage (next (part_of then)) v i places (scratch_of q)) k.shown l.page))

  pub took_ring : QueueIn mid r
  took_ring = queue_in_on then mid r t.only.long k.ring

  pub took_room : r.count + (places.end - places.start) ≤ 32768
  took_room =
      let g = page_room m.pages (next (part_of room)) m.shown h.intact.ready.follows.ok i places (scratch_of (part_of mid)) paged le in
      let d = 128 * i - (next (part_of room)).done in
      let n : length (queue_lines then r) ≡ length (take d (queue_by (next (part_of room)) m.shown)) = ap (λ (x : List Line). length x) k.lines ∙ length-map (take d (queue_by (next (part_of room)) m.shown)) line_of in
      omega (arith, g, n, length_queue then r, length-take d (queue_by (next (part_of room)) m.shown), ap (λ (x : List Record). length x) h.sealed, h.lasts.few)

  pub took_more : (last : List ℕ) (x : Ring) → queue_lines last x ≡ queue_lines mid r ++ map line_of (records_at (scratch_of (part_of mid)) places) → QueueIn last x → OnlyQueue mid last → Took m room s (i + 1) f last x
  took_more last x lines queue only =
      let part : part_of last ≡ q = same_part mid last only ∙ t.part in
      let d = 128 * i - (next (part_of room)).done in
      record {
        raised = λ n c y. subst (λ w. Raised n f w s c) (sym part) (raised_loaded n e (part_of then) s c (k.raised n c y) i places f q l);
        head = ap next_of part ∙ l.head ∙ k.head;
        shown = l.shown ∙ k.shown;
        ring = queue;
        lines = lines ∙ ap (λ y. y ++ map line_of (records_at (scratch_of (part_of mid)) places)) (only_queue_lines ∙ k.lines)
            ∙ sym (map-append line_of (take d (queue_by (next (part_of room)) m.shown)) (records_at (scratch_of (part_of mid)) places))
            ∙ ap (map line_of) (sym (page_more m.pages (next (part_of room)) m.shown h.intact.ready.follows.ok i places (scratch_of (part_of mid)) paged le));
        aside = aside_trans room then last k.aside (aside_trans then mid last (only_aside then mid t.only) (queue_aside mid last r x took_ring queue only));
        left = omega (arith, l.left, k.left);
      }
    where
      only_queue_lines : queue_lines mid r ≡ queue_lines then r
      only_queue_lines = only_queue then mid t.only r

-- all pages are
pub took_all : (p : ℕ) (m : Medium) (room : List ℕ) (s : Store) (i : ℕ) (e : Medium) (then : List ℕ) (r : Ring) → Took m room s i e then r → i ≡ (next (part_of room)).full + 1 → (b : Pairs) → Raised p m (part_of room) s b → Queued p e then s b r
took_all p m room s i e then r k ie b h =
    let g = k.raised p b h in
    let n : length (queue_by (next (part_of room)) m.shown) ≤ 128 * i - (next (part_of room)).done =
    omega (arith, ie, store_length m room, h.intact.ready.follows.ok.brim, h.intact.ready.follows.ok.done) in
    record {
      raised = g;
      ring = k.ring;
      lines = k.lines ∙ ap (map line_of) (take_all _ (queue_by (next (part_of room)) m.shown) n ∙ h.sealed ∙ ap (λ x. (state_of x).queue) (sym k.shown));
    }
  where
    store_length : (m : Medium) (room : List ℕ) → length (queue_by (next (part_of room)) m.shown) ≡ 128 * (next (part_of room)).full + length (next (part_of room)).own - (next (part_of room)).done
    store_length m room = grows.length_queue (next (part_of room)) m.shown

pub no_queue : (room : List ℕ) (r : Ring) → r.count ≡ 0 → queue_lines room r ≡ []
unfolding queue_lines
no_queue room r e = no_lines _ r e

-- none is yet
pub took_none : (m : Medium) (room : List ℕ) (s : Store) (r : Ring) → length room ≡ 262144 → r ≡ record { cap = 32768; start = 0; count = 0 } → queue_lines room r ≡ [] → Took m room s 0 m room r
took_none m room s r long e none =
    record {
      raised = λ p b h. h;
      head = refl;
      shown = refl;
      ring = record { room = long; cap = ap (λ (x : Ring). x.cap) e; start = omega (arith, ap (λ (x : Ring). x.start) e, ap (λ (x : Ring). x.cap) e); count = omega (arith, ap (λ (x : Ring). x.count) e) };
      lines = none ∙ ap (λ n. map line_of (take n (queue_by (next (part_of room)) m.shown))) (let z : 0 ≡ 128 * 0 - (next (part_of room)).done = omega arith in z);
      aside = aside_none room;
      left = omega arith;
    }
