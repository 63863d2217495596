-- The front of the queue goes into the tree in the frames: the book stands.
use Rattle.std.proofs.Common.{◌≡◌, ℕ, ◌+◌, ◌<◌, ◌≤◌, false, List, [], ◌∷◌, length, get_or, take, drop, map, Option, T, sym, refl, ap, ◌∙◌, subst, drop-drop, arith}
use Rattle.std.proofs.Math.Seq.{take-add}
use Rattle.lines.specs.declared.line.Line.{Line}
use Rattle.lines.specs.declared.line.Line.TheVariants.{Idle, Wrote, Cleared, Stale, Read, Scanned, Marked}
use Rattle.lines.specs.declared.ring.Ring.{Ring}
use Rattle.lines.specs.Lines.{bare}
use Rattle.lines.specs.Tables.{behind, deal_lines, queue_lines, QueueIn}
use Rattle.store.specs.declared.head.Record.{Record}
use Rattle.store.specs.declared.Store.{Store}
use Rattle.store.specs.Medium.{Medium}
use Rattle.store.specs.Head.{head_of}
use Rattle.store.specs.State.{state_of, queue_by}
use Rattle.store.specs.Store.{Intact, next}
use Rattle.view.specs.declared.kept.Change.{Change}
use Rattle.view.specs.Upkeep.{change_by, kept_by, SuccOk}
use Rattle.view.specs.Writes.{with_lines}
use Rattle.pager.specs.Ground.{pairs_by, Grounded}
use Rattle.pager.specs.Volume.{Paged, view_of, pairs_in}
use Rattle.pager.proofs.Grounds.{room_left}
use Rattle.treeindex.specs.Behind.{Ready, Came, Onto, went}
use Rattle.ledger.specs.declared.Ledger.{Ledger}
use Rattle.ledger.specs.Ledger.{Pairs, part_of, line_of, after, now_pairs, lasting, last_pairs, Stands, Cut, Upkept}
use Rattle.ledger.specs.Works.{Workable, Worked, Goes}
use Rattle.ledger.proofs.Means.{Means, means_lasts, lasts_means}
use Rattle.ledger.proofs.Ahead.{after_append, lost_cut}
use Rattle.ledger.proofs.Standing.{ahead_of}
use Rattle.ledger.proofs.Settling.{durable}

-- what a line knows of the tree writes nothing
bare_kept : (h : Option Change) (ls : List Line) → map bare (map (kept_by h) ls) ≡ map bare ls
bare_kept h [] = refl
bare_kept h (Cleared k s ∷ ls) = ap (λ r. bare (Cleared k s) ∷ r) (bare_kept h ls)
bare_kept h (Idle ∷ ls) = ap (λ r. Idle ∷ r) (bare_kept h ls)
bare_kept h (Wrote k x ∷ ls) = ap (λ r. Wrote k x ∷ r) (bare_kept h ls)
bare_kept h (Stale k ∷ ls) = ap (λ r. Stale k ∷ r) (bare_kept h ls)
bare_kept h (Read k ∷ ls) = ap (λ r. Read k ∷ r) (bare_kept h ls)
bare_kept h (Scanned k q ∷ ls) = ap (λ r. Scanned k q ∷ r) (bare_kept h ls)
bare_kept h (Marked ∷ ls) = ap (λ r. Marked ∷ r) (bare_kept h ls)

bare_writes : (t : Pairs) (l : Line) → with_lines t (bare l ∷ []) ≡ with_lines t (l ∷ [])
bare_writes t (Cleared k s) = refl
bare_writes t l = refl

-- the line l is the first of the records
pub record Front (t : Pairs) (rs : List Record) (l : Line) (ls : List Line) : Type 0 where
  pub first : after t (take 1 rs) ≡ with_lines t (l ∷ [])
  pub rest : map bare ls ≡ map line_of (drop 1 rs)

front_is : (t : Pairs) (rs : List Record) (l : Line) (ls : List Line) → map bare (l ∷ ls) ≡ map line_of rs → Front t rs l ls
front_is t [] l ls e = absurd (cc)
front_is t (r ∷ rs) l ls e =
    let same : bare l ∷ map bare ls ≡ line_of r ∷ map line_of rs = e in
    record {
      first = ap (λ x. with_lines t (x ∷ [])) (sym (ap (λ (x : List Line). get_or x 0 Idle) same)) ∙ bare_writes t l;
      rest = ap (λ (x : List Line). drop 1 x) same;
    }

-- n records are worked in
abbrev pub with_worked : Store → ℕ → Store
with_worked s n = record { fresh = s.fresh; imaged = s.imaged; lasted = s.lasted; root = s.root; worked = n }

intact_worked : (m : Medium) (part : List ℕ) (s : Store) (n : ℕ) → Intact m part s → Intact m part (with_worked s n)
intact_worked m part s n i = record { long = i.long; ready = i.ready; table = i.table; clean = i.clean; plain = i.plain; pins = i.pins; images = i.images }

module _ (p : ℕ) (m : Medium) (room : List ℕ) (l : Ledger) (b : Pairs) (s : Stands p m room l b) where
  pub paged_now : Paged m (part_of room) l.store
  paged_now = record { intact = s.intact; ground = subst (λ n. Grounded n l.store.root (view_of m (part_of room))) (sym s.lasts.pages) s.ground; small = subst (λ n. n ≤ 4294967296) (sym s.lasts.pages) s.lasts.small }

  -- few enough pairs leave room in the tree
  pub ready_now : Workable m room l → Ready m (behind room) l.store
  ready_now w = record {
    spare = w.spare;
    room = room_left m.pages l.store.root (view_of m (part_of room)) paged_now.ground (omega (arith, paged_now.ground.pairs, w.pairs));
    few = omega (arith, paged_now.ground.pairs, w.pairs, paged_now.small);
  }

  module _ (e : Medium) (then : List ℕ) (z : Store) (c : Came m (behind room) l.store e (behind then) z) where
    abbrev q : List Record
    q = (lasting m).queue

    means : Means p b (lasting e)
    means = subst (λ f. Means p b (state_of f)) (sym c.shown) (means_lasts p b m s.lasts s.book)

    pub worked_is : z.worked ≡ l.store.worked
    worked_is = ap (λ (x : Store). x.worked) c.store

    -- the disk shows what it did
    pub came_stands : (n : ℕ) (r : Ring) → n ≤ length q → pairs_in e (part_of then) z ≡ after (last_pairs m) (take n q) → QueueIn then r → map bare (queue_lines then r) ≡ map line_of (drop n q) →
        SuccOk (pairs_in e (part_of then) z) (queue_lines then r) → (T z.imaged → 0 < n) → Stands p e then (record { store = with_worked z n; queue = r }) b
    came_stands n r done tree ring queue succs begun = record {
      lasts = lasts_means p b e (c.pages ∙ s.lasts.pages) s.lasts.big s.lasts.small means;
      book = means.book;
      intact = intact_worked e (part_of then) z n c.paged.intact;
      sealed = ap (λ h. queue_by (head_of h) e.shown) c.head ∙ (ap (queue_by (next (part_of room))) c.shown ∙ (s.sealed ∙ ap (λ f. (state_of f).queue) (sym c.shown)));
      ground = subst (λ j. Grounded j z.root (view_of e (part_of then))) (c.pages ∙ s.lasts.pages) c.paged.ground;
      done = subst (λ f. n ≤ length (state_of f).queue) (sym c.shown) done;
      tree = subst (λ f. pairs_in e (part_of then) z ≡ after (pairs_by (state_of f).root (state_of f).page) (take n (state_of f).queue)) (sym c.shown) tree;
      ring = ring;
      queue = subst (λ f. map bare (queue_lines then r) ≡ map line_of (drop n (state_of f).queue)) (sym c.shown) queue;
      succs = succs;
      begun = begun;
    }

    module _ (ns : List ℕ) (r : Ring) (g : Goes ns l.queue m room l.store e then z r) where
      abbrev w : ℕ
      w = l.store.worked

      front : Front (now_pairs m room l) (drop w q) g.applied.front g.applied.rest
      front = front_is (now_pairs m room l) (drop w q) g.applied.front g.applied.rest (ap (map bare) (sym g.applied.was) ∙ s.queue)

      tree_on : pairs_in e (part_of then) z ≡ after (last_pairs m) (take (z.worked + 1) q)
      tree_on =
          g.applied.tree
          ∙ (sym front.first
          ∙ (ap (λ t. after t (take 1 (drop w q))) s.tree
          ∙ (sym (after_append (last_pairs m) (take w q) (take 1 (drop w q)))
          ∙ (ap (after (last_pairs m)) (sym (take-add w 1 q)) ∙ ap (λ n. after (last_pairs m) (take (n + 1) q)) (sym worked_is)))))

      queue_on : map bare (queue_lines then r) ≡ map line_of (drop (z.worked + 1) q)
      queue_on =
          ap (map bare) g.applied.queue
          ∙ (bare_kept (change_by g.applied.front) g.applied.rest
          ∙ (front.rest
          ∙ (ap (map line_of) (drop-drop 1 w q) ∙ ap (λ n. map line_of (drop (n + 1) q)) (sym worked_is))))

      done_on : z.worked + 1 ≤ length q
      done_on = omega (arith, worked_is, durable p m room l b s, g.count)

      pub worked_stands : Stands p e then (record { store = with_worked z (z.worked + 1); queue = r }) b
      worked_stands = came_stands (z.worked + 1) r done_on tree_on g.ring queue_on g.succs (λ _. omega arith)

      pub worked_few : z.worked + 1 ≤ 32768
      worked_few = omega (arith, done_on, s.lasts.few)

      pub worked_on : Worked l (record { store = with_worked z (z.worked + 1); queue = r })
      worked_on = record { worked = ap (λ n. n + 1) worked_is; queue = g.count }

      pub worked_upkept : Upkept ns (now_pairs m room l) (now_pairs e then (record { store = with_worked z (z.worked + 1); queue = r })) room then
      worked_upkept = record {
        long = g.ring.room ∙ sym s.ring.room;
        deals = λ d k. ap (map bare) (g.applied.deals d k) ∙ bare_kept (change_by g.applied.front) (deal_lines room d (get_or ns d 0));
        succs = g.deals;
        clerks = sym (drop-drop 62976 196608 then) ∙ (c.rest ∙ drop-drop 62976 196608 room);
      }

-- the power went meanwhile
pub worked_cut : (p : ℕ) (m : Medium) (room : List ℕ) (l : Ledger) (b : Pairs) → Stands p m room l b → (e : Medium) (v : List ℕ) (z : Store) → Onto m (behind room) l.store false e v z → Cut p b e
worked_cut p m room l b s e v z (went k) = lost_cut p m (part_of room) l.store b [] (ahead_of p m room l b s) e k
