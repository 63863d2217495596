-- What has joined the next head lasts, and the queue in the room takes it in.
use Rattle.std.proofs.Common.{◌≡◌, ℕ, ◌+◌, ◌≤◌, Bool, true, false, T, ◌&&◌, cond, inl, inr, List, [], ◌++◌, length, drop, map, sym, refl, ap, ◌∙◌, subst, append-nil, arith, length-append, length-drop, drop-drop}
use Rattle.std.proofs.lemmas.List.{map-append, length-map}
use Rattle.lines.specs.declared.line.Line.{Line}
use Rattle.lines.specs.declared.ring.Ring.{Ring}
use Rattle.lines.specs.Lines.{bare}
use Rattle.lines.proofs.Parts.{same_deals}
use Rattle.lines.specs.Tables.{queue_lines, QueueIn, OnlyQueue}
use Rattle.store.specs.declared.head.Record.{Record}
use Rattle.store.specs.declared.Store.{Store}
use Rattle.store.specs.Medium.{Medium}
use Rattle.store.specs.Store.{Appended, frames_of}
use Rattle.frames.specs.Layout.{cache_of}
use Rattle.view.specs.Adds.{writing}
use Rattle.view.specs.Upkeep.{SuccOk}
use Rattle.view.specs.Writes.{with_lines}
use Rattle.view.proofs.Filed.{length_queue}
use Rattle.pager.specs.Ground.{pairs_by}
use Rattle.pager.specs.Volume.{view_of}
use Rattle.ledger.specs.declared.Ledger.{Ledger}
use Rattle.ledger.specs.Ledger.{Pairs, part_of, line_of, after, limit, now_pairs, lasting, Stands, CutEither, OnlyPart, Aside}
use Rattle.ledger.specs.Commits.{records_by, puts_in, writes_any, Allows, Settles, Joined, settle_asks}
use Rattle.ledger.proofs.Counting.{puts_bare, puts_records, length_records, bare_records, after_records}
use Rattle.ledger.proofs.Ahead.{Ahead, Onward, Fitting, fitting, ahead_appended, on_sealed, on_taken, either_cut, takes_cut}
use Rattle.ledger.proofs.Appending.{none_writing, only_on}
use Rattle.ledger.proofs.Standing.{ahead_of, stands_on}

pub along_imaged : (a b : Bool) → (a && b) ≡ true → T a
along_imaged true b e = tt
along_imaged false b e = absurd (subst T (sym e) tt)

-- with the batch, or without
module _ (p : ℕ) (m : Medium) (part : List ℕ) (s : Store) (b : Pairs) (rs : List Record) (h : Ahead p m part s b rs) (g : Fitting p m rs) (e : Medium) (q : List ℕ) (z : Store) where
  pub on_settled : Settles m part s true e q z → Onward p m part s e q z (after b rs) rs []
  on_settled (inl k) = on_taken p m part s b rs h g e q z k
  on_settled (inr k) = subst (λ x. Onward p m part s e x z (after b rs) rs []) (sym k.1) (on_sealed p m part s b rs h g e z k.0)

  pub settled_cut : Settles m part s false e q z → CutEither p b (after b rs) e
  settled_cut (inl k) = takes_cut p m part s b rs h g e q z k
  settled_cut (inr k) = either_cut p m part s b rs h g e k.0

-- the durable queue is as long as what is worked in, and the room's
pub durable : (p : ℕ) (m : Medium) (room : List ℕ) (l : Ledger) (b : Pairs) → Stands p m room l b → length (lasting m).queue ≡ l.store.worked + l.queue.count
durable p m room l b s =
    omega (arith, s.done, ap (λ (x : List Line). length x) s.queue, length-map (queue_lines room l.queue) bare, length-map (drop l.store.worked (lasting m).queue) line_of, length-drop l.store.worked (lasting m).queue, length_queue room l.queue)

-- what the lines `own` write has joined the next head
module _ (p : ℕ) (m : Medium) (room : List ℕ) (l : Ledger) (b : Pairs) (s : Stands p m room l b) (own : List Line) (al : Allows m room l own)
    (e : Medium) (then : List ℕ) (z : Store) (a : Appended m (part_of room) l.store (records_by own) e (part_of then) z) where
  joined : Onward p m (part_of room) l.store e (part_of then) z b [] (records_by own)
  joined = ahead_appended p m (part_of room) l.store b (ahead_of p m room l b s) (records_by own) e (part_of then) z a

  fits : Fitting p e (records_by own)
  fits = fitting p e (part_of then) z b (records_by own) joined.ahead
      (omega (
        arith,
        al.pairs,
        ap limit s.lasts.pages,
        ap (λ (t : Pairs). length t) joined.pairs,
        ap (λ r. puts_in (map line_of r)) (joined.rest ∙ append-nil _),
        puts_records own,
        ap puts_in s.queue,
        puts_bare (queue_lines room l.queue),
      ))
      (omega (arith, al.records, durable p m room l b s, length_records own, ap (λ (x : List Record). length x) a.held.state.queue, length-append (lasting e).queue (records_by own)))

  -- and lasts
  module _ (f : Medium) (q : List ℕ) (y : Store) where
    pub commit_cut : Settles e (part_of then) z false f q y → CutEither p b (with_lines b own) f
    commit_cut k = subst (λ c. CutEither p b c f) (after_records b own) (settled_cut p e (part_of then) z b (records_by own) joined.ahead fits f q y k)

    module _ (k : Settles e (part_of then) z true f q y) where
      second : Onward p e (part_of then) z f q y (after b (records_by own)) (records_by own) []
      second = on_settled p e (part_of then) z b (records_by own) joined.ahead fits f q y k

      whole : Onward p m (part_of room) l.store f q y (after b (records_by own)) (records_by own) []
      whole = record { ahead = second.ahead; pairs = second.pairs ∙ joined.pairs; rest = second.rest ∙ ap (λ x. x ++ records_by own) (joined.rest ∙ append-nil _) }

      -- and the room's queue takes it in
      pub commit_stands : (v : List ℕ) (r : Ring) → part_of v ≡ q → QueueIn v r → queue_lines v r ≡ queue_lines room l.queue ++ writing own → SuccOk (now_pairs m room l) (queue_lines v r) →
          Stands p f v (record { store = y; queue = r }) (with_lines b own)
      commit_stands v r pq ring lines ok = subst (λ c. Stands p f v (record { store = y; queue = r }) c) (after_records b own) (stands_on p m room l b s f v q y (after b (records_by own)) (records_by own) whole pq r ring
          (ap (map bare) lines ∙ map-append bare (queue_lines room l.queue) (writing own) ∙ ap (λ x. map bare (queue_lines room l.queue) ++ x) (bare_records own)) ok)

      pub commit_joined : (v : List ℕ) (r : Ring) → part_of v ≡ q → queue_lines v r ≡ queue_lines room l.queue ++ writing own → Joined m room l own f v (record { store = y; queue = r })
      commit_joined v r pq lines = record {
        tree = ap (λ x. pairs_by y.root (view_of f x)) pq ∙ whole.pairs;
        queue = lines;
        worked = settled_worked k;
      }
        where
          settled_worked : Settles e (part_of then) z true f q y → y.worked ≤ l.store.worked
          settled_worked (inl t) = omega (arith, ap (λ (x : Store). x.worked) t.store)
          settled_worked (inr t) = omega (arith, ap (λ (x : Store). x.worked) t.0.store, ap (λ (x : Store). x.worked) a.store)

-- a deal that writes nothing
pub joined_none : (m : Medium) (room : List ℕ) (l : Ledger) (own : List Line) → writes_any own ≡ false → Joined m room l own m room l
joined_none m room l own e = record { tree = refl; queue = sym (ap (λ x. queue_lines room l.queue ++ x) (none_writing own e) ∙ append-nil _); worked = omega arith }

-- the store's part of the room was written, and then the queue
pub filed_aside : (room a v w : List ℕ) → OnlyPart room a → OnlyPart a v → OnlyQueue v w → length w ≡ length room → Aside room w
filed_aside room a v w f g only long = let o = only_on room a v f g in record {
  long = long;
  deals = λ d k l. only.deals d k l ∙ same_deals room v o.long o.tables d k l;
  clerks = sym (drop-drop 62976 196608 w) ∙ ap (drop 62976) only.behind ∙ drop-drop 62976 196608 v ∙ o.clerks;
}

-- as many askings as before
pub same_asks : (m : Medium) (p : List ℕ) (s : Store) (rs : List Record) (e : Medium) (q : List ℕ) (z : Store) → Appended m p s rs e q z → settle_asks q z ≡ settle_asks p s
same_asks m p s rs e q z a = ap (λ f. settle_at f z) a.frames ∙ ap (λ (y : Store). settle_at (frames_of p) y) a.store
  where
    settle_at : List ℕ → Store → ℕ
    settle_at f y = 3 + cond (y.imaged && y.lasted) (cache_of f).count 0
