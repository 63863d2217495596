-- What stands on the disk and in the store's part of the room, while records join the next head and when they have lasted.
use Rattle.std.proofs.Common.{◌≡◌, ℕ, ◌+◌, ◌-◌, ◌<◌, ◌≤◌, Bool, false, T, inl, inr, ⊎_elim, List, [], ◌++◌, length, take, drop, map, sym, refl, ap, ◌∙◌, subst, append-nil, arith, length-append, length-drop}
use Rattle.std.proofs.lemmas.List.{map-append, take-append-le, drop-append-le, take-append-drop}
use Rattle.std.proofs.lemmas.Bool.{cases_lt}
use Rattle.std.proofs.Math.Seq.{take-add}
use Rattle.frames.specs.Layout.{Cache, cache_of}
use Rattle.frames.specs.Frames.{held, shown_by}
use Rattle.std.specs.Option.{unwrap_or}
use Rattle.store.specs.declared.head.Record.{Record}
use Rattle.store.specs.declared.Store.{Store}
use Rattle.store.specs.Medium.{Medium}
use Rattle.store.specs.Head.{head_of}
use Rattle.store.specs.State.{State, state_of, state_by, queue_by, Same}
use Rattle.store.specs.Store.{Intact, next, next_of, cache, frames_of, Appended, Shot, Sealed, Taken, Lost, Either, Takes}
use Rattle.store.specs.Store as store
use Rattle.store.proofs.Lasts.{batch_next}
use Rattle.view.specs.Writes.{with_lines}
use Rattle.view.proofs.Done.{lines_append}
use Rattle.pager.specs.Ground.{pairs_by, Grounded}
use Rattle.pager.specs.Volume.{view_of}
use Rattle.pager.proofs.Grounds.{ground_same}
use Rattle.ledger.specs.Ledger.{Pairs, line_of, after, limit, Fits, lasting, last_pairs, book_pairs, Lasts, Cut, CutEither}
use Rattle.ledger.specs.Commits.{puts_in}
use Rattle.ledger.proofs.Counting.{length_after, puts_append, puts_some}
use Rattle.ledger.proofs.Means.{Means, same_tree, means_same, means_lasts, lasts_means, cut_means, cut_either}

pub after_append : (t : Pairs) (a b : List Record) → after t (a ++ b) ≡ after (after t a) b
after_append t a b = ap (λ ls. with_lines t ls) (map-append line_of a b) ∙ lines_append t (map line_of a) (map line_of b)

-- b stands, and the records rs have joined the next head
pub record Ahead (p : ℕ) (m : Medium) (part : List ℕ) (s : Store) (b : Pairs) (rs : List Record) : Type 0 where
  pub lasts : Lasts p m
  pub book : book_pairs m ≡ b
  pub intact : Intact m part s
  pub sealed : queue_by (next part) m.shown ≡ (lasting m).queue ++ rs
  pub ground : Grounded p s.root (view_of m part)
  pub done : s.worked ≤ length (lasting m).queue
  pub tree : pairs_by s.root (view_of m part) ≡ after (last_pairs m) (take s.worked (lasting m).queue)
  pub begun : T s.imaged → 0 < s.worked

-- from there on: the book is c, and what was still to be done to the tree in the frames is done to it, and then rs
pub record Onward (p : ℕ) (m : Medium) (part : List ℕ) (s : Store) (e : Medium) (q : List ℕ) (z : Store) (c : Pairs) (rs ts : List Record) : Type 0 where
  pub ahead : Ahead p e q z c ts
  pub pairs : pairs_by z.root (view_of e q) ≡ pairs_by s.root (view_of m part)
  pub rest : drop z.worked (lasting e).queue ≡ drop s.worked (lasting m).queue ++ rs

-- a page that the disk shows alike is seen alike
shown_at : (c : Cache) (s t : ℕ → List ℕ) (x : ℕ) → t x ≡ s x → shown_by c t x ≡ shown_by c s x
shown_at c s t x e = ap (λ w. unwrap_or (held c x) w) e

module _ (p : ℕ) (m : Medium) (part : List ℕ) (s : Store) (b : Pairs) (rs : List Record) (h : Ahead p m part s b rs) where
  at_pages : (x y : State) → Same m.pages x y → Same p x y
  at_pages x y k = subst (λ n. Same n x y) h.lasts.pages k

  was : Means p b (lasting m)
  was = means_lasts p b m h.lasts h.book

  -- the same frames and the same data pages show the same tree
  module _ (e : Medium) (q : List ℕ) (z : Store) (root : z.root ≡ s.root) (seen : (x : ℕ) → 393 ≤ x → view_of e q x ≡ view_of m part x) where
    same_ground : Grounded p z.root (view_of e q)
    same_ground = subst (λ r. Grounded p r (view_of e q)) (sym root) (ground_same p s.root (view_of m part) (view_of e q) (λ x l _. seen x l) h.ground).ground

    same_pairs : pairs_by z.root (view_of e q) ≡ pairs_by s.root (view_of m part)
    same_pairs = ap (λ r. pairs_by r (view_of e q)) root ∙ (ground_same p s.root (view_of m part) (view_of e q) (λ x l _. seen x l) h.ground).pairs

  -- what lasts is as it was
  module _ (e : Medium) (q : List ℕ) (z : Store) (ts : List Record) (pages : e.pages ≡ m.pages) (state : Same m.pages (state_of e.shown) (state_of m.shown))
      (plain : (x : ℕ) → 393 ≤ x → e.shown x ≡ m.shown x) (frames : frames_of q ≡ frames_of part) (root : z.root ≡ s.root) (worked : z.worked ≡ s.worked)
      (intact : Intact e q z) (queue : queue_by (next q) e.shown ≡ (lasting e).queue ++ ts) (begun : T z.imaged → 0 < z.worked) where
    seen : (x : ℕ) → 393 ≤ x → view_of e q x ≡ view_of m part x
    seen x l = ap (λ f. shown_by (cache_of f) e.shown x) frames ∙ shown_at (cache part) m.shown e.shown x (plain x l)

    means : Means p b (lasting e)
    means = means_same p b (lasting e) (lasting m) (at_pages (lasting e) (lasting m) state) was

    kept : Ahead p e q z b ts
    kept = record {
      lasts = lasts_means p b e (pages ∙ h.lasts.pages) h.lasts.big h.lasts.small means;
      book = means.book;
      intact = intact;
      sealed = queue;
      ground = same_ground e q z root seen;
      done = subst (λ n. n ≤ length (lasting e).queue) (sym worked) (subst (λ (l : List Record). s.worked ≤ length l) (sym state.queue) h.done);
      tree = same_pairs e q z root seen ∙ h.tree ∙ ap (λ t. after t (take s.worked (lasting m).queue)) (sym (same_tree p (lasting e) (lasting m) (at_pages (lasting e) (lasting m) state) was.ground))
          ∙ ap (λ l. after (last_pairs e) (take s.worked l)) (sym state.queue) ∙ ap (λ n. after (last_pairs e) (take n (lasting e).queue)) (sym worked);
      begun = begun;
    }

    pub on_kept : Onward p m part s e q z b [] ts
    on_kept = record {
      ahead = kept;
      pairs = same_pairs e q z root seen;
      rest = ap (λ n. drop n (lasting e).queue) worked ∙ ap (drop s.worked) state.queue ∙ sym (append-nil _);
    }

-- no image is named, and nothing was worked in
idle : {A : Type 0} (i : Bool) → i ≡ false → T i → A
idle i e t = absurd (subst T e t)

module _ (p : ℕ) (m : Medium) (part : List ℕ) (s : Store) (b : Pairs) where
  pub lost_cut : (rs : List Record) → Ahead p m part s b rs → (e : Medium) → Lost m e → Cut p b e
  lost_cut rs h e l = cut_means p m.pages _ e h.lasts.pages h.lasts.big h.lasts.small l b (λ x k. means_same p b x (lasting m) (at_pages p m part s b rs h x (lasting m) k) (was p m part s b rs h))

  -- records join the next head
  pub ahead_appended : Ahead p m part s b [] → (rs : List Record) (e : Medium) (q : List ℕ) (z : Store) → Appended m part s rs e q z → Onward p m part s e q z b [] rs
  ahead_appended h rs e q z k =
      on_kept p m part s b [] h e q z rs k.held.pages k.held.state k.held.plain k.frames (ap (λ (x : Store). x.root) k.store) (ap (λ (x : Store). x.worked) k.store) k.intact
      (k.queue ∙ ap (λ l. l ++ rs) (h.sealed ∙ append-nil _ ∙ sym k.held.state.queue))
      (λ t. subst (λ (x : Store). 0 < x.worked) (sym k.store) (h.begun (subst (λ (x : Store). T x.imaged) k.store t)))

  -- images are made
  pub ahead_shot : Ahead p m part s b [] → 0 < s.worked → (e : Medium) (z : Store) → Shot m part s e z → Onward p m part s e part z b [] []
  ahead_shot h some e z k =
      on_kept p m part s b [] h e part z [] k.pages k.state k.plain refl (ap (λ (x : Store). x.root) k.store) (ap (λ (x : Store). x.worked) k.store) k.intact
      (k.queue ∙ h.sealed ∙ ap (λ l. l ++ []) (sym k.state.queue))
      (λ _. subst (λ (x : Store). 0 < x.worked) (sym k.store) some)

-- the records rs may join the queue for good
pub record Fitting (p : ℕ) (m : Medium) (rs : List Record) : Type 0 where
  pub few : length ((lasting m).queue ++ rs) ≤ 32768
  pub fits : Fits (limit p) (last_pairs m) ((lasting m).queue ++ rs)

pub fitting_none : (p : ℕ) (m : Medium) → Lasts p m → Fitting p m []
fitting_none p m l = record {
  few = subst (λ (q : List Record). length q ≤ 32768) (sym (append-nil _)) l.few;
  fits = subst (λ q. Fits (limit p) (last_pairs m) q) (sym (append-nil _)) l.fits;
}

add_sub : (a b : ℕ) → a ≤ b → a + (b - a) ≡ b
add_sub a b l = omega arith

-- the tree in the frames, and what is left to be done to it
module _ (p : ℕ) (m : Medium) (part : List ℕ) (s : Store) (b : Pairs) (rs : List Record) (h : Ahead p m part s b rs) where
  worked_tree : pairs_by s.root (view_of m part) ≡ after (last_pairs m) (take s.worked ((lasting m).queue ++ rs))
  worked_tree = h.tree ∙ ap (after (last_pairs m)) (sym (take-append-le s.worked (lasting m).queue rs h.done))

  worked_after : (i : ℕ) → after (pairs_by s.root (view_of m part)) (take i (drop s.worked ((lasting m).queue ++ rs))) ≡ after (last_pairs m) (take (s.worked + i) ((lasting m).queue ++ rs))
  worked_after i = let q = (lasting m).queue ++ rs in
      ap (λ t. after t (take i (drop s.worked q))) worked_tree ∙ sym (after_append (last_pairs m) (take s.worked q) (take i (drop s.worked q))) ∙ ap (after (last_pairs m)) (sym (take-add s.worked i q))

  -- the sum of the tree in the frames and of the puts that it hasn't seen
  module _ (most : length (pairs_by s.root (view_of m part)) + (puts_in (map line_of (drop s.worked (lasting m).queue)) + puts_in (map line_of rs)) ≤ limit p) where
    past : (i : ℕ) → length (after (last_pairs m) (take (s.worked + i) ((lasting m).queue ++ rs))) ≤ limit p
    past i =
        let q = drop s.worked ((lasting m).queue ++ rs) in
        subst (λ t. length t ≤ limit p) (worked_after i) (omega (
          arith,
          most,
          length_after (pairs_by s.root (view_of m part)) (map line_of (take i q)),
          puts_some i q,
          ap (λ r. puts_in (map line_of r)) (drop-append-le s.worked (lasting m).queue rs h.done),
          ap puts_in (map-append line_of (drop s.worked (lasting m).queue) rs),
          puts_append (map line_of (drop s.worked (lasting m).queue)) (map line_of rs),
        ))

    fits : Fits (limit p) (last_pairs m) ((lasting m).queue ++ rs)
    fits i = elim (cases_lt i s.worked) [
      | inl l ↦ subst (λ q. length (after (last_pairs m) q) ≤ limit p) (sym (take-append-le i (lasting m).queue rs (omega (arith, h.done)))) (h.lasts.fits i)
      | inr l ↦ subst (λ n. length (after (last_pairs m) (take n ((lasting m).queue ++ rs))) ≤ limit p) (add_sub s.worked i l) (past (i - s.worked))
    ]

    pub fitting : length ((lasting m).queue ++ rs) ≤ 32768 → Fitting p m rs
    fitting few = record { few = few; fits = fits }

-- they last
module _ (p : ℕ) (m : Medium) (part : List ℕ) (s : Store) (b : Pairs) (rs : List Record) (h : Ahead p m part s b rs) (g : Fitting p m rs) where
  -- the disk with the longer queue
  longer : Means p (after b rs) (record { root = (lasting m).root; queue = (lasting m).queue ++ rs; page = (lasting m).page })
  longer = record {
    ground = h.lasts.ground;
    few = g.few;
    fits = g.fits;
    book = after_append (last_pairs m) (lasting m).queue rs ∙ ap (λ t. after t rs) h.book;
  }

  next_same : Same p (state_by (next part) m.shown) (record { root = (lasting m).root; queue = (lasting m).queue ++ rs; page = (lasting m).page })
  next_same = record { root = h.intact.ready.follows.root; queue = h.sealed; page = λ x _ _. batch_next m.pages _ _ m.shown x h.intact.ready.follows }

  means_next : Means p (after b rs) (state_by (next part) m.shown)
  means_next = means_same p (after b rs) _ _ next_same longer

  -- all of it
  worked_whole : after (pairs_by s.root (view_of m part)) (drop s.worked ((lasting m).queue ++ rs)) ≡ after b rs
  worked_whole = let q = (lasting m).queue ++ rs in
      ap (λ t. after t (drop s.worked q)) (worked_tree p m part s b rs h) ∙ sym (after_append (last_pairs m) (take s.worked q) (drop s.worked q)) ∙ ap (after (last_pairs m)) (take-append-drop s.worked q) ∙ longer.book

  worked_queue : drop s.worked (queue_by (next part) m.shown) ≡ drop s.worked ((lasting m).queue ++ rs)
  worked_queue = ap (drop s.worked) h.sealed

  means_worked : Means p (after b rs) (store.worked m part s)
  means_worked = record {
    ground = h.ground;
    few = omega (arith, g.few, length-drop s.worked (queue_by (next part) m.shown), ap (λ (q : List Record). length q) h.sealed);
    fits = subst (λ q. Fits (limit p) (pairs_by s.root (view_of m part)) q) (sym worked_queue) (λ i. subst (λ t. length t ≤ limit p) (sym (worked_after p m part s b rs h i)) (g.fits (s.worked + i)));
    book = ap (after (pairs_by s.root (view_of m part))) worked_queue ∙ worked_whole;
  }

  pub either_cut : (e : Medium) → Either m (next part) e → CutEither p b (after b rs) e
  either_cut e c = cut_either p m.pages _ e h.lasts.pages h.lasts.big h.lasts.small c b (after b rs) (λ x k. ⊎_elim
      (λ (y : Same m.pages x (state_of m.shown)). inl (means_same p b x (lasting m) (at_pages p m part s b rs h x (lasting m) y) (was p m part s b rs h)))
      (λ (y : Same m.pages x (state_by (next part) m.shown)). inr (means_same p (after b rs) x _ (at_pages p m part s b rs h x _ y) means_next)) k)

  pub takes_cut : (e : Medium) (q : List ℕ) (z : Store) → Takes m part s false e q z → CutEither p b (after b rs) e
  takes_cut e q z c = cut_either p m.pages _ e h.lasts.pages h.lasts.big h.lasts.small c b (after b rs) (λ x k. ⊎_elim
      (λ (y : Same m.pages x (state_of m.shown)). inl (means_same p b x (lasting m) (at_pages p m part s b rs h x (lasting m) y) (was p m part s b rs h)))
      (λ (y : Same m.pages x (store.worked m part s)). inr (means_same p (after b rs) x _ (at_pages p m part s b rs h x _ y) means_worked)) k)

  -- by a seal
  module _ (e : Medium) (z : Store) (k : Sealed m part s e z) where
    sealed_root : z.root ≡ s.root
    sealed_root = ap (λ (x : Store). x.root) k.store

    sealed_worked : z.worked ≡ s.worked
    sealed_worked = ap (λ (x : Store). x.worked) k.store

    sealed_queue : (lasting e).queue ≡ (lasting m).queue ++ rs
    sealed_queue = k.state.queue ∙ h.sealed

    sealed_state : Same p (lasting e) (state_by (next part) m.shown)
    sealed_state = at_pages p m part s b rs h (lasting e) _ k.state

    sealed_means : Means p (after b rs) (lasting e)
    sealed_means = means_same p (after b rs) (lasting e) _ sealed_state means_next

    sealed_seen : (x : ℕ) → 393 ≤ x → view_of e part x ≡ view_of m part x
    sealed_seen x l = shown_at (cache part) m.shown e.shown x (k.plain x l)

    sealed_pairs : pairs_by z.root (view_of e part) ≡ pairs_by s.root (view_of m part)
    sealed_pairs = same_pairs p m part s b rs h e part z sealed_root sealed_seen

    sealed_last : last_pairs e ≡ last_pairs m
    sealed_last = same_tree p (lasting e) _ sealed_state means_next.ground ∙ same_tree p _ _ next_same longer.ground

    pub on_sealed : Onward p m part s e part z (after b rs) rs []
    on_sealed = record {
      ahead = record {
        lasts = lasts_means p (after b rs) e (k.pages ∙ h.lasts.pages) h.lasts.big h.lasts.small sealed_means;
        book = sealed_means.book;
        intact = k.intact;
        sealed = ap (λ w. queue_by (head_of w) e.shown) (sym k.head) ∙ sym (append-nil _);
        ground = same_ground p m part s b rs h e part z sealed_root sealed_seen;
        done = omega (arith, h.done, sealed_worked, ap (λ (q : List Record). length q) sealed_queue, length-append (lasting m).queue rs);
        tree = sealed_pairs ∙ worked_tree p m part s b rs h ∙ ap (λ t. after t (take s.worked ((lasting m).queue ++ rs))) (sym sealed_last)
            ∙ ap (λ q. after (last_pairs e) (take s.worked q)) (sym sealed_queue) ∙ ap (λ n. after (last_pairs e) (take n (lasting e).queue)) (sym sealed_worked);
        begun = λ t. subst (λ (x : Store). 0 < x.worked) (sym k.store) (h.begun (subst (λ (x : Store). T x.imaged) k.store t));
      };
      pairs = sealed_pairs;
      rest = ap (λ n. drop n (lasting e).queue) sealed_worked ∙ ap (drop s.worked) sealed_queue ∙ drop-append-le s.worked (lasting m).queue rs h.done;
    }

  -- with a batch
  module _ (e : Medium) (q : List ℕ) (z : Store) (k : Taken m part s e q z) where
    taken_root : z.root ≡ s.root
    taken_root = ap (λ (x : Store). x.root) k.store

    taken_worked : z.worked ≡ 0
    taken_worked = ap (λ (x : Store). x.worked) k.store

    taken_state : Same p (lasting e) (store.worked m part s)
    taken_state = at_pages p m part s b rs h (lasting e) _ k.state

    taken_means : Means p (after b rs) (lasting e)
    taken_means = means_same p (after b rs) (lasting e) _ taken_state means_worked

    taken_pairs : pairs_by z.root (view_of e q) ≡ pairs_by s.root (view_of m part)
    taken_pairs = same_pairs p m part s b rs h e q z taken_root k.view

    pub on_taken : Onward p m part s e q z (after b rs) rs []
    on_taken = record {
      ahead = record {
        lasts = lasts_means p (after b rs) e (k.pages ∙ h.lasts.pages) h.lasts.big h.lasts.small taken_means;
        book = taken_means.book;
        intact = k.intact;
        sealed = k.queue ∙ sym k.state.queue ∙ sym (append-nil _);
        ground = same_ground p m part s b rs h e q z taken_root k.view;
        done = omega (arith, taken_worked);
        tree = taken_pairs ∙ sym (same_tree p (lasting e) _ taken_state means_worked.ground) ∙ ap (λ n. after (last_pairs e) (take n (lasting e).queue)) (sym taken_worked);
        begun = λ t. idle z.imaged (ap (λ (x : Store). x.imaged) k.store) t;
      };
      pairs = taken_pairs;
      rest = ap (λ n. drop n (lasting e).queue) taken_worked ∙ k.state.queue ∙ worked_queue ∙ drop-append-le s.worked (lasting m).queue rs h.done;
    }
