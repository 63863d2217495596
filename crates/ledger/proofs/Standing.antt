-- The book stands again: what is on the disk and in the store's part, with the queue in the room.
use Rattle.std.proofs.Common.{◌≡◌, ℕ, ◌+◌, ◌<◌, ◌≤◌, Bool, Result, Ok, Err, T, true, false, List, [], ◌++◌, drop, map, sym, ap, ◌∙◌, subst, append-nil}
use Rattle.std.specs.Result.{is_ok, OnOk}
use Rattle.std.proofs.lemmas.List.{map-append}
use Rattle.lines.specs.declared.ring.Ring.{Ring}
use Rattle.lines.specs.Lines.{bare}
use Rattle.lines.specs.Tables.{queue_lines, QueueIn}
use Rattle.store.specs.declared.head.Record.{Record}
use Rattle.store.specs.declared.Store.{Store}
use Rattle.store.specs.Medium.{Medium}
use Rattle.store.specs.Store.{cache, Takes, Shoots}
use Rattle.view.specs.Upkeep.{SuccOk}
use Rattle.view.proofs.Tabled.{queue_in_on}
use Rattle.pager.specs.Ground.{pairs_by}
use Rattle.pager.specs.Volume.{view_of}
use Rattle.ledger.specs.declared.Ledger.{Ledger}
use Rattle.ledger.specs.Ledger.{Pairs, part_of, line_of, now_pairs, lasting, Stands, Stays}
use Rattle.ledger.proofs.Parting.{Lent, only_queue}
use Rattle.ledger.proofs.Means.{cut_only}
use Rattle.ledger.proofs.Ahead.{Ahead, Onward, ahead_shot, fitting_none, lost_cut, takes_cut, on_taken}

pub ahead_of : (p : ℕ) (m : Medium) (room : List ℕ) (l : Ledger) (b : Pairs) → Stands p m room l b → Ahead p m (part_of room) l.store b []
ahead_of p m room l b s = record {
  lasts = s.lasts;
  book = s.book;
  intact = s.intact;
  sealed = s.sealed ∙ sym (append-nil _);
  ground = s.ground;
  done = s.done;
  tree = s.tree;
  begun = s.begun;
}

-- the room's queue r has taken in what has lasted
pub stands_on : (p : ℕ) (m : Medium) (room : List ℕ) (l : Ledger) (b : Pairs) → Stands p m room l b → (e : Medium) (then q : List ℕ) (z : Store) (c : Pairs) (rs : List Record) →
    Onward p m (part_of room) l.store e q z c rs [] → part_of then ≡ q → (r : Ring) → QueueIn then r → map bare (queue_lines then r) ≡ map bare (queue_lines room l.queue) ++ map line_of rs →
    SuccOk (now_pairs m room l) (queue_lines then r) → Stands p e then (record { store = z; queue = r }) c
stands_on p m room l b s e then q z c rs o pq r ring lines ok =
    let n = subst (λ x. Onward p m (part_of room) l.store e x z c rs []) (sym pq) o in
    let a = n.ahead in
    record {
      lasts = a.lasts;
      book = a.book;
      intact = a.intact;
      sealed = a.sealed ∙ append-nil _;
      ground = a.ground;
      done = a.done;
      tree = a.tree;
      ring = ring;
      queue = lines ∙ ap (λ x. x ++ map line_of rs) s.queue ∙ sym (map-append line_of (drop l.store.worked (lasting m).queue) rs) ∙ ap (map line_of) (sym n.rest);
      succs = subst (λ t. SuccOk t (queue_lines then r)) (sym n.pairs) ok;
      begun = a.begun;
    }

-- the book and the room's queue are as they were
module _ (p : ℕ) (m : Medium) (room : List ℕ) (l : Ledger) (b : Pairs) (s : Stands p m room l b) (e : Medium) (then q : List ℕ) (z : Store) (t : Lent room then q) where
  stands_same : Onward p m (part_of room) l.store e q z b [] [] → Stands p e then (record { store = z; queue = l.queue }) b
  stands_same o = let same = only_queue room then t.only l.queue in
      stands_on p m room l b s e then q z b [] o t.part l.queue (queue_in_on room then l.queue t.only.long s.ring)
      (ap (map bare) same ∙ sym (append-nil _)) (subst (SuccOk (now_pairs m room l)) (sym same) s.succs)

  pub take_tree : Takes m (part_of room) l.store true e q z → now_pairs e then (record { store = z; queue = l.queue }) ≡ now_pairs m room l
  take_tree k = subst (λ x. pairs_by z.root (view_of e x) ≡ now_pairs m room l) (sym t.part) (on_taken p m (part_of room) l.store b [] (ahead_of p m room l b s) (fitting_none p m s.lasts) e q z k).pairs

  pub image_tree : {A E : Type 0} (r : Result A E) → 0 < l.store.worked → q ≡ part_of room → Shoots m (part_of room) l.store (is_ok r) e z → OnOk r (now_pairs e then (record { store = z; queue = l.queue }) ≡ now_pairs m room l)
  image_tree (Ok a) some eq k = subst (λ x. pairs_by z.root (view_of e x) ≡ now_pairs m room l) (sym (t.part ∙ eq)) (ahead_shot p m (part_of room) l.store b (ahead_of p m room l b s) some e z k).pairs
  image_tree (Err a) some eq k = tt

  pub take_stays : (ok : Bool) → Takes m (part_of room) l.store ok e q z → Stays p b ok e then (record { store = z; queue = l.queue })
  take_stays true k = stands_same (on_taken p m (part_of room) l.store b [] (ahead_of p m room l b s) (fitting_none p m s.lasts) e q z k)
  take_stays false k = cut_only p b e (takes_cut p m (part_of room) l.store b [] (ahead_of p m room l b s) (fitting_none p m s.lasts) e q z k)

  pub image_stays : (ok : Bool) → 0 < l.store.worked → q ≡ part_of room → Shoots m (part_of room) l.store ok e z → Stays p b ok e then (record { store = z; queue = l.queue })
  image_stays true some eq k = stands_same (subst (λ x. Onward p m (part_of room) l.store e x z b [] []) (sym eq) (ahead_shot p m (part_of room) l.store b (ahead_of p m room l b s) some e z k))
  image_stays false some eq k = lost_cut p m (part_of room) l.store b [] (ahead_of p m room l b s) e k

-- where it went well
module _ (m : Medium) (part : List ℕ) (s : Store) (e : Medium) (z : Store) {A E : Type 0} where
  pub shot_imaged : (r : Result A E) → Shoots m part s (is_ok r) e z → OnOk r ((T z.imaged) × (z.worked ≡ s.worked))
  shot_imaged (Ok a) k = (subst (λ (x : Store). T x.imaged) (sym k.store) tt, ap (λ (x : Store). x.worked) k.store)
  shot_imaged (Err a) k = tt

  pub shot_left : (r : Result A E) → Shoots m part s (is_ok r) e z → OnOk r (m.left ≤ e.left + (cache part).count)
  shot_left (Ok a) k = k.left
  shot_left (Err a) k = tt
