-- What a call on the part of the room leaves of the whole room, and what it tells.
use Rattle.std.proofs.Common.{◌≡◌, ℕ, ◌-◌, Bool, true, false, List, length, drop, drop-drop, length-drop, Result, Ok, Err, sym, ap, ◌∙◌, subst, arith}
use Rattle.std.specs.Result.{is_ok, OnOk}
use Rattle.std.proofs.lemmas.Slice.{take-put_mid_below, drop-put_mid, between-put_mid}
use borrow.Rule.Slice.PartMut.{put_mid}
use Rattle.lines.specs.Tables.{tables, behind}
use Rattle.store.specs.declared.Store.{Store}
use Rattle.store.specs.Medium.{Medium}
use Rattle.store.specs.State.{Cut, Same, state_of}
use Rattle.store.specs.Store.{Lost, next_of}
use Rattle.pages.proofs.Mid.{length_put_mid}
use Rattle.pager.specs.Volume.{Paged, Leaves, Ends, pairs_in, with_root}
use Rattle.treeindex.specs.Behind.{part_in, Came, Onto, came, went}

pub came_of : {m : Medium} {w : List ℕ} {s : Store} {e : Medium} {v : List ℕ} {z : Store} → Onto m w s true e v z → Came m w s e v z
came_of (came c) = c

-- q is written over the store's part of the room w
module _ (w q : List ℕ) (l : length w ≡ 262144) where
  pub tables_stay : tables (put_mid 196608 62976 w q) ≡ tables w
  tables_stay = take-put_mid_below 196608 62976 w q 196608 (omega arith) (omega arith)

  module _ (k : length q ≡ 62976) where
    pub part_is : part_in (behind (put_mid 196608 62976 w q)) ≡ q
    part_is = between-put_mid 196608 62976 w q 259584 (omega arith) k

    rest_stays : drop 62976 (behind (put_mid 196608 62976 w q)) ≡ drop 62976 (behind w)
    rest_stays = drop-drop 62976 196608 (put_mid 196608 62976 w q) ∙ drop-put_mid 196608 62976 w q 259584 (omega arith) (omega arith) k ∙ sym (drop-drop 62976 196608 w)

    as_long : length (behind (put_mid 196608 62976 w q)) ≡ length (behind w)
    as_long = length-drop 196608 (put_mid 196608 62976 w q) ∙ ap (λ n. n - 196608) (length_put_mid 196608 62976 w q (omega arith) k) ∙ sym (length-drop 196608 w)

pub goes : (m : Medium) (w : List ℕ) (s : Store) (e : Medium) (x : List ℕ) (z : Store) → Lost m e → {a : Medium} {v : List ℕ} {u : Store} → Onto a v u true m w s → Onto a v u false e x z
goes m w s e x z l {a} o =
    let c = came_of o in
    went (subst (λ k. Cut k (λ y. Same k y (state_of a.shown)) e) c.pages (subst (λ f. Cut m.pages (λ y. Same m.pages y (state_of f)) e) c.shown l))

-- one call on the store's part of the room w, which ended as q
module _ (w : List ℕ) (l : length w ≡ 262144) (m : Medium) (s : Store) (t : List (ℕ × ℕ)) (n b : ℕ) (e : Medium) (q : List ℕ) (z : Store) where
  pub passes : (ok : Bool) → Ends t n b m (part_in (behind w)) s ok e q z → {a : Medium} {v : List ℕ} {u : Store} → Onto a v u true m (behind w) s → Onto a v u ok e (behind (put_mid 196608 62976 w q)) z
  passes true x {a} {v} {u} o =
      let c = came_of o in
      let k = x.paged.intact.long in
      let is = part_is w q l k in
      came (record {
        paged = subst (λ y. Paged e y z) (sym is) x.paged;
        pages = x.pages ∙ c.pages;
        shown = x.shown ∙ c.shown;
        long = as_long w q l k ∙ c.long;
        rest = rest_stays w q l k ∙ c.rest;
        head = ap next_of is ∙ x.head ∙ c.head;
        store = x.store ∙ ap (λ y. with_root y z.root) c.store;
      })
  passes false x o = goes _ _ s e _ z x o

  pub now_pairs : Leaves t n b m (part_in (behind w)) s e q z → pairs_in e (part_in (behind (put_mid 196608 62976 w q))) z ≡ t
  now_pairs x = ap (λ y. pairs_in e y z) (part_is w q l x.paged.intact.long) ∙ x.pairs

  pub if_ok : {A E X : Type 0} (r : Result A E) → (Leaves t n b m (part_in (behind w)) s e q z → X) → Ends t n b m (part_in (behind w)) s (is_ok r) e q z → OnOk r X
  if_ok (Ok a) f x = f x
  if_ok (Err a) f x = tt
