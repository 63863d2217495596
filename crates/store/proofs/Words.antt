-- The words of a head, and what a write to one of them changes.
use Rattle.std.proofs.Common.{◌≡◌, ℕ, zero, suc, ◌+◌, ◌-◌, ◌*◌, ◌%◌, ◌<◌, ◌≤◌, min, List, [], ◌∷◌, ◌++◌, length, get_or, take, drop, set, sym, refl, ap, ◌∙◌, mul_comm, add-one, arith, length-append, length-drop, length-set, length-take, get_or-drop, get_or-set_other, get_or-take, get_or-set_same, drop-set-lt, ext_get_or}
use lib.Seq.{drop-set-add}
use Rattle.std.proofs.lemmas.List.{take_more_set}
use Rattle.store.specs.declared.head.Record.{Record}
use Rattle.store.specs.declared.head.Record.TheVariants.{Put, Drop}
use Rattle.store.specs.declared.head.Root.{Root}
use Rattle.store.specs.Head.{Head, head_of, root_at, record_at, record_of, put_record, records_in, tag_of, key_of, word_of, joined, turned, stamped, begun, aimed, rooted, freed, wholly}

-- reading a record gives what was written
pub record_back : (r : Record) → record_of (tag_of r) (key_of r) (word_of r) ≡ r
record_back (Put k x) = refl
record_back (Drop k) = refl

pub same_record : {t a b u c d : ℕ} → t ≡ u → a ≡ c → b ≡ d → record_of t a b ≡ record_of u c d
same_record {t} {a} {b} {u} {c} {d} p q r = ap (λ x. record_of x a b) p ∙ ap (λ x. record_of u x b) q ∙ ap (λ x. record_of u c x) r

pub record_kept : (w v : List ℕ) (j : ℕ) → ((i : ℕ) → 128 + 3 * j ≤ i → i < 128 + 3 * j + 3 → get_or w i 0 ≡ get_or v i 0) → record_at w j ≡ record_at v j
record_kept w v j e = same_record (e (128 + 3 * j) (omega arith) (omega arith)) (e (128 + 3 * j + 1) (omega arith) (omega arith)) (e (128 + 3 * j + 2) (omega arith) (omega arith))

module _ (w : List ℕ) (j : ℕ) (r : Record) where
  pub put_elsewhere : (i : ℕ) → (128 + 3 * j ≤ i → i < 128 + 3 * j + 3 → ⊥) → get_or (put_record w j r) i 0 ≡ get_or w i 0
  put_elsewhere i ne =
      get_or-set_other _ (128 + 3 * j + 2) i (word_of r) 0 (λ e. ne (omega arith) (omega arith))
      ∙ get_or-set_other _ (128 + 3 * j + 1) i (key_of r) 0 (λ e. ne (omega arith) (omega arith))
      ∙ get_or-set_other w (128 + 3 * j) i (tag_of r) 0 (λ e. ne (omega arith) (omega arith))

  pub put_there : 128 + 3 * j + 3 ≤ length w → record_at (put_record w j r) j ≡ r
  put_there l = same_record
      (get_or-set_other _ (128 + 3 * j + 2) (128 + 3 * j) (word_of r) 0 (λ e. absurd (omega arith)) ∙ get_or-set_other _ (128 + 3 * j + 1) (128 + 3 * j) (key_of r) 0 (λ e. absurd (omega arith)) ∙ get_or-set_same w (128 + 3 * j) (tag_of r) 0 (omega arith))
      (get_or-set_other _ (128 + 3 * j + 2) (128 + 3 * j + 1) (word_of r) 0 (λ e. absurd (omega arith)) ∙ get_or-set_same (set w (128 + 3 * j) (tag_of r)) (128 + 3 * j + 1) (key_of r) 0 (simp length-set (omega arith)))
      (get_or-set_same (set (set w (128 + 3 * j) (tag_of r)) (128 + 3 * j + 1) (key_of r)) (128 + 3 * j + 2) (word_of r) 0 (simp length-set (omega arith)))
      ∙ record_back r

  pub length_put : length (put_record w j r) ≡ length w
  length_put = simp length-set

pub length_records_in : (n : ℕ) (w : List ℕ) → length (records_in n w) ≡ n
unfolding records_in
length_records_in zero w = refl
length_records_in (suc n) w = length-append (records_in n w) (record_at w n ∷ []) ∙ omega (arith, length_records_in n w)

pub records_kept : (n : ℕ) (w v : List ℕ) → ((i : ℕ) → 128 ≤ i → i < 128 + 3 * n → get_or w i 0 ≡ get_or v i 0) → records_in n w ≡ records_in n v
unfolding records_in
records_kept zero w v e = refl
records_kept (suc n) w v e =
    ap (λ l. l ++ record_at w n ∷ []) (records_kept n w v (λ i l m. e i l (omega arith)))
    ∙ ap (λ r. records_in n v ++ r ∷ []) (record_kept w v n (λ i l m. e i (omega arith) (omega arith)))

pub records_more : (n : ℕ) (w : List ℕ) → records_in (n + 1) w ≡ records_in n w ++ record_at w n ∷ []
unfolding records_in
records_more n w = ap (λ k. records_in k w) (add-one n)

-- the words of the batch's targets
pub targets_kept : (w v : List ℕ) → length w ≡ length v → get_or w 2 0 ≡ get_or v 2 0 → ((k : ℕ) → k < get_or v 2 0 → get_or w (3 + k) 0 ≡ get_or v (3 + k) 0) →
    take (get_or w 2 0) (drop 3 w) ≡ take (get_or v 2 0) (drop 3 v)
targets_kept w v l c e = ap (λ n. take n (drop 3 w)) c ∙ ext_get_or 0 _ _ (simp (length-take, length-drop) (ap (λ n. min (get_or v 2 0) (n - 3)) l))
    (λ i m. let b : i < get_or v 2 0 = omega (arith, length-take (get_or v 2 0) (drop 3 w)) in
    get_or-take (get_or v 2 0) (drop 3 w) i 0 b ∙ get_or-drop 3 w i 0 ∙ e i b ∙ sym (get_or-take (get_or v 2 0) (drop 3 v) i 0 b ∙ get_or-drop 3 v i 0))

pub own_count : (w : List ℕ) → length (head_of w).own ≡ get_or w 75 0
unfolding head_of
own_count w = length_records_in (get_or w 75 0) w

pub target_count : (w : List ℕ) → length w ≡ 512 → length (head_of w).targets ≤ 64 → length (head_of w).targets ≡ get_or w 2 0
unfolding head_of
target_count w l few = let e : length (take (get_or w 2 0) (drop 3 w)) ≡ min (get_or w 2 0) (length w - 3) = simp (length-take, length-drop) in omega (arith, e, l, few)

-- the parts of two heads whose words there are the same
module _ (w v : List ℕ) where
  pub targets_same : length w ≡ 512 → length v ≡ 512 → length (head_of v).targets ≤ 64 → ((i : ℕ) → 2 ≤ i → i < 67 → get_or w i 0 ≡ get_or v i 0) → (head_of w).targets ≡ (head_of v).targets
  unfolding head_of
  targets_same l m few e = targets_kept w v (l ∙ sym m) (e 2 (omega arith) (omega arith)) (λ k b. e (3 + k) (omega arith) (omega (arith, target_count v m few)))

  pub root_same : ((i : ℕ) → 67 ≤ i → i < 72 → get_or w i 0 ≡ get_or v i 0) → root_at w ≡ root_at v
  root_same e =
      let p = e 67 (omega arith) (omega arith) in let q = e 68 (omega arith) (omega arith) in let r = e 69 (omega arith) (omega arith) in
      let s = e 70 (omega arith) (omega arith) in let t = e 71 (omega arith) (omega arith) in cc

  pub own_same : ((i : ℕ) → 75 ≤ i → get_or w i 0 ≡ get_or v i 0) → (head_of w).own ≡ (head_of v).own
  unfolding head_of
  own_same e = ap (λ n. records_in n w) (e 75 (omega arith)) ∙ records_kept (get_or v 75 0) w v (λ i b _. e i (omega arith))

pub front_kept : (w v : List ℕ) → length w ≡ 512 → length v ≡ 512 → length (head_of v).targets ≤ 64 → ((i : ℕ) → 0 < i → i < 73 → get_or w i 0 ≡ get_or v i 0) →
    ((head_of w).region ≡ (head_of v).region) × ((head_of w).targets ≡ (head_of v).targets) × ((head_of w).root ≡ (head_of v).root) × ((head_of w).first ≡ (head_of v).first)
unfolding head_of
front_kept w v l m few e = (
  e 1 (omega arith) (omega arith),
  targets_same w v l m few (λ i a b. e i (omega arith) (omega arith)),
  root_same w v (λ i a b. e i (omega arith) (omega arith)),
  e 72 (omega arith) (omega arith),
)

same_root : {a b c d e a' b' c' d' e' : ℕ} → a ≡ a' → b ≡ b' → c ≡ c' → d ≡ d' → e ≡ e' →
    ◌≡◌ {A = Root} (record { page = a; height = b; pairs = c; free = d; used = e }) (record { page = a'; height = b'; pairs = c'; free = d'; used = e' })
same_root p q r s t = cc

same_head : {f r i u d f' r' i' u' d' : ℕ} {t t' : List ℕ} {o o' : Root} {q q' : List Record} → f ≡ f' → r ≡ r' → t ≡ t' → o ≡ o' → i ≡ i' → u ≡ u' → d ≡ d' → q ≡ q' →
    ◌≡◌ {A = Head} (record { format = f; region = r; targets = t; root = o; first = i; full = u; done = d; own = q }) (record { format = f'; region = r'; targets = t'; root = o'; first = i'; full = u'; done = d'; own = q' })
same_head a b c d e f g h = cc

root_set : (w : List ℕ) (r : Root) → 72 ≤ length w → root_at (set (set (set (set (set w 67 r.page) 68 r.height) 69 r.pairs) 70 r.free) 71 r.used) ≡ r
root_set w r l =
    let a = set w 67 r.page in let b = set a 68 r.height in let c = set b 69 r.pairs in let d = set c 70 r.free in let v = set d 71 r.used in
    let t : get_or v 71 0 ≡ r.used = get_or-set_same d 71 r.used 0 (simp length-set (omega arith)) in
    let s : get_or v 70 0 ≡ r.free = get_or-set_other d 71 70 r.used 0 (λ e. absurd (omega arith)) ∙ get_or-set_same c 70 r.free 0 (simp length-set (omega arith)) in
    let q : get_or v 69 0 ≡ r.pairs = get_or-set_other d 71 69 r.used 0 (λ e. absurd (omega arith)) ∙ get_or-set_other c 70 69 r.free 0 (λ e. absurd (omega arith)) ∙ get_or-set_same b 69 r.pairs 0 (simp length-set (omega arith)) in
    let h : get_or v 68 0 ≡ r.height = get_or-set_other d 71 68 r.used 0 (λ e. absurd (omega arith)) ∙ get_or-set_other c 70 68 r.free 0 (λ e. absurd (omega arith)) ∙ get_or-set_other b 69 68 r.pairs 0 (λ e. absurd (omega arith)) ∙ get_or-set_same a 68 r.height 0 (simp length-set (omega arith)) in
    let p : get_or v 67 0 ≡ r.page = get_or-set_other d 71 67 r.used 0 (λ e. absurd (omega arith)) ∙ get_or-set_other c 70 67 r.free 0 (λ e. absurd (omega arith)) ∙ get_or-set_other b 69 67 r.pairs 0 (λ e. absurd (omega arith)) ∙ get_or-set_other a 68 67 r.height 0 (λ e. absurd (omega arith)) ∙ get_or-set_same w 67 r.page 0 (omega arith) in
    same_root p h q s t

module _ (w : List ℕ) (l : length w ≡ 512) (few : length (head_of w).targets ≤ 64) where
  pub stamp_head : head_of (set w 0 1) ≡ stamped (head_of w)
  unfolding head_of
  stamp_head =
      let o : (i : ℕ) → 0 < i → get_or (set w 0 1) i 0 ≡ get_or w i 0 = λ i b. get_or-set_other w 0 i 1 0 (λ e. absurd (omega arith)) in
      let f = front_kept (set w 0 1) w (simp length-set l) l few (λ i b _. o i b) in
      same_head (get_or-set_same w 0 1 0 (omega arith)) f.0 f.1 f.2 f.3 (o 73 (omega arith)) (o 74 (omega arith))
      (ap (λ n. records_in n (set w 0 1)) (o 75 (omega arith)) ∙ records_kept (get_or w 75 0) (set w 0 1) w (λ i b _. o i (omega arith)))

  pub join_head : (n : ℕ) (r : Record) → n ≡ length (head_of w).own → n < 128 → head_of (set (put_record w n r) 75 (n + 1)) ≡ joined r (head_of w)
  unfolding head_of
  join_head n r c b =
      let v = set (put_record w n r) 75 (n + 1) in
      let o : (i : ℕ) → (i ≡ 75 → ⊥) → (128 + 3 * n ≤ i → i < 128 + 3 * n + 3 → ⊥) → get_or (set (put_record w n r) 75 (n + 1)) i 0 ≡ get_or w i 0
      = λ i ne m. get_or-set_other (put_record w n r) 75 i (n + 1) 0 ne ∙ put_elsewhere w n r i m in
      let low : (i : ℕ) → i < 75 → get_or (set (put_record w n r) 75 (n + 1)) i 0 ≡ get_or w i 0 = λ i m. o i (λ e. absurd (omega arith)) (λ p q. absurd (omega arith)) in
      let f = front_kept v w (simp length-set l) l few (λ i _ m. low i (omega arith)) in
      let count : get_or (set (put_record w n r) 75 (n + 1)) 75 0 ≡ n + 1 = get_or-set_same (put_record w n r) 75 (n + 1) 0 (simp length-set (omega arith)) in
      let old : records_in n v ≡ records_in (get_or w 75 0) w
      = records_kept n v w (λ i p q. o i (λ e. absurd (omega arith)) (λ p' q'. absurd (omega arith))) ∙ ap (λ k. records_in k w) (c ∙ length_records_in (get_or w 75 0) w) in
      let new : record_at v n ≡ r
      = record_kept v (put_record w n r) n (λ i p q. get_or-set_other (put_record w n r) 75 i (n + 1) 0 (λ e. absurd (omega arith))) ∙ put_there w n r (omega arith) in
      same_head (low 0 (omega arith)) f.0 f.1 f.2 f.3 (low 73 (omega arith)) (low 74 (omega arith))
      (ap (λ k. records_in k v) count ∙ records_more n v ∙ ap (λ k. k ++ record_at v n ∷ []) old ∙ ap (λ k. records_in (get_or w 75 0) w ++ k ∷ []) new)

  pub turn_head : head_of (set (set w 73 (get_or w 73 0 + 1)) 75 0) ≡ turned (head_of w)
  unfolding head_of records_in
  turn_head =
      let x = get_or w 73 0 + 1 in
      let v = set (set w 73 x) 75 0 in
      let o : (i : ℕ) → (i ≡ 75 → ⊥) → (i ≡ 73 → ⊥) → get_or (set (set w 73 (get_or w 73 0 + 1)) 75 0) i 0 ≡ get_or w i 0
      = λ i p q. get_or-set_other (set w 73 x) 75 i 0 0 p ∙ get_or-set_other w 73 i x 0 q in
      let f = front_kept v w (simp length-set l) l few (λ i _ m. o i (λ e. absurd (omega arith)) (λ e. absurd (omega arith))) in
      same_head (o 0 (λ e. absurd (omega arith)) (λ e. absurd (omega arith))) f.0 f.1 f.2 f.3
      (get_or-set_other (set w 73 x) 75 73 0 0 (λ e. absurd (omega arith)) ∙ get_or-set_same w 73 x 0 (omega arith)) (o 74 (λ e. absurd (omega arith)) (λ e. absurd (omega arith)))
      (ap (λ n. records_in n v) (get_or-set_same (set w 73 x) 75 0 0 (simp length-set (omega arith))))

  pub begin_head : head_of (set (set w 1 (1 - get_or w 1 0)) 2 0) ≡ begun (head_of w)
  unfolding head_of
  begin_head =
      let x = 1 - get_or w 1 0 in
      let v = set (set w 1 x) 2 0 in
      let o : (i : ℕ) → (i ≡ 1 → ⊥) → (i ≡ 2 → ⊥) → get_or (set (set w 1 (1 - get_or w 1 0)) 2 0) i 0 ≡ get_or w i 0
      = λ i p q. get_or-set_other (set w 1 x) 2 i 0 0 q ∙ get_or-set_other w 1 i x 0 p in
      let far : (i : ℕ) → 3 ≤ i → get_or (set (set w 1 (1 - get_or w 1 0)) 2 0) i 0 ≡ get_or w i 0 = λ i b. o i (λ e. absurd (omega arith)) (λ e. absurd (omega arith)) in
      same_head (o 0 (λ e. absurd (omega arith)) (λ e. absurd (omega arith))) (get_or-set_other (set w 1 x) 2 1 0 0 (λ e. absurd (omega arith)) ∙ get_or-set_same w 1 x 0 (omega arith))
      (ap (λ n. take n (drop 3 v)) (get_or-set_same (set w 1 x) 2 0 0 (simp length-set (omega arith)))) (root_same v w (λ i a _. far i (omega arith)))
      (far 72 (omega arith)) (far 73 (omega arith)) (far 74 (omega arith)) (own_same v w (λ i a. far i (omega arith)))

  pub root_head : (r : Root) → head_of (set (set (set (set (set w 67 r.page) 68 r.height) 69 r.pairs) 70 r.free) 71 r.used) ≡ rooted r (head_of w)
  unfolding head_of
  root_head r =
      let a = set w 67 r.page in let b = set a 68 r.height in let c = set b 69 r.pairs in let d = set c 70 r.free in let v = set d 71 r.used in
      let o : (i : ℕ) → (67 ≤ i → i < 72 → ⊥) → get_or (set (set (set (set (set w 67 r.page) 68 r.height) 69 r.pairs) 70 r.free) 71 r.used) i 0 ≡ get_or w i 0
      = λ i n. get_or-set_other d 71 i r.used 0 (λ e. n (omega arith) (omega arith)) ∙ get_or-set_other c 70 i r.free 0 (λ e. n (omega arith) (omega arith)) ∙ get_or-set_other b 69 i r.pairs 0 (λ e. n (omega arith) (omega arith))
      ∙ get_or-set_other a 68 i r.height 0 (λ e. n (omega arith) (omega arith)) ∙ get_or-set_other w 67 i r.page 0 (λ e. n (omega arith) (omega arith)) in
      let low : (i : ℕ) → i < 67 → get_or (set (set (set (set (set w 67 r.page) 68 r.height) 69 r.pairs) 70 r.free) 71 r.used) i 0 ≡ get_or w i 0 = λ i m. o i (λ p q. absurd (omega arith)) in
      let far : (i : ℕ) → 72 ≤ i → get_or (set (set (set (set (set w 67 r.page) 68 r.height) 69 r.pairs) 70 r.free) 71 r.used) i 0 ≡ get_or w i 0 = λ i m. o i (λ p q. absurd (omega arith)) in
      same_head (low 0 (omega arith)) (low 1 (omega arith)) (targets_same v w (simp length-set l) l few (λ i _ m. low i m)) (root_set w r (omega arith))
      (far 72 (omega arith)) (far 73 (omega arith)) (far 74 (omega arith)) (own_same v w (λ i m. far i (omega arith)))

  pub free_head : (k q : ℕ) → q ≡ wholly k (head_of w) → head_of (set (set (set w 72 ((get_or w 72 0 + q) % 264)) 73 (get_or w 73 0 - q)) 74 (get_or w 74 0 + k - q * 128)) ≡ freed k (head_of w)
  unfolding head_of
  free_head k q whole =
      let x = (get_or w 72 0 + q) % 264 in let y = get_or w 73 0 - q in let z = get_or w 74 0 + k - q * 128 in
      let a = set w 72 x in let b = set a 73 y in let v = set b 74 z in
      let o : (i : ℕ) → (72 ≤ i → i < 75 → ⊥) → get_or (set (set (set w 72 ((get_or w 72 0 + q) % 264)) 73 (get_or w 73 0 - q)) 74 (get_or w 74 0 + k - q * 128)) i 0 ≡ get_or w i 0
      = λ i n. get_or-set_other b 74 i z 0 (λ e. n (omega arith) (omega arith)) ∙ get_or-set_other a 73 i y 0 (λ e. n (omega arith) (omega arith)) ∙ get_or-set_other w 72 i x 0 (λ e. n (omega arith) (omega arith)) in
      let low : (i : ℕ) → i < 72 → get_or (set (set (set w 72 ((get_or w 72 0 + q) % 264)) 73 (get_or w 73 0 - q)) 74 (get_or w 74 0 + k - q * 128)) i 0 ≡ get_or w i 0 = λ i m. o i (λ p' q'. absurd (omega arith)) in
      same_head (low 0 (omega arith)) (low 1 (omega arith)) (targets_same v w (simp length-set l) l few (λ i _ m. low i (omega arith))) (root_same v w (λ i _ m. low i m))
      (get_or-set_other b 74 72 z 0 (λ e. absurd (omega arith)) ∙ get_or-set_other a 73 72 y 0 (λ e. absurd (omega arith)) ∙ get_or-set_same w 72 x 0 (omega arith) ∙ ap (λ n. (get_or w 72 0 + n) % 264) whole)
      (get_or-set_other b 74 73 z 0 (λ e. absurd (omega arith)) ∙ get_or-set_same a 73 y 0 (simp length-set (omega arith)) ∙ ap (λ n. get_or w 73 0 - n) whole)
      (get_or-set_same b 74 z 0 (simp length-set (omega arith)) ∙ ap (λ n. get_or w 74 0 + k - n) (mul_comm q 128 ∙ ap (λ n. 128 * n) whole))
      (own_same v w (λ i m. o i (λ p' q'. absurd (omega arith))))

  pub aim_head : (p n : ℕ) → n ≡ get_or w 2 0 → n < 64 → head_of (set (set w (3 + n) p) 2 (n + 1)) ≡ aimed p (head_of w)
  unfolding head_of
  aim_head p n c b =
      let a = set w (3 + n) p in let v = set a 2 (n + 1) in
      let o : (i : ℕ) → (i ≡ 2 → ⊥) → (i ≡ 3 + n → ⊥) → get_or (set (set w (3 + n) p) 2 (n + 1)) i 0 ≡ get_or w i 0
      = λ i r s. get_or-set_other a 2 i (n + 1) 0 r ∙ get_or-set_other w (3 + n) i p 0 s in
      let far : (i : ℕ) → 67 ≤ i → get_or (set (set w (3 + n) p) 2 (n + 1)) i 0 ≡ get_or w i 0 = λ i m. o i (λ e. absurd (omega arith)) (λ e. absurd (omega arith)) in
      let d : drop 3 v ≡ set (drop 3 w) n p = drop-set-lt 3 a 2 (n + 1) (omega arith) ∙ drop-set-add 3 w n p in
      let i : n < length (drop 3 w) = simp length-drop (omega arith) in
      same_head (o 0 (λ e. absurd (omega arith)) (λ e. absurd (omega arith))) (o 1 (λ e. absurd (omega arith)) (λ e. absurd (omega arith)))
      (ap (λ k. take k (drop 3 v)) (get_or-set_same a 2 (n + 1) 0 (simp length-set (omega arith))) ∙ ap (take (n + 1)) d ∙ take_more_set (drop 3 w) n p i ∙ ap (λ k. take k (drop 3 w) ++ p ∷ []) c)
      (root_same v w (λ j m _. far j m)) (far 72 (omega arith)) (far 73 (omega arith)) (far 74 (omega arith)) (own_same v w (λ j m. far j (omega arith)))

pub full_word : (w : List ℕ) → get_or w 73 0 ≡ (head_of w).full
unfolding head_of
full_word w = refl

pub own_words : (w : List ℕ) → length (head_of w).own ≡ 128 → records_in 128 w ≡ (head_of w).own
unfolding head_of
own_words w e = ap (λ n. records_in n w) (sym e ∙ own_count w)

-- the words by which the code reads them
pub region_word : (w : List ℕ) → get_or w 1 0 ≡ (head_of w).region
unfolding head_of
region_word w = refl

pub ring_words : (w : List ℕ) → (get_or w 72 0 ≡ (head_of w).first) × (get_or w 73 0 ≡ (head_of w).full) × (get_or w 74 0 ≡ (head_of w).done)
unfolding head_of
ring_words w = (refl, refl, refl)

pub target_word : (w : List ℕ) (k : ℕ) → length w ≡ 512 → length (head_of w).targets ≤ 64 → k < length (head_of w).targets → get_or w (3 + k) 0 ≡ get_or (head_of w).targets k 0
unfolding head_of
target_word w k l few b = sym (get_or-take (get_or w 2 0) (drop 3 w) k 0 (omega (arith, target_count w l few)) ∙ get_or-drop 3 w k 0)
