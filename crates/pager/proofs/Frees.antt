-- The free list, page by page: one is handed out, one is given back, one is written.
use Rattle.std.proofs.Common.{◌≡◌, ℕ, ◌+◌, ◌-◌, ◌<◌, ◌≤◌, cond, eqb, ◌≢◌, List, [], ◌∷◌, length, get_or, sym, refl, ap, ◌∙◌, subst, inl, inr, arith}
use Rattle.store.specs.declared.head.Root.{Root}
use Rattle.tree.specs.Tree.{occ}
use Rattle.tree.proofs.Parts.{one_or, one_here}
use Rattle.pager.specs.Ground.{in_use, free_by, taken_by, room_by, root_with_free, root_with_used, Frees}
use Rattle.pager.proofs.Links.{Links, links_of, links_cons, links_nil, chain_is, ends_is, links_same, in_use_once, in_use_more, in_use_past, in_use_range, few_used}

-- page x was handed out: r is the root before, s the root after
pub record Handed (p : ℕ) (r s : Root) (v : ℕ → List ℕ) (x : ℕ) : Type 0 where
  pub low : 393 ≤ x
  pub high : x < p
  pub was : taken_by r v x ≡ 0
  pub taken : (q : ℕ) → taken_by s v q ≡ taken_by r v q + cond (eqb q x) 1 0
  pub room : room_by p r v ≡ room_by p s v + 1
  pub frees : Frees p s v

-- page x was given back: r and v are the root and the pages before, s and w after
pub record Returned (p : ℕ) (r s : Root) (v w : ℕ → List ℕ) (x : ℕ) : Type 0 where
  pub list : free_by s w ≡ x ∷ free_by r v
  pub taken : (q : ℕ) → taken_by r v q ≡ taken_by s w q + cond (eqb q x) 1 0
  pub room : room_by p s w ≡ room_by p r v + 1
  pub frees : Frees p s w

-- the pages w have the free list that v had
pub record SameFree (p : ℕ) (r : Root) (v w : ℕ → List ℕ) : Type 0 where
  pub list : free_by r w ≡ free_by r v
  pub taken : taken_by r w ≡ taken_by r v
  pub room : room_by p r w ≡ room_by p r v
  pub frees : Frees p r w

pub taken_once : (r : Root) (v : ℕ → List ℕ) (q : ℕ) → taken_by r v q ≤ 1
taken_once r v q = omega (arith, in_use_once r.used q)

pub taken_past : (r : Root) (v : ℕ → List ℕ) (q : ℕ) → 393 + r.used ≤ q → taken_by r v q ≡ 0
taken_past r v q h = omega (arith, in_use_past r.used q h)

-- no page past the disk's end is taken
pub taken_within : (p : ℕ) (r : Root) (v : ℕ → List ℕ) → Frees p r v → (q : ℕ) → p ≤ q → taken_by r v q ≡ 0
taken_within p r v f q h = taken_past r v q (omega (arith, f.near))

-- a taken page is a data page
pub taken_range : (p : ℕ) (r : Root) (v : ℕ → List ℕ) → Frees p r v → (q : ℕ) → 1 ≤ taken_by r v q → (393 ≤ q) × (q < p)
taken_range p r v f q h = let t = in_use_range r.used q (omega arith) in (t.0, omega (arith, t.1, f.near))

-- so is a free one
pub free_range : (p : ℕ) (r : Root) (v : ℕ → List ℕ) → Frees p r v → (q : ℕ) → 1 ≤ occ q (free_by r v) → (393 ≤ q) × (q < p)
free_range p r v f q h = let t = in_use_range r.used q (omega (arith, f.once q)) in (t.0, omega (arith, t.1, f.near))

links_by : (p : ℕ) (r : Root) (v : ℕ → List ℕ) → Frees p r v → Links v r.free (free_by r v)
links_by p r v f = links_of r.used r.free v f.ends

-- a chain of different pages that were ever used is the free list
pub frees_is : (p : ℕ) (r : Root) (v : ℕ → List ℕ) (ps : List ℕ) → Links v r.free ps → ((q : ℕ) → occ q ps ≤ in_use r.used q) → 393 + r.used ≤ p → (free_by r v ≡ ps) × Frees p r v
frees_is p r v ps k o n =
    let h = few_used r.used ps o in
    let e : free_by r v ≡ ps = chain_is r.used r.free v ps k h in
    (e, record { ends = ends_is r.used r.free v ps k h; once = λ q. subst (λ qs. occ q qs ≤ in_use r.used q) (sym e) (o q); near = n })

pub frees_same : (p : ℕ) (r : Root) (v w : ℕ → List ℕ) → ((q : ℕ) → 1 ≤ occ q (free_by r v) → w q ≡ v q) → Frees p r v → SameFree p r v w
frees_same p r v w h f =
    let t = frees_is p r w (free_by r v) (links_same v w r.free (free_by r v) h (links_by p r v f)) f.once f.near in
    record { list = t.0; taken = ap (λ ps. λ q. in_use r.used q - occ q ps) t.0; room = ap (λ ps. (p - (393 + r.used)) + length ps) t.0; frees = t.1 }

not_free : (u x : ℕ) (ps : List ℕ) → 1 ≤ in_use u x - occ x ps → occ x ps ≡ 0
not_free u x ps h = omega (arith, in_use_once u x)

apart : (u x q : ℕ) (ps : List ℕ) → 1 ≤ in_use u x - occ x ps → 1 ≤ occ q ps → q ≢ x
apart u x q ps t h z = omega (arith, not_free u x ps t, ap (λ y. occ y ps) z)

-- a page that was taken is written
pub frees_write : (p : ℕ) (r : Root) (v w : ℕ → List ℕ) (x : ℕ) → 1 ≤ taken_by r v x → ((q : ℕ) → q ≢ x → w q ≡ v q) → Frees p r v → SameFree p r v w
frees_write p r v w x t h f = frees_same p r v w (λ q o. h q (apart r.used x q (free_by r v) t o)) f

-- where u pages were ever used, x is one more free one
one_more : (u x : ℕ) (ps qs : List ℕ) → qs ≡ x ∷ ps → ((q : ℕ) → occ q qs ≤ in_use u q) → (q : ℕ) → in_use u q - occ q ps ≡ (in_use u q - occ q qs) + cond (eqb q x) 1 0
one_more u x ps qs e o q = omega (arith, o q, ap (λ l. occ q l) e)

-- where the free list isn't empty, its first page is in use
pub top_range : (p : ℕ) (r : Root) (v : ℕ → List ℕ) → Frees p r v → r.free ≢ 0 → (393 ≤ r.free) × (r.free < 393 + r.used)
top_range p r v f h =
    let t = links_cons v r.free (free_by r v) (links_by p r v f) h in
    in_use_range r.used r.free (omega (arith, f.once r.free, ap (λ l. occ r.free l) t.1, one_here r.free r.free refl))

-- the first page of the free list is handed out
pub pop_list : (p : ℕ) (r : Root) (v : ℕ → List ℕ) → Frees p r v → r.free ≢ 0 → (free_by r v ≡ r.free ∷ free_by (root_with_free r (get_or (v r.free) 0 0)) v) × Frees p (root_with_free r (get_or (v r.free) 0 0)) v
pop_list p r v f h =
    let t = links_cons v r.free (free_by r v) (links_by p r v f) h in
    let g = frees_is p (root_with_free r (get_or (v r.free) 0 0)) v t.0 t.2 (λ q. omega (arith, f.once q, ap (λ l. occ q l) t.1)) f.near in
    (t.1 ∙ ap (λ l. r.free ∷ l) (sym g.0), g.1)

pub frees_pop : (p : ℕ) (r : Root) (v : ℕ → List ℕ) → Frees p r v → r.free ≢ 0 → Handed p r (root_with_free r (get_or (v r.free) 0 0)) v r.free
frees_pop p r v f h =
    let s = root_with_free r (get_or (v r.free) 0 0) in
    let e = pop_list p r v f h in
    let u = top_range p r v f h in
    record {
      low = u.0;
      high = omega (arith, u.1, f.near);
      was = omega (arith, f.once r.free, ap (λ l. occ r.free l) e.0, one_here r.free r.free refl, in_use_once r.used r.free);
      taken = one_more r.used r.free (free_by s v) (free_by r v) e.0 f.once;
      room = omega (arith, ap length e.0);
      frees = e.1;
    }

-- a page that was never used is handed out
pub frees_new : (p : ℕ) (r : Root) (v : ℕ → List ℕ) → Frees p r v → r.free ≡ 0 → 0 < room_by p r v → Handed p r (root_with_used r (r.used + 1)) v (393 + r.used)
frees_new p r v f z h =
    let s = root_with_used r (r.used + 1) in
    let e = links_nil v r.free (free_by r v) (links_by p r v f) z in
    let l : 393 + r.used < p = omega (arith, ap length e) in
    let g = frees_is p s v [] z (λ q. omega arith) (omega arith) in
    record {
      low = omega arith;
      high = l;
      was = taken_past r v (393 + r.used) (omega arith);
      taken = λ q. omega (arith, in_use_more r.used q, ap (λ ps. occ q ps) e, ap (λ ps. occ q ps) g.0);
      room = omega (arith, ap length e, ap length g.0);
      frees = g.1;
    }

-- a page is given back: its first word is the page that was the first of the free list
pub frees_return : (p : ℕ) (r : Root) (v w : ℕ → List ℕ) (x : ℕ) → 1 ≤ taken_by r v x → ((q : ℕ) → q ≢ x → w q ≡ v q) → get_or (w x) 0 0 ≡ r.free → Frees p r v → Returned p r (root_with_free r x) v w x
frees_return p r v w x t h b f =
    let ps = free_by r v in
    let u = in_use_range r.used x (omega arith) in
    let k : Links w r.free ps = links_same v w r.free ps (λ q o. h q (apart r.used x q ps t o)) (links_by p r v f) in
    let o : (q : ℕ) → occ q (x ∷ ps) ≤ in_use r.used q = λ q. elim (one_or q x) [
      | inl z ↦ omega (arith, z, f.once q)
      | inr z ↦ omega (arith, one_here q x z, ap (λ y. occ y ps) z, ap (λ y. in_use r.used y) z, not_free r.used x ps t)
    ] in
    let g = frees_is p (root_with_free r x) w (x ∷ ps) (refl, (λ z. omega (arith, u.0)), subst (λ y. Links w y ps) (sym b) k) o f.near in
    record {
      list = g.0;
      taken = one_more r.used x ps (free_by (root_with_free r x) w) g.0 (λ q. subst (λ l. occ q l ≤ in_use r.used q) (sym g.0) (o q));
      room = omega (arith, ap length g.0);
      frees = g.1;
    }
