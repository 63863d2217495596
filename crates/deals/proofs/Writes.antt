-- A deal as a row of writes: what it leaves of a book, and what is found there.
use Rattle.std.proofs.Common.{◌≡◌, ℕ, suc, Bool, ◌||◌, T, ltb, List, [], ◌∷◌, ◌++◌, map, length, refl, ap, ◌∙◌, ap₂, inl, inr, arith}
use lib.Dec.{eqb_refl}
use Rattle.std.specs.List.{AllByRecursion}
use Rattle.std.proofs.lemmas.List.{length-map, map_push, get_or-map, take-map}
use Rattle.std.proofs.ByRecursion.{All-get_or, All-push, All-take}
use Rattle.std.proofs.lemmas.Bool.{eq-eqb, ne_eqb, cases_eq, cases_Bool, ltb-true}
use Rattle.deals.specs.declared.Op.{Op}
use Rattle.deals.specs.declared.Op.TheVariants.{Get, Put, Drop, Next, Mark, Back, Commit, Undo}
use Rattle.deals.specs.declared.Answer.{Answer}
use Rattle.deals.specs.Deals.{Book, Said, step, leaves, marks_of, writes, some_writes}
use Rattle.deals.proofs.Books.{Up, find, up_put, up_drop, find_put_same, find_put_other, find_drop_same, find_drop_other}
pub use Rattle.deals.specs.Writes.{Write, Puts, Drops, apply, onto, written, found, writes_then, marks_then, writes_of, writes_at, effect, key_of, Misses, sees}

pub onto_push : (b : Book) (ws : List Write) (w : Write) → onto b (ws ++ w ∷ []) ≡ apply w (onto b ws)
onto_push b [] w = refl
onto_push b (v ∷ ws) w = onto_push (apply v b) ws w

pub found_push : (j : ℕ) (ws : List Write) (w : Write) (d : Answer) → found j (ws ++ w ∷ []) d ≡ written j w (found j ws d)
found_push j [] w d = refl
found_push j (v ∷ ws) w d = found_push j ws w (written j v d)

pub up_apply : (w : Write) (b : Book) → Up 0 b → Up 0 (apply w b)
up_apply (Puts k x) b u = up_put 0 k x b u (omega arith)
up_apply (Drops k) b u = up_drop 0 k b u

pub up_onto : (b : Book) (ws : List Write) → Up 0 b → Up 0 (onto b ws)
up_onto b [] u = u
up_onto b (w ∷ ws) u = up_onto (apply w b) ws (up_apply w b u)

pub find_apply : (j : ℕ) (w : Write) (b : Book) → Up 0 b → find j (apply w b) ≡ written j w (find j b)
find_apply j (Puts k x) b u =
    elim (cases_eq j k) [
      | inl e ↦ rw (eq-eqb j k e, e) (find_put_same k x b)
      | inr d ↦ rw (ne_eqb j k d) (find_put_other 0 j k x b u d)
    ]
find_apply j (Drops k) b u =
    elim (cases_eq j k) [
      | inl e ↦ rw (eq-eqb j k e, e) (find_drop_same 0 k b u)
      | inr d ↦ rw (ne_eqb j k d) (find_drop_other 0 j k b u d)
    ]

pub find_onto : (j : ℕ) (b : Book) (ws : List Write) → Up 0 b → find j (onto b ws) ≡ found j ws (find j b)
find_onto j b [] u = refl
find_onto j b (w ∷ ws) u = find_onto j (apply w b) ws (up_apply w b u) ∙ ap (found j ws) (find_apply j w b u)

-- one step on a book with writes
pub step_book : (b : Book) (o : Op) (ws : List Write) (ms : List (List Write)) → (step o (onto b ws) (map (onto b) ms)).book ≡ onto b (writes_then o ws ms)
unfolding step
step_book b o ws ms = grind (arith, onto_push, length-map, get_or-map)

pub step_marks : (b : Book) (o : Op) (ws : List Write) (ms : List (List Write)) → (step o (onto b ws) (map (onto b) ms)).marks ≡ map (onto b) (marks_then o ws ms)
unfolding step
step_marks b o ws ms = grind (arith, map_push, length-map, take-map)

-- all of a deal on a book with writes
pub leaves_onto : (b : Book) (ss : List Said) (ws : List Write) (ms : List (List Write)) → leaves ss (onto b ws) (map (onto b) ms) ≡ onto b (writes_of ss ws ms)
unfolding leaves
leaves_onto b [] ws ms = refl
leaves_onto b (s ∷ ss) ws ms = ap₂ (leaves ss) (step_book b s.op ws ms) (step_marks b s.op ws ms) ∙ leaves_onto b ss (writes_then s.op ws ms) (marks_then s.op ws ms)

pub marks_onto : (b : Book) (ss : List Said) (ws : List Write) (ms : List (List Write)) → marks_of ss (onto b ws) (map (onto b) ms) ≡ map (onto b) (writes_at ss ws ms)
unfolding marks_of
marks_onto b [] ws ms = refl
marks_onto b (s ∷ ss) ws ms = ap₂ (marks_of ss) (step_book b s.op ws ms) (step_marks b s.op ws ms) ∙ marks_onto b ss (writes_then s.op ws ms) (marks_then s.op ws ms)

-- what a deal leaves, and what is found then
pub leaves_is : (b : Book) (ss : List Said) → leaves ss b [] ≡ onto b (effect ss)
leaves_is b ss = leaves_onto b ss [] []

pub find_leaves : (j : ℕ) (b : Book) (ss : List Said) → Up 0 b → find j (leaves ss b []) ≡ found j (effect ss) (find j b)
find_leaves j b ss u = ap (find j) (leaves_is b ss) ∙ find_onto j b (effect ss) u

pub up_leaves : (b : Book) (ss : List Said) → Up 0 b → Up 0 (leaves ss b [])
up_leaves b ss u = rw (leaves_is b ss) (up_onto b (effect ss) u)

written_miss : (j : ℕ) (w : Write) (d : Answer) → (j ≡ key_of w → ⊥) → written j w d ≡ d
written_miss j w d h = grind arith

pub found_miss : (j : ℕ) (ws : List Write) (d : Answer) → Misses j ws → found j ws d ≡ d
found_miss j [] d h = refl
found_miss j (w ∷ ws) d h = rw (written_miss j w d h.0) (found_miss j ws d h.1)

miss_then : (j : ℕ) (o : Op) (ws : List Write) (ms : List (List Write)) → (T (writes j o) → ⊥) → Misses j ws → AllByRecursion (Misses j) ms → Misses j (writes_then o ws ms) × AllByRecursion (Misses j) (marks_then o ws ms)
unfolding writes
miss_then j (Get k) ws ms n h g = (h, g)
miss_then j (Put k x) ws ms n h g = (All-push (λ w. j ≡ key_of w → ⊥) ws (Puts k x) h (λ e. n (rw e (eqb_refl k))), g)
miss_then j (Drop k) ws ms n h g = (All-push (λ w. j ≡ key_of w → ⊥) ws (Drops k) h (λ e. n (rw e (eqb_refl k))), g)
miss_then j (Next k) ws ms n h g = (h, g)
miss_then j Mark ws ms n h g = (h, All-push (Misses j) ms ws g h)
miss_then j (Back i) ws ms n h g =
    elim (cases_Bool (ltb i (length ms))) [
      | inl e ↦ rw e (All-get_or (Misses j) ms i [] (ltb-true i (length ms) e) g, All-take (Misses j) (suc i) ms g)
      | inr e ↦ rw e (h, g)
    ]
miss_then j Commit ws ms n h g = (h, g)
miss_then j Undo ws ms n h g = (h, g)

pub or_left : (x y : Bool) → T x → T (x || y)
or_left x y t = grind arith

pub or_right : (x y : Bool) → T y → T (x || y)
or_right x y t = grind arith

pub miss_all : (j : ℕ) (ss : List Said) (ws : List Write) (ms : List (List Write)) → (T (some_writes j ss) → ⊥) → Misses j ws → AllByRecursion (Misses j) ms → Misses j (writes_of ss ws ms)
unfolding some_writes
miss_all j [] ws ms n h g = h
miss_all j (s ∷ ss) ws ms n h g =
    let m : Misses j (writes_then s.op ws ms) × AllByRecursion (Misses j) (marks_then s.op ws ms) = miss_then j s.op ws ms (λ t. n (or_left (writes j s.op) (some_writes j ss) t)) h g in
    miss_all j ss (writes_then s.op ws ms) (marks_then s.op ws ms) (λ t. n (or_right (writes j s.op) (some_writes j ss) t)) m.0 m.1

-- what a deal doesn't write it leaves
pub leaves_other : (j : ℕ) (b : Book) (ss : List Said) → Up 0 b → (T (some_writes j ss) → ⊥) → find j (leaves ss b []) ≡ find j b
leaves_other j b ss u n = find_leaves j b ss u ∙ found_miss j (effect ss) (find j b) (miss_all j ss [] [] n tt tt)
