-- The table of what pages held before: one entry more.
use Rattle.std.proofs.Common.{◌≡◌, ℕ, zero, suc, ◌<◌, ◌≤◌, ◌↔◌, cond, ltb, List, [], ◌∷◌, ◌++◌, length, take, Ok, Err, Result, IsOk, OnOk, OnErr, inl, inr, sym, refl, arith}
use Rattle.std.proofs.lemmas.List.{take_all}
use Rattle.std.proofs.lemmas.Bool.{cases_lt, lt-ltb, le-ltb}
use Rattle.memdisk.specs.declared.keeping.Entry.{Entry}
use Rattle.memdisk.specs.Bounded.{Bounded}
use Rattle.memdisk.specs.Entries.{kept}

-- what a push leaves, whether there was room or not
pub push_is : {T E : Type 0} (r : Result (Unit {0}) E) (b n : Bounded T) (x : T) → (IsOk r ↔ (length b.items < b.room)) → OnOk r (n ≡ record { items = b.items ++ x ∷ []; room = b.room }) → OnErr r (n ≡ b) →
    n ≡ record { items = cond (ltb (length b.items) b.room) (b.items ++ x ∷ []) b.items; room = b.room }
push_is (Ok u) b n x h p q = rw (lt-ltb (length b.items) b.room (h.0 refl)) p
push_is (Err e) b n x h p q =
    let full : b.room ≤ length b.items = elim (cases_lt (length b.items) b.room) [ inl l ↦ absurd (let z = h.1 l in cc) | inr f ↦ f ] in
    rw (le-ltb (length b.items) b.room full) q

-- a full table is emptied first
pub kept_full : (r : ℕ) (e : Entry) (es : List Entry) → length es ≡ r → cond (ltb 0 r) (e ∷ []) [] ≡ kept r e es
unfolding kept
kept_full r e es h = rw (le-ltb (length es) r (omega arith)) (alone r)
  where
    alone : (r : ℕ) → cond (ltb 0 r) (e ∷ []) [] ≡ take r (e ∷ [])
    alone zero = refl
    alone (suc r) = rw (lt-ltb 0 (suc r) (omega arith)) (sym (take_all (suc r) (e ∷ []) (omega arith)))

pub kept_more : (r : ℕ) (e : Entry) (es : List Entry) → (length es ≡ r → ⊥) → length es ≤ r → cond (ltb (length es) r) (es ++ e ∷ []) es ≡ kept r e es
unfolding kept
kept_more r e es ne le = rw (lt-ltb (length es) r (omega arith))
