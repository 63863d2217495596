-- Books: what is found at a key, after a put and after a drop; the next key; two books in which the same is found.
use Rattle.std.proofs.Common.{◌≡◌, ℕ, suc, ◌<◌, ◌≤◌, Bool, cond, ◌&&◌, T, eqb, ltb, leb, List, [], ◌∷◌, get_or, sym, refl, ap, ◌∙◌, ap₂, inl, inr, arith, le→leb, eqb→eq, ltb→lt, lt→ltb}
use lib.Dec.{eqb_refl}
use Rattle.std.proofs.lemmas.Bool.{lt-ltb, le-ltb, eq-eqb, ne_eqb, cases_order, cases_lt}
use Rattle.deals.specs.declared.Answer.{Answer}
use Rattle.deals.specs.declared.Answer.TheVariants.{Done, Missing, Word, Pair, Point, No, Full, Clash}
use Rattle.deals.specs.Deals.{Two, Book, below, from, keyless, word_of, pair_of, code, alike, same, up_to}
use Rattle.deals.specs.Promise.{rising}
pub use Rattle.deals.specs.Books.{Up, find, two, put_in, drop_in, IsNext, none, some, next_in}

pub up_less : (m n : ℕ) (b : Book) → m ≤ n → Up n b → Up m b
up_less m n [] h u = tt
up_less m n (p ∷ ps) h u = (omega (arith, u.0), u.1)

pub and_t : (x y : Bool) → T (x && y) → T x × T y
and_t x y t = grind arith

pub t_and : (x y : Bool) → T x → T y → T (x && y)
t_and x y s t = grind arith

up_tail : (p : Two) (b : Book) → T (rising (p ∷ b)) → Up (suc p.key) b
unfolding rising
up_tail p [] t = tt
up_tail p (q ∷ b) t = (ltb→lt p.key q.key (and_t (ltb p.key q.key) (rising (q ∷ b)) t).0, up_tail q b (and_t (ltb p.key q.key) (rising (q ∷ b)) t).1)

pub rising_up : (b : Book) → T (rising b) → Up 0 b
rising_up [] t = tt
rising_up (p ∷ b) t = (omega arith, up_tail p b t)

pub up_rising : (n : ℕ) (b : Book) → Up n b → T (rising b)
unfolding rising
up_rising n [] u = tt
up_rising n (p ∷ []) u = tt
up_rising n (p ∷ q ∷ b) u = t_and (ltb p.key q.key) (rising (q ∷ b)) (lt→ltb p.key q.key u.1.0) (up_rising (suc p.key) (q ∷ b) u.1)

pub find_none : (k : ℕ) → find k [] ≡ Missing
unfolding word_of from
find_none k = refl

pub find_past : (k : ℕ) (p : Two) (b : Book) → p.key < k → find k (p ∷ b) ≡ find k b
unfolding word_of from
find_past k p b h = rw (lt-ltb p.key k h)

pub find_here : (k : ℕ) (p : Two) (b : Book) → p.key ≡ k → find k (p ∷ b) ≡ Word p.word
unfolding word_of from
find_here k p b e = rw (le-ltb p.key k (omega arith), eq-eqb p.key k e)

pub find_before : (k : ℕ) (p : Two) (b : Book) → k < p.key → find k (p ∷ b) ≡ Missing
unfolding word_of from
find_before k p b h = rw (le-ltb p.key k (omega arith), ne_eqb p.key k (omega arith))

pub put_none : (k x : ℕ) → put_in k x [] ≡ two k x ∷ []
unfolding below from keyless
put_none k x = refl

pub put_past : (k x : ℕ) (p : Two) (b : Book) → p.key < k → put_in k x (p ∷ b) ≡ p ∷ put_in k x b
unfolding below from keyless
put_past k x p b h = rw (lt-ltb p.key k h)

pub put_here : (k x : ℕ) (p : Two) (b : Book) → p.key ≡ k → put_in k x (p ∷ b) ≡ two k x ∷ b
unfolding below from keyless
put_here k x p b e = rw (le-ltb p.key k (omega arith), eq-eqb p.key k e)

pub put_before : (k x : ℕ) (p : Two) (b : Book) → k < p.key → put_in k x (p ∷ b) ≡ two k x ∷ p ∷ b
unfolding below from keyless
put_before k x p b h = rw (le-ltb p.key k (omega arith), ne_eqb p.key k (omega arith))

pub drop_none : (k : ℕ) → drop_in k [] ≡ []
unfolding below from keyless
drop_none k = refl

pub drop_past : (k : ℕ) (p : Two) (b : Book) → p.key < k → drop_in k (p ∷ b) ≡ p ∷ drop_in k b
unfolding below from keyless
drop_past k p b h = rw (lt-ltb p.key k h)

pub drop_here : (k : ℕ) (p : Two) (b : Book) → p.key ≡ k → drop_in k (p ∷ b) ≡ b
unfolding below from keyless
drop_here k p b e = rw (le-ltb p.key k (omega arith), eq-eqb p.key k e)

pub drop_before : (k : ℕ) (p : Two) (b : Book) → k < p.key → drop_in k (p ∷ b) ≡ p ∷ b
unfolding below from keyless
drop_before k p b h = rw (le-ltb p.key k (omega arith), ne_eqb p.key k (omega arith))

-- nothing below where it begins
pub find_low : (n k : ℕ) (b : Book) → Up n b → k < n → find k b ≡ Missing
find_low n k [] u h = find_none k
find_low n k (p ∷ b) u h = find_before k p b (omega (arith, u.0))

pub up_put : (n k x : ℕ) (b : Book) → Up n b → n ≤ k → Up n (put_in k x b)
up_put n k x [] u h = grind (arith, put_none)
up_put n k x (p ∷ b) u h = grind (arith, put_here, put_past, put_before, cases_order p.key k, up_put (suc p.key) k x b u.1)

pub up_drop : (n k : ℕ) (b : Book) → Up n b → Up n (drop_in k b)
up_drop n k [] u = grind (arith, drop_none)
up_drop n k (p ∷ b) u = grind (arith, drop_here, drop_past, drop_before, cases_order p.key k, up_less n (suc p.key) b, up_drop (suc p.key) k b u.1)

-- what is found after a put, and after a drop
pub find_put_same : (k x : ℕ) (b : Book) → find k (put_in k x b) ≡ Word x
find_put_same k x [] = grind (arith, put_none, find_here)
find_put_same k x (p ∷ b) = grind (arith, cases_order p.key k, put_here, put_past, put_before, find_here, find_past, find_put_same k x b)

-- a pair in front of which and behind which the same stands
find_cons : (j : ℕ) (p : Two) (b c : Book) → find j b ≡ find j c → find j (p ∷ b) ≡ find j (p ∷ c)
find_cons j p b c e = grind (arith, cases_order p.key j, find_here, find_past, find_before)

-- a pair that is passed over, or that is above
find_skip : (n j : ℕ) (p : Two) (b : Book) → Up n b → p.key < n → (j ≡ p.key → ⊥) → find j (p ∷ b) ≡ find j b
find_skip n j p b u h d = grind (arith, cases_order p.key j, find_past, find_before, find_low n j b u)

pub find_put_other : (n j k x : ℕ) (b : Book) → Up n b → (j ≡ k → ⊥) → find j (put_in k x b) ≡ find j b
find_put_other n j k x [] u d = grind (arith, put_none, find_skip)
find_put_other n j k x (p ∷ b) u d = grind (arith, cases_order p.key k, put_here, put_past, put_before, find_skip, find_cons j p (put_in k x b) b, find_put_other (suc p.key) j k x b u.1 d)

pub find_drop_same : (n k : ℕ) (b : Book) → Up n b → find k (drop_in k b) ≡ Missing
find_drop_same n k [] u = grind (arith, drop_none, find_none)
find_drop_same n k (p ∷ b) u = grind (arith, cases_order p.key k, drop_here, drop_past, drop_before, find_past, find_before, find_low (suc p.key) k b u.1, find_drop_same (suc p.key) k b u.1)

pub find_drop_other : (n j k : ℕ) (b : Book) → Up n b → (j ≡ k → ⊥) → find j (drop_in k b) ≡ find j b
find_drop_other n j k [] u d = grind (arith, drop_none)
find_drop_other n j k (p ∷ b) u d = grind (arith, cases_order p.key k, drop_here, drop_past, drop_before, find_skip (suc p.key) j p b u.1, find_cons j p (drop_in k b) b, find_drop_other (suc p.key) j k b u.1 d)

pub next_only : (f : ℕ → Answer) (k : ℕ) (a c : Answer) → IsNext f k a → IsNext f k c → a ≡ c
next_only f k a c (none h) (none h') = refl
next_only f k a c (none h) (some l x g e v) = cc (h l g, e)
next_only f k a c (some l x g e v) (none h) = cc (h l g, e)
next_only f k a c (some l x g e v) (some m y g' e' v') = grind (arith, cases_order l m, v' l g, v m g', e, e')

next_none : (k : ℕ) → next_in k [] ≡ Missing
unfolding pair_of from
next_none k = refl

next_past : (k : ℕ) (p : Two) (b : Book) → p.key ≤ k → next_in k (p ∷ b) ≡ next_in k b
unfolding pair_of from
next_past k p b h = rw (lt-ltb p.key (suc k) (omega arith))

next_here : (k : ℕ) (p : Two) (b : Book) → k < p.key → next_in k (p ∷ b) ≡ Pair p.key p.word
unfolding pair_of from
next_here k p b h = rw (le-ltb p.key (suc k) h)

-- the same is found wherever Next looks
pub next_by : (f g : ℕ → Answer) (k : ℕ) (a : Answer) → ((j : ℕ) → T (up_to j k a) → f j ≡ g j) → IsNext f k a → IsNext g k a
unfolding up_to
next_by f g k a e (none h) = none (λ j l. sym (e j (lt→ltb k j l)) ∙ h j l)
next_by f g k a e (some l x i h v) =
    some l x i (sym (e l (t_and (ltb k l) (leb l l) (lt→ltb k l i) (le→leb l l (omega arith)))) ∙ h)
    (λ j u w. sym (e j (t_and (ltb k j) (leb j l) (lt→ltb k j u) (le→leb j l (omega arith)))) ∙ v j u w)

above : (j k : ℕ) (a : Answer) → T (up_to j k a) → k < j
unfolding up_to
above j k a t = grind arith

next_cons : (k : ℕ) (p : Two) (b : Book) (a : Answer) → p.key ≤ k → IsNext (λ j. find j b) k a → IsNext (λ j. find j (p ∷ b)) k a
next_cons k p b a h = next_by (λ j. find j b) (λ j. find j (p ∷ b)) k a (λ j t. sym (find_past j p b (omega (arith, above j k a t))))

pub next_is : (n k : ℕ) (b : Book) → Up n b → IsNext (λ j. find j b) k (next_in k b)
next_is n k [] u = rw next_none (none (λ j h. find_none j))
next_is n k (p ∷ b) u =
    elim (cases_lt k p.key) [
      | inl l ↦ rw (next_here k p b l) (some p.key p.word l (find_here p.key p b refl) (λ j g h. find_before j p b h))
      | inr g ↦ rw (next_past k p b g) (next_cons k p b (next_in k b) g (next_is (suc p.key) k b u.1))
    ]

pub next_told : (n k : ℕ) (b : Book) (a : Answer) → Up n b → IsNext (λ j. find j b) k a → next_in k b ≡ a
next_told n k b a u h = next_only (λ j. find j b) k (next_in k b) a (next_is n k b u) h

-- a book is what is found in it
same_tail : (p q : Two) (b c : Book) → Up (suc p.key) b → Up (suc q.key) c → ((k : ℕ) → find k (p ∷ b) ≡ find k (q ∷ c)) → p.key ≡ q.key → (k : ℕ) → find k b ≡ find k c
same_tail p q b c u v e i k = grind (arith, cases_lt, find_past, find_low)

same_pair : (p q : Two) (b c : Book) → ((k : ℕ) → find k (p ∷ b) ≡ find k (q ∷ c)) → p.key ≡ q.key → p ≡ q
same_pair p q b c e i = ap₂ two i (let w : Word p.word ≡ Word q.word = sym (find_here p.key p b refl) ∙ e p.key ∙ find_here p.key q c (sym i) in cc)

pub same_book : (n m : ℕ) (b c : Book) → Up n b → Up m c → ((k : ℕ) → find k b ≡ find k c) → b ≡ c
same_book n m [] [] u v e = refl
same_book n m [] (q ∷ c) u v e = cc (find_none q.key, e q.key, find_here q.key q c refl)
same_book n m (p ∷ b) [] u v e = cc (find_none p.key, e p.key, find_here p.key p b refl)
same_book n m (p ∷ b) (q ∷ c) u v e = grind (arith, cases_order p.key q.key, same_pair p q b c e, same_book (suc p.key) (suc q.key) b c u.1 v.1, same_tail p q b c u.1 v.1 e, e p.key, e q.key, find_here, find_before)

-- ANSWERS that are alike are the same.
decode : List ℕ → Answer
decode xs =
    cond (eqb (get_or xs 0 0) 0) Done (cond (eqb (get_or xs 0 0) 1) Missing (cond (eqb (get_or xs 0 0) 2) (Word (get_or xs 1 0)) (cond (eqb (get_or xs 0 0) 3) (Pair (get_or xs 1 0) (get_or xs 2 0))
    (cond (eqb (get_or xs 0 0) 4) (Point (get_or xs 1 0)) (cond (eqb (get_or xs 0 0) 5) (No (get_or xs 1 0)) (cond (eqb (get_or xs 0 0) 6) Full Clash))))))

decode_code : (a : Answer) → decode (code a) ≡ a
unfolding decode code
decode_code a = grind arith

alike_eq : (xs ys : List ℕ) → T (alike xs ys) → xs ≡ ys
unfolding alike
alike_eq [] [] t = refl
alike_eq [] (y ∷ ys) t = absurd t
alike_eq (x ∷ xs) [] t = absurd t
alike_eq (x ∷ xs) (y ∷ ys) t = ap₂ ◌∷◌ (eqb→eq x y (and_t (eqb x y) (alike xs ys) t).0) (alike_eq xs ys (and_t (eqb x y) (alike xs ys) t).1)

alike_refl : (xs : List ℕ) → T (alike xs xs)
unfolding alike
alike_refl [] = tt
alike_refl (x ∷ xs) = t_and (eqb x x) (alike xs xs) (eqb_refl x) (alike_refl xs)

pub same_eq : (a c : Answer) → T (same a c) → a ≡ c
same_eq a c t = sym (decode_code a) ∙ ap decode (alike_eq (code a) (code c) t) ∙ decode_code c

pub same_refl : (a : Answer) → T (same a a)
same_refl a = alike_refl (code a)
