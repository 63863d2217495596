-- What a change of some words of the room leaves as it was.
use Rattle.std.proofs.Common.{◌≡◌, ℕ, ◌+◌, ◌-◌, ◌*◌, ◌<◌, ◌≤◌, min, ◌⊎◌, List, length, get_or, take, drop, set, sym, refl, ap, ◌∙◌, ap₂, inl, inr, arith, rules}
use borrow.Rule.Slice.PartMut.{put_mid}
use Rattle.std.proofs.lemmas.List.{places, get_or-set_other, length-set, ext_get_or, get_or-take, get_or-drop, length-take, length-drop}
use Rattle.std.proofs.lemmas.Slice.{between-put_mid}
use Rattle.lines.specs.Rings.{lines_of}
use Rattle.lines.specs.Tables.{deal_ring, deal_lines}
use Rattle.deals.specs.Tables.{count_at, lines_in, words_op, op_of, op_at, waiting_in, order_of, rest_of, Off, Sound, OnlyDeals}

same3 : {t a b u c d : ℕ} → t ≡ u → a ≡ c → b ≡ d → words_op t a b ≡ words_op u c d
same3 {t} {a} {b} {u} {c} {d} p q r = ap (λ x. words_op x a b) p ∙ ap (λ x. words_op u x b) q ∙ ap (λ x. words_op u c x) r

pub set_off : (w : List ℕ) (p x : ℕ) → Off p 1 w (set w p x)
set_off w p x = record { long = length-set w p x; same = λ i h. get_or-set_other w p i x 0 (λ e. elim h [ inl l ↦ omega arith | inr l ↦ omega arith ]) }

-- a part of the room is written
pub mid_long : (a k : ℕ) (r y : List ℕ) → a + k ≤ length r → length y ≡ k → length (put_mid a k r y) ≡ length r
mid_long a k r y h e = search (rules, places)

pub mid_off : (a k : ℕ) (r y : List ℕ) → a + k ≤ length r → length y ≡ k → Off a k r (put_mid a k r y)
mid_off a k r y h e = record { long = mid_long a k r y h e; same = λ i g. elim g [ inl l ↦ grind (arith, places) | inr l ↦ grind (arith, places) ] }

pub mid_at : (a k m : ℕ) (r y : List ℕ) → a + k ≤ length r → length y ≡ k → m ≡ k → take m (drop a (put_mid a k r y)) ≡ y
mid_at a k m r y h e q = rw q (ap (λ j. take j (drop a (put_mid a k r y))) (let z : k ≡ a + k - a = omega arith in z) ∙ between-put_mid a k r y (a + k) (omega arith) (omega arith))

-- within more words
pub off_wider : (a n b m : ℕ) (r t : List ℕ) → Off a n r t → b ≤ a → a + n ≤ b + m → Off b m r t
off_wider a n b m r t f h g = record { long = f.long; same = λ i l. f.same i (elim l [ inl x ↦ inl (omega arith) | inr x ↦ inr (omega arith) ]) }

-- the three words of what is asked are written
pub op_put : (w y : List ℕ) (c k : ℕ) → 259584 + 3 * c + 3 ≤ length w → length y ≡ k → k ≡ 3 → op_at (put_mid (259584 + 3 * c) k w y) c ≡ op_of y
unfolding op_at
op_put w y c k fits long three =
    let p : ℕ = 259584 + 3 * c in
    let t : List ℕ = put_mid (259584 + 3 * c) k w y in
    let word : (q j : ℕ) → q ≡ p + j → j < 3 → get_or t q 0 ≡ get_or y j 0 = λ q j e h. grind (arith, places) in
    same3 (word p 0 (omega arith) (omega arith)) (word (p + 1) 1 refl (omega arith)) (word (p + 2) 2 refl (omega arith))

-- WORDS THAT ARE AS THEY WERE: k of them, from p on
abbrev pub Kept : ℕ → ℕ → List ℕ → List ℕ → Type 0
Kept p k r t = (i : ℕ) → p ≤ i → i < p + k → get_or t i 0 ≡ get_or r i 0

pub off_kept : (a n : ℕ) (r t : List ℕ) (p k : ℕ) → Off a n r t → (p + k ≤ a) ⊎ (a + n ≤ p) → Kept p k r t
off_kept a n r t p k f h i l g = f.same i (elim h [ inl x ↦ inl (omega arith) | inr x ↦ inr (omega arith) ])

pub kept_then : (r t u : List ℕ) (p k : ℕ) → Kept p k r t → Kept p k t u → Kept p k r u
kept_then r t u p k f g i l h = g i l h ∙ f i l h

pub kept_part : (r t : List ℕ) (p k : ℕ) → length t ≡ length r → Kept p k r t → take k (drop p t) ≡ take k (drop p r)
kept_part r t p k e f =
    ext_get_or 0 (take k (drop p t)) (take k (drop p r)) (length_of t ∙ ap (λ n. min k (n - p)) e ∙ sym (length_of r))
    (λ i h.
    let l : i < k = omega (arith, length_of t) in
    get_or-take k (drop p t) i 0 l ∙ get_or-drop p t i 0 ∙ f (p + i) (omega arith) (omega arith) ∙ sym (get_or-take k (drop p r) i 0 l ∙ get_or-drop p r i 0))
  where
    length_of : (x : List ℕ) → length (take k (drop p x)) ≡ min k (length x - p)
    length_of x = length-take k (drop p x) ∙ ap (min k) (length-drop p x)

pub kept_op : (r t : List ℕ) (c : ℕ) → Kept (259584 + 3 * c) 3 r t → op_at t c ≡ op_at r c
unfolding op_at
kept_op r t c f = same3 (f (259584 + 3 * c) (omega arith) (omega arith)) (f (259584 + 3 * c + 1) (omega arith) (omega arith)) (f (259584 + 3 * c + 2) (omega arith) (omega arith))

pub kept_lines : (r t : List ℕ) (c : ℕ) → length t ≡ length r → Kept (3072 * c) 3072 r t → count_at t c ≡ count_at r c → lines_in t c ≡ lines_in r c
unfolding lines_in deal_lines
kept_lines r t c e f g = ap₂ (λ w n. lines_of w (deal_ring n)) (kept_part r t (3072 * c) 3072 e f) g

pub kept_order : (r t : List ℕ) → length t ≡ length r → Kept 259712 33 r t → order_of t ≡ order_of r
unfolding order_of
kept_order r t e f = ap₂ take (f 259744 (omega arith) (omega arith)) (kept_part r t 259712 32 e (λ i l h. f i l (omega arith)))

pub kept_rest : (r t : List ℕ) → length t ≡ length r → Kept 98304 161280 r t → rest_of t ≡ rest_of r
unfolding rest_of
kept_rest r t e f = kept_part r t 98304 161280 e f

pub only_deals : (r t : List ℕ) → Sound r → length t ≡ length r → ((e : ℕ) → e < 32 → count_at t e ≤ 1024) → Kept 98304 161376 r t → Kept 259712 33 r t → OnlyDeals r t
only_deals r t i e n low high =
    record {
      sound = record {
        wide = e ∙ i.wide;
        short = n;
        most = rw (high 259744 (omega arith) (omega arith)) i.most;
        few = λ k h.
            let w : waiting_in t ≡ waiting_in r = high 259744 (omega arith) (omega arith) in
            rw (high (259712 + k) (omega arith) (omega (arith, i.most))) (i.few k (omega arith));
      };
      ops = λ c l. kept_op r t c (λ k g h. low k (omega arith) (omega arith));
      order = kept_order r t e high;
      waiting = high 259744 (omega arith) (omega arith);
      rest = kept_rest r t e (λ k g h. low k g (omega arith));
    }

pub only_none : (room : List ℕ) → Sound room → OnlyDeals room room
only_none room i = record { sound = i; ops = λ c l. refl; order = refl; waiting = refl; rest = refl }
