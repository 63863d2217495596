-- The order of asking as words of the room.
use Rattle.std.proofs.Common.{◌≡◌, ℕ, ◌+◌, ◌-◌, ◌*◌, ◌<◌, ◌≤◌, List, [], ◌∷◌, ◌++◌, length, get_or, take, drop, set, sym, refl, ap, ◌∙◌, ap₂, inl, inr, arith}
use borrow.Rule.Slice.PartMut.{put_mid}
use Rattle.std.specs.List.{remove}
use Rattle.std.proofs.lemmas.List.{get_or-set_same, get_or-take, get_or-drop, length-take-le, length-drop, get_or_push, get_or_append_left, length_push, drop-set-add, take_more_set, take-take}
use Rattle.std.proofs.Math.Seq.{take-set-lt}
use Rattle.std.proofs.lemmas.List.Edits.{length-remove, get_or-remove_below, get_or-remove_above}
use Rattle.std.proofs.lemmas.Bool.{cases_lt}
use Rattle.deals.specs.Tables.{count_at, waiting_in, order_of, Off, SameLines, Sound, OnlyOrder}
use Rattle.deals.proofs.Offs.{Kept, set_off, mid_off, mid_at, off_wider, off_kept, kept_then, kept_part, kept_lines, kept_op, kept_rest}
use Rattle.deals.proofs.Desks.{keeps_same}

part_long : (room : List ℕ) → Sound room → length (take 32 (drop 259712 room)) ≡ 32
part_long room i = length-take-le 32 (drop 259712 room) (omega (arith, length-drop 259712 room, i.wide))

pub order_long : (room : List ℕ) → Sound room → length (order_of room) ≡ waiting_in room
unfolding order_of
order_long room i = length-take-le (waiting_in room) (take 32 (drop 259712 room)) (omega (arith, part_long room i, i.most))

pub order_at : (room : List ℕ) (k : ℕ) → Sound room → k < waiting_in room → get_or (order_of room) k 0 ≡ get_or room (259712 + k) 0
unfolding order_of
order_at room k i h = get_or-take (waiting_in room) (take 32 (drop 259712 room)) k 0 h ∙ get_or-take 32 (drop 259712 room) k 0 (omega (arith, i.most)) ∙ get_or-drop 259712 room k 0

-- all in the order are clerks
pub order_few : (room : List ℕ) → Sound room → (k : ℕ) → k < length (order_of room) → get_or (order_of room) k 0 < 32
order_few room i k h = let l : k < waiting_in room = omega (arith, order_long room i) in rw (order_at room k i l) (i.few k l)

-- who stands last is one
pub last_few : (room q : List ℕ) (c : ℕ) → Sound room → order_of room ≡ q ++ c ∷ [] → c < 32
last_few room q c i e =
    let long : length q < length (order_of room) = omega (arith, ap length e, length_push q c) in
    rw (ap (λ x. get_or x (length q) 0) e ∙ get_or_push q c 0 (length q) refl) at (order_few room i (length q) long)

pub push_few : (q : List ℕ) (c : ℕ) → ((k : ℕ) → k < length q → get_or q k 0 < 32) → c < 32 → (k : ℕ) → k < length (q ++ c ∷ []) → get_or (q ++ c ∷ []) k 0 < 32
push_few q c h l k g = elim (cases_lt k (length q)) [ inl x ↦ rw (get_or_append_left q (c ∷ []) 0 k x) (h k x) | inr x ↦ rw (get_or_push q c 0 k (omega (arith, length_push q c))) l ]

pub removed_few : (q : List ℕ) (j : ℕ) → j < length q → ((k : ℕ) → k < length q → get_or q k 0 < 32) → (k : ℕ) → k < length (remove q j) → get_or (remove q j) k 0 < 32
removed_few q j l h k g =
    elim (cases_lt k j) [
      | inl x ↦ rw (get_or-remove_below q j 0 k x l) (h k (omega arith))
      | inr x ↦ rw (get_or-remove_above q j 0 k x l) (h (k + 1) (omega (arith, length-remove q j l)))
    ]

-- THE ORDER IS WRITTEN; m: how many they are then
module _ (r then : List ℕ) (m : ℕ) (q : List ℕ) (i : Sound r) (stood : Off 259712 32 r then) (is : take m (take 32 (drop 259712 then)) ≡ q) (size : length q ≡ m) (most : m ≤ 32) (few : (k : ℕ) → k < length q → get_or q k 0 < 32) where
  last : List ℕ
  last = set then 259744 m

  counted : Off 259744 1 then last
  unfolding last
  counted = set_off then 259744 m

  same_length : length last ≡ length r
  same_length = counted.long ∙ stood.long

  elsewhere : (p n : ℕ) → p + n ≤ 259712 → Kept p n r last
  elsewhere p n h = kept_then r then last p n (off_kept 259712 32 r then p n stood (inl h)) (off_kept 259744 1 then last p n counted (inl (omega arith)))

  count_is : waiting_in last ≡ m
  unfolding last
  count_is = get_or-set_same then 259744 m 0 (omega (arith, stood.long, i.wide))

  part_is : take 32 (drop 259712 last) ≡ take 32 (drop 259712 then)
  part_is = kept_part then last 259712 32 counted.long (off_kept 259744 1 then last 259712 32 counted (inl (omega arith)))

  order_last : order_of last ≡ q
  unfolding order_of
  order_last = ap₂ take count_is part_is ∙ is

  count_same : (e : ℕ) → e < 32 → count_at last e ≡ count_at r e
  count_same e h = elsewhere (259680 + e) 1 (omega arith) (259680 + e) (omega arith) (omega arith)

  lines_same : SameLines r last
  lines_same c h = kept_lines r last c same_length (elsewhere (3072 * c) 3072 (omega arith)) (count_same c h)

  word_is : (k : ℕ) → k < m → get_or last (259712 + k) 0 ≡ get_or q k 0
  word_is k h =
      sym (get_or-drop 259712 last k 0) ∙ sym (get_or-take 32 (drop 259712 last) k 0 (omega arith)) ∙ ap (λ x. get_or x k 0) part_is ∙ sym (get_or-take m (take 32 (drop 259712 then)) k 0 h) ∙ ap (λ x. get_or x k 0) is

  sound_last : Sound last
  sound_last =
      record {
        wide = same_length ∙ i.wide;
        short = λ e h. rw (count_same e h) (i.short e h);
        most = rw count_is most;
        few = λ k h. let l : k < m = omega (arith, count_is) in rw (word_is k l) (few k (omega arith));
      }

  pub stands : (order_of (set then 259744 m) ≡ q) × OnlyOrder r (set then 259744 m) × SameLines r (set then 259744 m)
  unfolding last
  stands = (
    order_last,
    record {
      sound = sound_last;
      ops = λ c h. kept_op r last c (elsewhere (259584 + 3 * c) 3 (omega arith));
      deals = λ s d c h. keeps_same r last c (s.clerk c).deal (count_same c h) (lines_same c h) (d c h);
      rest = kept_rest r last same_length (elsewhere 98304 161280 (omega arith));
    },
    lines_same,
  )

-- one more stands last
pub joined : (r : List ℕ) (who : ℕ) → Sound r → who < 32 → waiting_in r < 32
    → (order_of (set (set r (259712 + waiting_in r) who) 259744 (waiting_in r + 1)) ≡ order_of r ++ who ∷ []) × OnlyOrder r (set (set r (259712 + waiting_in r) who) 259744 (waiting_in r + 1)) × SameLines r (set (set r (259712 + waiting_in r) who) 259744 (waiting_in r + 1))
unfolding order_of
joined r who i few most =
    let n : ℕ = waiting_in r in
    let wide : length (drop 259712 r) ≡ 2432 = omega (arith, length-drop 259712 r, i.wide) in
    let room : n < length (take 32 (drop 259712 r)) = omega (arith, length-take-le 32 (drop 259712 r) (omega arith)) in
    let is : take (n + 1) (take 32 (drop 259712 (set r (259712 + n) who))) ≡ take n (take 32 (drop 259712 r)) ++ who ∷ [] =
    ap (λ x. take (n + 1) (take 32 x)) (drop-set-add 259712 r n who) ∙ ap (take (n + 1)) (take-set-lt 32 (drop 259712 r) n who most) ∙ take_more_set (take 32 (drop 259712 r)) n who room in
    stands r (set r (259712 + n) who) (n + 1) (order_of r ++ who ∷ []) i (off_wider (259712 + n) 1 259712 32 r (set r (259712 + n) who) (set_off r (259712 + n) who) (omega arith) (omega arith)) is
    (length_push (order_of r) who ∙ ap (λ k. k + 1) (order_long r i)) (omega arith) (push_few (order_of r) who (order_few r i) few)

-- one is gone; y: the words of those who had asked, then
pub left : (r y : List ℕ) (place k : ℕ) → Sound r → place < waiting_in r → k ≡ waiting_in r → length y ≡ k → take (length (take k (drop 259712 r)) - 1) y ≡ remove (take k (drop 259712 r)) place
    → (order_of (set (put_mid 259712 k r y) 259744 (waiting_in r - 1)) ≡ remove (order_of r) place) × OnlyOrder r (set (put_mid 259712 k r y) 259744 (waiting_in r - 1)) × SameLines r (set (put_mid 259712 k r y) 259744 (waiting_in r - 1))
unfolding order_of
left r y place k i h e long is =
    let n : ℕ = waiting_in r in
    let here : place < length (order_of r) = omega (arith, order_long r i) in
    let fits : 259712 + k ≤ length r = omega (arith, i.wide, i.most) in
    let size : length (take k (drop 259712 r)) ≡ k = length-take-le k (drop 259712 r) (omega (arith, length-drop 259712 r)) in
    let part : take k (drop 259712 (put_mid 259712 k r y)) ≡ y = mid_at 259712 k k r y fits long refl in
    let now : take (n - 1) (take 32 (drop 259712 (put_mid 259712 k r y))) ≡ remove (order_of r) place =
    take-take (n - 1) 32 (drop 259712 (put_mid 259712 k r y)) (omega (arith, i.most)) ∙ sym (take-take (n - 1) k (drop 259712 (put_mid 259712 k r y)) (omega arith)) ∙ ap (take (n - 1)) part ∙ ap (λ j. take (j - 1) y) (sym e ∙ sym size) ∙ is
    ∙ ap (λ x. remove x place) (ap (λ j. take j (drop 259712 r)) e ∙ sym (take-take n 32 (drop 259712 r) i.most)) in
    stands r (put_mid 259712 k r y) (n - 1) (remove (order_of r) place) i (off_wider 259712 k 259712 32 r (put_mid 259712 k r y) (mid_off 259712 k r y fits long) (omega arith) (omega (arith, i.most))) now
    (omega (arith, length-remove (order_of r) place here, order_long r i)) (omega (arith, i.most)) (removed_few (order_of r) place here (order_few r i))
