-- The tables keep the deals as one of them goes on or ends.
use Rattle.std.proofs.Common.{◌≡◌, ℕ, ◌+◌, ◌*◌, ◌<◌, ◌≤◌, ◌⊎◌, List, [], ◌∷◌, ◌++◌, map, length, take, drop, set, sym, refl, ap, ◌∙◌, subst, ap₂, inl, inr, arith}
use borrow.Rule.Slice.PartMut.{put_mid}
use Rattle.std.proofs.lemmas.List.{get_or-set_same, get_or-set_other, length_push}
use Rattle.std.proofs.lemmas.Bool.{cases_lt, cases_eq, eq-eqb, ne_eqb}
use Rattle.lines.specs.declared.line.Line.{Line}
use Rattle.lines.specs.Rings.{lines_of}
use Rattle.lines.specs.Tables.{deal_ring, deal_lines}
use Rattle.deals.specs.Deals.{Book, Said, State, Now, set_clerk}
use Rattle.deals.specs.Rows.{lines_from, said_lines, bare}
use Rattle.deals.specs.Tables.{count_at, lines_in, Off, Sound, OnlyLines, OnlyDeals, Keeps, Desk}
use Rattle.deals.proofs.Offs.{Kept, set_off, mid_off, mid_at, off_kept, kept_then, kept_part, kept_lines, only_deals}

set_deal : (s : State) (b : Book) (c : ℕ) (d : List Said) (n : Now) → ((set_clerk c d n (record { book = b; clerk = s.clerk })).clerk c).deal ≡ d
set_deal s b c d n = rw (eq-eqb c c refl)

other_deal : (s : State) (b : Book) (c e : ℕ) (d : List Said) (n : Now) → (e ≡ c → ⊥) → ((set_clerk c d n (record { book = b; clerk = s.clerk })).clerk e).deal ≡ (s.clerk e).deal
other_deal s b c e d n h = rw (ne_eqb e c h)

pub keeps_same : (r t : List ℕ) (c : ℕ) (ss : List Said) → count_at t c ≡ count_at r c → lines_in t c ≡ lines_in r c → Keeps r c ss → Keeps t c ss
keeps_same r t c ss e f i = record { count = e ∙ i.count; lines = ap (map bare) f ∙ i.lines }

-- only deals matter
pub desk_like : (room : List ℕ) (s r : State) → ((e : ℕ) → (s.clerk e).deal ≡ (r.clerk e).deal) → Desk room s → Desk room r
desk_like room s r h d c l = subst (Keeps room c) (h c) (d c l)

-- one deal is another now
pub desk_set : (r t : List ℕ) (s : State) (b : Book) (c : ℕ) (d : List Said) (n : Now) → Desk r s
    → ((e : ℕ) → e < 32 → (e ≡ c → ⊥) → (count_at t e ≡ count_at r e) × (lines_in t e ≡ lines_in r e)) → Keeps t c d
    → Desk t (set_clerk c d n (record { book = b; clerk = s.clerk }))
desk_set r t s b c d n i others new e l =
    elim (cases_eq e c) [
      | inl q ↦ rw (q, set_deal s b c d n) new
      | inr x ↦ rw (other_deal s b c e d n x) (let o = others e l x in keeps_same r t e (s.clerk e).deal o.0 o.1 (i e l))
    ]

-- THE LINES OF CLERK c ARE WRITTEN, and that they are m; y: its part of the room then
module _ (r y : List ℕ) (c k m : ℕ) (i : Sound r) (l : c < 32) (wide : k ≡ 3072) (long : length y ≡ k) (few : m ≤ 1024) where
  then : List ℕ
  then = put_mid (3072 * c) k r y

  last : List ℕ
  last = set then (259680 + c) m

  lined : Off (3072 * c) k r then
  unfolding then
  lined = mid_off (3072 * c) k r y (omega (arith, i.wide)) long

  counted : Off (259680 + c) 1 then last
  unfolding last
  counted = set_off then (259680 + c) m

  same_length : length last ≡ length r
  same_length = counted.long ∙ lined.long

  elsewhere : (p n : ℕ) → (p + n ≤ 3072 * c) ⊎ (3072 * c + 3072 ≤ p) → (p + n ≤ 259680 + c) ⊎ (259680 + c + 1 ≤ p) → Kept p n r last
  elsewhere p n a b = kept_then r then last p n (off_kept (3072 * c) k r then p n lined (elim a [ inl x ↦ inl x | inr x ↦ inr (omega arith) ])) (off_kept (259680 + c) 1 then last p n counted b)

  count_here : count_at last c ≡ m
  unfolding last
  count_here = get_or-set_same then (259680 + c) m 0 (omega (arith, lined.long, i.wide))

  count_there : (e : ℕ) → (e ≡ c → ⊥) → e < 32 → count_at last e ≡ count_at r e
  count_there e x h = elsewhere (259680 + e) 1 (inr (omega arith)) (elim (cases_lt e c) [ inl g ↦ inl (omega arith) | inr g ↦ inr (elim (cases_eq e c) [ inl q ↦ absurd (x q) | inr q ↦ omega arith ]) ]) (259680 + e) (omega arith) (omega arith)

  part_here : take 3072 (drop (3072 * c) last) ≡ y
  unfolding then
  part_here =
      kept_part then last (3072 * c) 3072 counted.long (off_kept (259680 + c) 1 then last (3072 * c) 3072 counted (inl (omega arith)))
      ∙ mid_at (3072 * c) k 3072 r y (omega (arith, i.wide)) long (sym wide)

  lines_here : lines_in last c ≡ lines_of y (deal_ring m)
  unfolding lines_in deal_lines
  lines_here = ap₂ (λ w n. lines_of w (deal_ring n)) part_here count_here

  lines_there : (e : ℕ) → (e ≡ c → ⊥) → e < 32 → lines_in last e ≡ lines_in r e
  lines_there e x h =
      kept_lines r last e same_length
      (elsewhere (3072 * e) 3072 (elim (cases_lt e c) [ inl g ↦ inl (omega arith) | inr g ↦ inr (elim (cases_eq e c) [ inl q ↦ absurd (x q) | inr q ↦ omega arith ]) ]) (inl (omega arith)))
      (count_there e x h)

  pub noted_deals : (s : State) (b : Book) (d : List Said) (n : Now) → Desk r s → m ≡ length d → map bare (lines_of y (deal_ring m)) ≡ said_lines d → Desk (set (put_mid (3072 * c) k r y) (259680 + c) m) (set_clerk c d n (record { book = b; clerk = s.clerk }))
  unfolding last then
  noted_deals s b d n desk e f =
      desk_set r last s b c d n desk (λ e h x. (count_there e x h, lines_there e x h)) (record { count = count_here ∙ e; lines = ap (map bare) lines_here ∙ f })

  pub noted_lines : (ls : List Line) → lines_of y (deal_ring m) ≡ ls → OnlyLines c ls r (set (put_mid (3072 * c) k r y) (259680 + c) m)
  unfolding last then
  noted_lines ls e = record { here = lines_here ∙ e; there = λ e h x. lines_there e x h }

  short : (e : ℕ) → e < 32 → count_at last e ≤ 1024
  short e h = elim (cases_eq e c) [ inl q ↦ rw (q, count_here) few | inr x ↦ rw (count_there e x h) (i.short e h) ]

  pub noted_others : OnlyDeals r (set (put_mid (3072 * c) k r y) (259680 + c) m)
  unfolding last then
  noted_others =
      only_deals r last i same_length short
      (λ j g h. elsewhere 98304 161376 (inr (omega arith)) (inl (omega arith)) j g h)
      (λ j g h. elsewhere 259712 33 (inr (omega arith)) (inr (omega arith)) j g h)

-- one more line, by what the part's own function says
pub told_count : (room : List ℕ) (c : ℕ) (ss : List Said) (s : Said) → Keeps room c ss → count_at room c + 1 ≡ length (ss ++ s ∷ [])
told_count room c ss s i = ap (λ n. n + 1) i.count ∙ sym (length_push ss s)

pub lines_part : (room : List ℕ) (c k : ℕ) → k ≡ 3072 → lines_of (take k (drop (3072 * c) room)) (deal_ring (count_at room c)) ≡ lines_in room c
unfolding lines_in deal_lines
lines_part room c k e = ap (λ j. lines_of (take j (drop (3072 * c) room)) (deal_ring (count_at room c))) e

-- A DEAL ENDS: no lines
module _ (r : List ℕ) (c : ℕ) (i : Sound r) (l : c < 32) where
  none : List ℕ
  none = set r (259680 + c) 0

  cleared : Off (259680 + c) 1 r none
  unfolding none
  cleared = set_off r (259680 + c) 0

  none_here : count_at none c ≡ 0
  unfolding none
  none_here = get_or-set_same r (259680 + c) 0 0 (omega (arith, i.wide))

  none_there : (e : ℕ) → (e ≡ c → ⊥) → e < 32 → count_at none e ≡ count_at r e
  unfolding none
  none_there e x h = get_or-set_other r (259680 + c) (259680 + e) 0 0 (λ q. x (omega arith))

  lines_none : lines_in none c ≡ []
  unfolding none lines_in deal_lines lines_of
  lines_none = ap (λ m. lines_of (take 3072 (drop (3072 * c) none)) (deal_ring m)) none_here

  lines_left : (e : ℕ) → e < 32 → (e ≡ c → ⊥) → lines_in none e ≡ lines_in r e
  lines_left e h x = kept_lines r none e cleared.long (off_kept (259680 + c) 1 r none (3072 * e) 3072 cleared (inl (omega arith))) (none_there e x h)

  pub forgot_lines : OnlyLines c [] r (set r (259680 + c) 0)
  unfolding none
  forgot_lines = record { here = lines_none; there = lines_left }

  pub forgot_deals : (s : State) (b : Book) (n : Now) → Desk r s → Desk (set r (259680 + c) 0) (set_clerk c [] n (record { book = b; clerk = s.clerk }))
  unfolding none lines_from
  forgot_deals s b n desk = desk_set r none s b c [] n desk (λ e h x. (none_there e x h, lines_left e h x)) (record { count = none_here; lines = ap (map bare) lines_none })

  pub forgot_others : OnlyDeals r (set r (259680 + c) 0)
  unfolding none
  forgot_others =
      only_deals r none i cleared.long (λ e h. elim (cases_eq e c) [ inl q ↦ rw (q, none_here) (omega arith) | inr x ↦ rw (none_there e x h) (i.short e h) ])
      (off_kept (259680 + c) 1 r none 98304 161376 cleared (inl (omega arith)))
      (off_kept (259680 + c) 1 r none 259712 33 cleared (inr (omega arith)))
