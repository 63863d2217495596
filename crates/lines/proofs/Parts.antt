-- A write to one of the tables, seen from each.
use Rattle.std.proofs.Common.{◌≡◌, ℕ, ◌+◌, ◌*◌, ◌<◌, ◌≤◌, List, length, take, drop, sym, ap, ap₂, ◌∙◌, inl, inr, arith, rules}
use borrow.Rule.Slice.PartMut.{put_mid}
use Rattle.std.proofs.lemmas.List.{places, same_lists, take_all, length-take, length-drop}
use Rattle.std.proofs.lemmas.Slice.{drop-put_mid}
use Rattle.std.proofs.lemmas.Bool.{cases_lt}
use Rattle.pages.proofs.Mid.{length_put_mid, part_same, part_below, part_above}
use Rattle.lines.specs.declared.ring.Ring.{Ring}
use Rattle.lines.specs.Rings.{lines_of}
use Rattle.lines.specs.Tables.{deal_ring, deal_lines, queue_lines, tables, OnlyDeal, OnlyQueue}

-- a part below s, in what is the same below s
pub part_of_take : (xs ys : List ℕ) (s a m : ℕ) → length ys ≡ length xs → a + m ≤ s → take s ys ≡ take s xs → take m (drop a ys) ≡ take m (drop a xs)
part_of_take xs ys s a m long h e = sym (cut ys) ∙ (ap (λ x. take m (drop a x)) e ∙ cut xs)
  where
    cut : (zs : List ℕ) → take m (drop a (take s zs)) ≡ take m (drop a zs)
    cut zs = same_lists _ _ (search (rules, places)) (λ i d l. grind (arith, places))

-- the table of the deal c in the room w; k is its length
module _ (w : List ℕ) (c k : ℕ) (part : k ≡ 3072) where
  -- as it stands
  pub deal_read : (n : ℕ) (r : Ring) → r ≡ deal_ring n → lines_of (take k (drop (3072 * c) w)) r ≡ deal_lines w c n
  unfolding deal_lines
  deal_read n r is = ap₂ (λ x q. lines_of (take x (drop (3072 * c) w)) q) part is

  -- v is written there
  module _ (v : List ℕ) (size : length w ≡ 262144) (low : c < 32) (same : length v ≡ length (take k (drop (3072 * c) w))) where
    deal_length : length v ≡ 3072
    deal_length = same ∙ simp (length-take, length-drop) (omega arith)

    pub deal_written : (n : ℕ) (r : Ring) → r ≡ deal_ring n → lines_of v r ≡ deal_lines (put_mid (3072 * c) k w v) c n
    unfolding deal_lines
    deal_written n r is = let long = deal_length in ap₂ lines_of (sym (part_same (3072 * c) k w v (omega arith) (omega arith) 3072 (omega arith) ∙ take_all 3072 v (omega arith))) is

    pub only_deal : OnlyDeal w (put_mid (3072 * c) k w v) c
    unfolding deal_lines queue_lines
    only_deal =
        let long = deal_length in
        record {
          deals = λ d n h ne. ap (λ x. lines_of x (deal_ring n)) (elim (cases_lt d c) [
            | inl l ↦ part_below (3072 * c) k w v (omega arith) (omega arith) (3072 * d) 3072 (omega arith)
            | inr l ↦ let g : c < d = after c d l ne in part_above (3072 * c) k w v (omega arith) (omega arith) (3072 * d) 3072 (omega arith)
          ]);
          queue = λ r. ap (λ x. lines_of x r) (part_above (3072 * c) k w v (omega arith) (omega arith) 98304 98304 (omega arith));
          behind = drop-put_mid (3072 * c) k w v 196608 (omega arith) (omega arith) (omega arith);
        }
      where
        after : (c d : ℕ) → c ≤ d → (d ≡ c → ⊥) → c < d
        after c d l ne = omega arith

-- the queue's table in the room w; v is written there
module _ (w v : List ℕ) (size : length w ≡ 262144) (same : length v ≡ length (take 98304 (drop 98304 w))) where
  queue_length : length v ≡ 98304
  queue_length = same ∙ simp (length-take, length-drop) (omega arith)

  pub queue_written : (r : Ring) → lines_of v r ≡ queue_lines (put_mid 98304 98304 w v) r
  unfolding queue_lines
  queue_written r = let long = queue_length in ap (λ x. lines_of x r) (sym (part_same 98304 98304 w v (omega arith) long 98304 (omega arith) ∙ take_all 98304 v (omega arith)))

  pub queue_size : length (put_mid 98304 98304 w v) ≡ 262144
  queue_size = length_put_mid 98304 98304 w v (omega arith) queue_length ∙ size

  pub only_queue : OnlyQueue w (put_mid 98304 98304 w v)
  unfolding deal_lines
  only_queue =
      let long = queue_length in
      record {
        deals = λ d n h. ap (λ x. lines_of x (deal_ring n)) (part_below 98304 98304 w v (omega arith) long (3072 * d) 3072 (omega arith));
        behind = drop-put_mid 98304 98304 w v 196608 (omega arith) (omega arith) long;
      }

-- rooms with the same tables have the same lines
module _ (w v : List ℕ) (long : length v ≡ length w) (same : tables v ≡ tables w) where
  pub same_deals : (d n : ℕ) → d < 32 → deal_lines v d n ≡ deal_lines w d n
  unfolding deal_lines
  same_deals d n h = ap (λ x. lines_of x (deal_ring n)) (part_of_take w v 196608 (3072 * d) 3072 long (omega arith) same)

  pub same_queue : (r : Ring) → queue_lines v r ≡ queue_lines w r
  unfolding queue_lines
  same_queue r = ap (λ x. lines_of x r) (part_of_take w v 196608 98304 98304 long (omega arith) same)
