-- The tables with no deals, and nobody who asks.
use Rattle.std.proofs.Common.{◌≡◌, ℕ, ◌*◌, ◌<◌, Bool, true, List, [], map, length, get_or, take, drop, set, sym, refl, ap, ◌∙◌, subst, inl, arith}
use borrow.Rule.Slice.PartMut.{put_mid}
use Rattle.std.proofs.lemmas.List.{get_or-set_same, get_or-take, get_or-drop}
use Rattle.std.proofs.lemmas.Bool.{false≢true}
use Rattle.lines.specs.Rings.{lines_of}
use Rattle.lines.specs.Tables.{deal_ring, deal_lines}
use Rattle.deals.specs.declared.Op.{Op}
use Rattle.deals.specs.Deals.{State, Quiet}
use Rattle.deals.specs.Rows.{lines_from, bare}
use Rattle.deals.specs.Tables.{count_at, lines_in, waiting_in, order_of, rest_of, is_under, Off, Sound, Keeps}
use Rattle.deals.specs.LineUps.{LineUp, TablesHold}
use Rattle.deals.proofs.Offs.{set_off, mid_off, mid_at, off_kept, kept_then, kept_part, kept_rest}
use Rattle.deals.proofs.Ages.{line_quiet}

-- y: the numbers of lines then
module _ (r y : List ℕ) (wide : length r ≡ 262144) (long : length y ≡ 32) (zeros : (k : ℕ) → k < length y → get_or y k 0 ≡ 0) where
  then : List ℕ
  then = put_mid 259680 32 r y

  last : List ℕ
  last = set then 259744 0

  counted : Off 259680 32 r then
  unfolding then
  counted = mid_off 259680 32 r y (omega arith) long

  emptied : Off 259744 1 then last
  unfolding last
  emptied = set_off then 259744 0

  same_length : length last ≡ length r
  same_length = emptied.long ∙ counted.long

  waiting_none : waiting_in last ≡ 0
  unfolding last
  waiting_none = get_or-set_same then 259744 0 0 (omega (arith, counted.long))

  part_is : take 32 (drop 259680 last) ≡ y
  unfolding then
  part_is = kept_part then last 259680 32 emptied.long (off_kept 259744 1 then last 259680 32 emptied (inl (omega arith))) ∙ mid_at 259680 32 32 r y (omega arith) long refl

  count_none : (c : ℕ) → c < 32 → count_at last c ≡ 0
  count_none c h = sym (get_or-drop 259680 last c 0) ∙ sym (get_or-take 32 (drop 259680 last) c 0 h) ∙ ap (λ x. get_or x c 0) part_is ∙ zeros c (omega arith)

  order_none : order_of last ≡ []
  unfolding order_of
  order_none = ap (λ n. take n (take 32 (drop 259712 last))) waiting_none

  keeps_none : (c : ℕ) → c < 32 → Keeps last c []
  unfolding lines_in deal_lines lines_of lines_from
  keeps_none c h = record { count = count_none c h; lines = ap (λ m. map bare (lines_of (take 3072 (drop (3072 * c) last)) (deal_ring m))) (count_none c h) }

  sound_last : Sound last
  sound_last =
      record {
        wide = same_length ∙ wide;
        short = λ e h. rw (count_none e h) (omega arith);
        most = rw waiting_none (omega arith);
        few = λ k h. absurd (omega (arith, waiting_none));
      }

  pub clear_sound : Sound (set (put_mid 259680 32 r y) 259744 0)
  unfolding last then
  clear_sound = sound_last

  pub clear_holds : (can : Op → Bool) (s : State) → ((c : ℕ) → (s.clerk c).deal ≡ []) → ((c : ℕ) → (s.clerk c).now' ≡ Quiet) → TablesHold can true (set (put_mid 259680 32 r y) 259744 0) s
  unfolding last then is_under
  clear_holds can s deals quiet =
      record {
        sound = sound_last;
        desk = λ c h. subst (Keeps last c) (sym (deals c)) (keeps_none c h);
        asks = λ c h u. absurd (false≢true (sym (ap is_under (quiet c)) ∙ u));
        line = subst (LineUp can true s) (sym order_none) (line_quiet can s quiet);
      }

  pub clear_rest : rest_of (set (put_mid 259680 32 r y) 259744 0) ≡ rest_of r
  unfolding last then
  clear_rest =
      kept_rest r last same_length
      (kept_then r then last 98304 161280 (off_kept 259680 32 r then 98304 161280 counted (inl (omega arith))) (off_kept 259744 1 then last 98304 161280 emptied (inl (omega arith))))
