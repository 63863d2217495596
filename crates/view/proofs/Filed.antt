-- The writes of a deal at the end of the queue: what they leave of the pairs.
use Rattle.std.proofs.Common.{◌≡◌, ℕ, ◌+◌, ◌*◌, ◌<◌, ◌≤◌, true, false, cond, List, [], ◌∷◌, ◌++◌, length, get_or, take, drop, sym, refl, ap, ◌∙◌, arith}
use Rattle.std.proofs.lemmas.List.{append_assoc, append-nil, length-append, take-append-drop, take_all, drop_more}
use Rattle.std.proofs.lemmas.List.Elements.{filter-append, filter_more}
use Rattle.std.proofs.ByRecursion.{All-append, all_kept_by}
use Rattle.lines.specs.declared.line.Line.{Line}
use Rattle.lines.specs.declared.line.Line.TheVariants.{Idle, Wrote, Cleared, Stale, Read, Scanned, Marked}
use Rattle.view.specs.Writes.{Puts, Drops, writes_in, onto, with_lines}
use Rattle.lines.specs.declared.ring.Ring.{Ring}
use Rattle.lines.specs.Tables.{deal_ring, deal_lines, queue_lines, QueueIn, OnlyQueue}
use Rattle.lines.proofs.Circle.{length_lines}
use Rattle.view.specs.declared.seen.View.{View}
use Rattle.view.specs.Room.{own_of, queue_of}
use Rattle.view.proofs.Found.{Pairs}
use Rattle.view.proofs.Done.{lines_append}
use Rattle.view.specs.Upkeep.{LineOk, SuccOk}
use Rattle.view.specs.Adds.{is_write, writing}

writes_writing : (a : List Line) → writes_in (writing a) ≡ writes_in a
writes_writing [] = refl
writes_writing (Idle ∷ a) = writes_writing a
writes_writing (Wrote k x ∷ a) = ap (λ ws. Puts k x ∷ ws) (writes_writing a)
writes_writing (Cleared k s ∷ a) = ap (λ ws. Drops k ∷ ws) (writes_writing a)
writes_writing (Stale k ∷ a) = writes_writing a
writes_writing (Read k ∷ a) = writes_writing a
writes_writing (Scanned k q ∷ a) = writes_writing a
writes_writing (Marked ∷ a) = writes_writing a

pub lines_filed : (t : Pairs) (q o : List Line) → with_lines t (q ++ writing o) ≡ with_lines (with_lines t q) o
lines_filed t q o = lines_append t q (writing o) ∙ ap (onto (with_lines t q)) (writes_writing o)

pub succs_filed : (t : Pairs) (q o : List Line) → SuccOk t q → SuccOk t o → SuccOk t (q ++ writing o)
succs_filed t q o h g = All-append (LineOk t) q (writing o) h (all_kept_by is_write (LineOk t) o g)

-- one line more
module _ (q o : List Line) (i : ℕ) (h : i < length o) where
  pub filed_write : is_write (get_or o i Idle) ≡ true → (q ++ writing (take i o)) ++ get_or o i Idle ∷ [] ≡ q ++ writing (take (i + 1) o)
  filed_write e = append_assoc q (writing (take i o)) (get_or o i Idle ∷ []) ∙ ap (λ x. q ++ x) (sym (filter_more is_write o i Idle h ∙ ap (λ b. writing (take i o) ++ cond b (get_or o i Idle ∷ []) []) e))

  pub filed_other : is_write (get_or o i Idle) ≡ false → q ++ writing (take i o) ≡ q ++ writing (take (i + 1) o)
  filed_other e = ap (λ x. q ++ x) (sym (filter_more is_write o i Idle h ∙ (ap (λ b. writing (take i o) ++ cond b (get_or o i Idle ∷ []) []) e ∙ append-nil (writing (take i o)))))

  pub filed_room : is_write (get_or o i Idle) ≡ true → length (writing (take i o)) < length (writing o)
  filed_room e =
      let a : writing o ≡ writing (take i o) ++ writing (drop i o) = ap writing (sym (take-append-drop i o)) ∙ filter-append is_write (take i o) (drop i o) in
      let d : writing (drop i o) ≡ get_or o i Idle ∷ writing (drop (i + 1) o) = ap writing (drop_more o i Idle h) ∙ ap (λ b. cond b (get_or o i Idle ∷ writing (drop (i + 1) o)) (writing (drop (i + 1) o))) e in
      omega (arith, ap length a, length-append (writing (take i o)) (writing (drop i o)), ap length d)

-- THE WAY OF A DEAL INTO THE QUEUE: its first i lines are done, from the room w on
pub record Filing (w : List ℕ) (v : View) (i : ℕ) (room : List ℕ) (r : Ring) : Type 0 where
  pub lines : queue_lines room r ≡ queue_of w v ++ writing (take i (own_of w v))
  pub queue : QueueIn room r
  pub start : r.start ≡ v.queue.start
  pub only : OnlyQueue w room

pub length_queue : (w : List ℕ) (r : Ring) → length (queue_lines w r) ≡ r.count
unfolding queue_lines
length_queue w r = length_lines (take 98304 (drop 98304 w)) r

pub length_own : (w : List ℕ) (v : View) → length (own_of w v) ≡ v.count
unfolding deal_lines
length_own w v = length_lines (take 3072 (drop (3072 * v.deal) w)) (deal_ring v.count)

-- the line i is gone over: it is filed if it writes, and else nothing is done
module _ (w : List ℕ) (v : View) (i : ℕ) (room : List ℕ) (r : Ring) (low : v.deal < 32) (h : i < length (own_of w v)) (f : Filing w v i room r) (l : Line) (is : l ≡ get_or (own_of room v) i Idle) where
  was : l ≡ get_or (own_of w v) i Idle
  was = is ∙ ap (λ x. get_or x i Idle) (f.only.deals v.deal v.count low)

  pub filing_other : is_write l ≡ false → Filing w v (i + 1) room r
  filing_other e = record { lines = f.lines ∙ filed_other (queue_of w v) (own_of w v) i h (ap is_write (sym was) ∙ e); queue = f.queue; start = f.start; only = f.only }

  pub filing_write : is_write l ≡ true → (room' : List ℕ) (r' : Ring) → queue_lines room' r' ≡ queue_lines room r ++ l ∷ [] → QueueIn room' r' → r'.start ≡ r.start → OnlyQueue room room' → Filing w v (i + 1) room' r'
  filing_write e room' r' more q s only =
      record {
        lines = more
            ∙ (ap (λ x. x ++ l ∷ []) f.lines
            ∙ (ap (λ x. (queue_of w v ++ writing (take i (own_of w v))) ++ x ∷ []) was
            ∙ filed_write (queue_of w v) (own_of w v) i h (ap is_write (sym was) ∙ e)));
        queue = q;
        start = s ∙ f.start;
        only = record { deals = λ d n g. only.deals d n g ∙ f.only.deals d n g; behind = only.behind ∙ f.only.behind };
      }

  pub filing_fits : is_write l ≡ true → v.queue.count + length (writing (own_of w v)) ≤ 32768 → r.count < 32768
  filing_fits e fits =
      omega (arith, filed_room (queue_of w v) (own_of w v) i h (ap is_write (sym was) ∙ e), ap length f.lines, length-append (queue_of w v) (writing (take i (own_of w v))), length_queue room r, length_queue w v.queue)

-- all lines are gone over
module _ (w : List ℕ) (v : View) (i : ℕ) (room : List ℕ) (r : Ring) (all : v.count ≤ i) (f : Filing w v i room r) where
  pub filing_all : queue_lines room r ≡ queue_of w v ++ writing (own_of w v)
  filing_all = f.lines ∙ ap (λ x. queue_of w v ++ writing x) (take_all i (own_of w v) (omega (arith, length_own w v)))

  pub filing_count : r.count ≡ v.queue.count + length (writing (own_of w v))
  filing_count = omega (arith, ap length filing_all, length-append (queue_of w v) (writing (own_of w v)), length_queue room r, length_queue w v.queue)
