-- The play stays sane: as a line is said, as a deal is made, as the tree only looks.
use Rattle.std.proofs.Common.{◌≡◌, ℕ, ◌+◌, ◌<◌, ◌≤◌, List, [], ◌∷◌, ◌++◌, length, get_or, take, drop, set, replicate, sym, refl, ap, ◌∙◌, subst, inl, inr, arith}
use Rattle.std.proofs.lemmas.List.{length-set, get_or-set_same, get_or-set_other, get_or-replicate, length-replicate}
use Rattle.std.proofs.lemmas.List.{append-nil, drop_all, take_all}
use Rattle.std.proofs.lemmas.Bool.{cases_eq}
use Rattle.lines.specs.declared.line.Line.{Line}
use Rattle.lines.specs.declared.line.Line.TheVariants.{Idle, Wrote, Cleared, Stale, Read, Scanned, Marked}
use Rattle.lines.specs.declared.ring.Ring.{Ring}
use Rattle.lines.specs.Rings.{lines_of}
use Rattle.lines.specs.Tables.{deal_lines, queue_lines, tables, QueueIn, OnlyDeal, OnlyQueue}
use Rattle.lines.proofs.Circle.{length_lines}
use Rattle.lines.proofs.Parts.{same_deals, same_queue}
use Rattle.view.specs.declared.seen.View.{View}
use Rattle.view.specs.Adds.{writing}
use Rattle.view.specs.Room.{Counts, own_of}
use Rattle.view.specs.Upkeep.{next_key, LineOk, SuccOk}
use Rattle.view.specs.Writes.{with_lines}
use Rattle.view.proofs.Filed.{length_own}
use Rattle.view.proofs.Tabled.{queue_in_on}
use Rattle.view.proofs.Upkeeps.{more_ok}
use Rattle.view_tests.specs.Play.{Sane}

abbrev Pairs : Type 0
Pairs = List (ℕ × ℕ)

few_writes : (ls : List Line) → length (writing ls) ≤ length ls
few_writes [] = omega arith
few_writes (Idle ∷ ls) = omega (arith, few_writes ls)
few_writes (Wrote k x ∷ ls) = omega (arith, few_writes ls)
few_writes (Cleared k s ∷ ls) = omega (arith, few_writes ls)
few_writes (Stale k ∷ ls) = omega (arith, few_writes ls)
few_writes (Read k ∷ ls) = omega (arith, few_writes ls)
few_writes (Scanned k q ∷ ls) = omega (arith, few_writes ls)
few_writes (Marked ∷ ls) = omega (arith, few_writes ls)

pub own_fits : (w : List ℕ) (v : View) → length (writing (own_of w v)) ≤ v.count
own_fits w v = omega (arith, few_writes (own_of w v), length_own w v)

no_lines : (w : List ℕ) (c : ℕ) → deal_lines w c 0 ≡ []
unfolding deal_lines lines_of
no_lines w c = refl

no_queue : (w : List ℕ) (r : Ring) → r.count ≡ 0 → queue_lines w r ≡ []
unfolding queue_lines
no_queue w r e = none (lines_of (take 98304 (drop 98304 w)) r) (length_lines (take 98304 (drop 98304 w)) r ∙ e)
  where
    none : (ls : List Line) → length ls ≡ 0 → ls ≡ []
    none [] e = refl
    none (l ∷ ls) e = absurd (omega arith)

-- one count is changed
module _ (ns : List ℕ) (c n : ℕ) (k : Counts ns) (low : c < 32) (few : n ≤ 1024) where
  here : get_or (set ns c n) c 0 ≡ n
  here = get_or-set_same ns c n 0 (omega (arith, k.deals))

  there : (d : ℕ) → (d ≡ c → ⊥) → get_or (set ns c n) d 0 ≡ get_or ns d 0
  there d ne = get_or-set_other ns c d n 0 ne

  count_set : Counts (set ns c n)
  count_set = record {
    deals = length-set ns c n ∙ k.deals;
    few = λ d h. elim (cases_eq d c) [ inl e ↦ rw e (rw here few) | inr ne ↦ rw (there d ne) (k.few d h) ];
  }

  deals_set : (t : Pairs) (w v : List ℕ) → SuccOk t (deal_lines v c n) → ((d : ℕ) → d < 32 → (d ≡ c → ⊥) → deal_lines v d (get_or ns d 0) ≡ deal_lines w d (get_or ns d 0)) → ((d : ℕ) → d < 32 → SuccOk t (deal_lines w d (get_or ns d 0))) → (d : ℕ) → d < 32 → SuccOk t (deal_lines v d (get_or (set ns c n) d 0))
  deals_set t w v own others all d h =
      elim (cases_eq d c) [
        | inl e ↦ rw e (rw here own)
        | inr ne ↦ rw (there d ne) (subst (SuccOk t) (sym (others d h ne)) (all d h))
      ]

pub sane_said : (t : Pairs) (w v ns : List ℕ) (q : Ring) (c : ℕ) (l : Line) → c < 32 → get_or ns c 0 < 1024 → length v ≡ length w → deal_lines v c (get_or ns c 0 + 1) ≡ deal_lines w c (get_or ns c 0) ++ l ∷ [] → OnlyDeal w v c → Sane t w ns q → LineOk t l → Sane t v (set ns c (get_or ns c 0 + 1)) q
sane_said t w v ns q c l low few long more only s ok =
    let n = get_or ns c 0 in
    record {
      counts = count_set ns c (n + 1) s.counts low (omega arith);
      queue = queue_in_on w v q long s.queue;
      up = s.up;
      queued = subst (SuccOk t) (sym (only.queue q)) s.queued;
      deals = deals_set ns c (n + 1) s.counts low (omega arith) t w v (subst (SuccOk t) (sym more) (more_ok t (deal_lines w c n) l (s.deals c low) ok)) (λ d h ne. only.deals d (get_or ns d 0) h ne) s.deals;
    }

pub sane_made : (t : Pairs) (w v ns : List ℕ) (q r : Ring) (c : ℕ) → c < 32 → QueueIn v r → OnlyQueue w v → (SuccOk t (queue_lines w q) → SuccOk t (deal_lines w c (get_or ns c 0)) → SuccOk t (queue_lines v r)) → Sane t w ns q → Sane t v (set ns c 0) r
sane_made t w v ns q r c low queue only ok s =
    record {
      counts = count_set ns c 0 s.counts low (omega arith);
      queue = queue;
      up = s.up;
      queued = ok s.queued (s.deals c low);
      deals = deals_set ns c 0 s.counts low (omega arith) t w v (rw (no_lines v c) tt) (λ d h ne. only.deals d (get_or ns d 0) h) s.deals;
    }

-- the tree and the tables are as they were
pub sane_on : (t u : Pairs) (w v ns : List ℕ) (q : Ring) → u ≡ t → length v ≡ length w → tables v ≡ tables w → Sane t w ns q → Sane u v ns q
sane_on t u w v ns q e long same s =
    subst (λ x. Sane x v ns q) (sym e) (record {
      counts = s.counts;
      queue = queue_in_on w v q long s.queue;
      up = s.up;
      queued = subst (SuccOk t) (sym (same_queue w v long same q)) s.queued;
      deals = λ d h. subst (SuccOk t) (sym (same_deals w v long same d (get_or ns d 0) h)) (s.deals d h);
    })

pub drop_ok : (t : Pairs) (k : ℕ) (l : Line) → l ≡ Cleared k (next_key k t) → LineOk t l
drop_ok t k l e = subst (LineOk t) (sym e) refl

-- what is written to the whole of a Vec's slice
pub whole : (n : ℕ) (v w : List ℕ) → length v ≡ n → length w ≡ n → take n (v ++ drop (length v) w) ≡ v
whole n v w a b = ap (take n) (ap (λ x. v ++ x) (drop_all (length v) w (omega arith)) ∙ append-nil v) ∙ take_all n v (omega arith)

-- nobody sees another thing
pub same_seen : (t u : Pairs) (a b : List Line) → u ≡ t → b ≡ a → with_lines u b ≡ with_lines t a
same_seen t u a b e f = ap (λ x. with_lines x b) e ∙ ap (with_lines t) f

-- the index was asked, over the whole slice a of the room w, and left it as v
module _ (t u : Pairs) (n : ℕ) (w a v : List ℕ) (q : Ring) (lent : a ≡ w) (full : length w ≡ n) (same : u ≡ t) (long : length v ≡ length a) (kept : tables v ≡ tables a) where
  pub asked_whole : take n (v ++ drop (length v) w) ≡ v
  asked_whole = whole n v w (long ∙ (ap length lent ∙ full)) full

  pub asked_sane : (ns : List ℕ) → Sane t w ns q → Sane u (take n (v ++ drop (length v) w)) ns q
  asked_sane ns s = subst (λ x. Sane u x ns q) (sym asked_whole) (sane_on t u a v ns q same long kept (subst (λ x. Sane t x ns q) (sym lent) s))

  pub asked_queue : queue_lines (take n (v ++ drop (length v) w)) q ≡ queue_lines w q
  asked_queue = ap (λ x. queue_lines x q) asked_whole ∙ (same_queue a v long kept q ∙ ap (λ x. queue_lines x q) lent)

  pub asked_seen : with_lines u (queue_lines (take n (v ++ drop (length v) w)) q) ≡ with_lines t (queue_lines w q)
  asked_seen = same_seen t u (queue_lines w q) (queue_lines (take n (v ++ drop (length v) w)) q) same asked_queue

pub nothing_seen : (t : Pairs) (w : List ℕ) (r : Ring) → t ≡ [] → r.count ≡ 0 → with_lines t (queue_lines w r) ≡ []
nothing_seen t w r e z = ap (λ x. with_lines x (queue_lines w r)) e ∙ ap (with_lines []) (no_queue w r z)

-- nothing is there yet
pub sane_first : (w ns : List ℕ) (q : Ring) → length w ≡ 262144 → ns ≡ replicate 32 0 → q.cap ≡ 32768 → q.start ≡ 0 → q.count ≡ 0 → Sane [] w ns q
sane_first w ns q long e a b c =
    rw e (record {
      counts = record { deals = length-replicate {A = ℕ} 32 0; few = λ d h. rw (get_or-replicate {A = ℕ} 32 d 0 0 h) (omega arith) };
      queue = record { room = long; cap = a; start = omega arith; count = omega arith };
      up = (0, omega arith);
      queued = rw (no_queue w q c) tt;
      deals = λ d h. rw (get_or-replicate {A = ℕ} 32 d 0 0 h, no_lines w d) tt;
    })
