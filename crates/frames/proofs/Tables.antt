-- Each step keeps the table in order.
use Rattle.std.proofs.Common.{◌≡◌, ℕ, suc, ◌+◌, ◌-◌, ◌%◌, ◌<◌, ◌≤◌, Bool, cond, not, eqb, ◌≢◌, List, [], ◌∷◌, length, get_or, set, replicate, None, sum, count_by, sym, refl, ap, ◌∙◌, subst, ⊎_elim, arith}
use Rattle.std.proofs.lemmas.List.{get_or-set_same, get_or-set_other, get_or-replicate, set-set, set-get_or}
use Rattle.std.proofs.lemmas.List.Sums.{sum_by-set, sum_by-cons}
use Rattle.std.proofs.lemmas.Bool.{cases_lt, cases_eq, eq-eqb, ne_eqb}
use Rattle.frames.specs.Layout.{Cache, Sized, cache_of, cleared, with_frames, with_pins}
use Rattle.frames.specs.Frames.{Table, Sound, Idle, page_in, mark_in, pins_in, entry_in, slot_of, pinned, fill, list, enter, pin, unpin, settle}
use Rattle.frames.proofs.Slots.{Rows, slot_none}

-- a part that holds a cache whose table is in order
pub sound_as : (part : List ℕ) (c : Cache) → Sized part → cache_of part ≡ c → Table c → Sound part
sound_as part c s e t = record { sized = s; table = subst Table (sym e) t }

abbrev marks? : ℕ → Bool
marks? m = not (eqb m 0)

abbrev one : ℕ → ℕ
one m = cond (marks? m) 1 0

one_none : (m : ℕ) → m ≡ 0 → one m ≡ 0
one_none m e = rw (eq-eqb m 0 e)

one_some : (m : ℕ) → m ≢ 0 → one m ≡ 1
one_some m ne = rw (ne_eqb m 0 ne)

none : (i : ℕ) → i < 120 → 0 < get_or (replicate 120 0) i 0 → ⊥
none i l h = omega (arith, get_or-replicate {A = ℕ} 120 i 0 0 l)

pub cleared_table : (fs : List ℕ) → Table (cleared fs)
cleared_table fs = record {
  once = λ i j h k u e. absurd (none i h u);
  few = omega arith;
  entered = λ k h. absurd (omega arith);
  marked = λ i l h. absurd (none i l h);
  used = λ i l h. absurd (none i l h);
  all = refl;
  turn = omega arith;
}

module _ (c : Cache) (t : Table c) where
  -- neither the words of frames nor pins matter to the table
  pub apart : (fs ns : List ℕ) → Table (with_pins (with_frames c fs) ns)
  apart fs ns = record {
    once = t.once;
    few = t.few;
    entered = t.entered;
    marked = t.marked;
    used = t.used;
    all = t.all;
    turn = t.turn;
  }

  pub settled_table : Table (settle c)
  settled_table = record {
    once = t.once;
    few = omega arith;
    entered = λ k h. absurd (omega arith);
    marked = λ i l h. absurd (none i l h);
    used = λ i l h. absurd (none i l h);
    all = refl;
    turn = t.turn;
  }

  module _ (r : Rows c) (i : ℕ) (low : i < 120) where
    pub filled_table : (p : ℕ) (w : List ℕ) → 0 < p → Idle c i → slot_of c p ≡ None → Table (fill c i p w)
    filled_table p w pos idle new =
        let ps = c.pages in
        let here : get_or (set ps i p) i 0 ≡ p = get_or-set_same ps i p 0 (omega (arith, r.pages)) in
        let there : (j : ℕ) → j ≢ i → get_or (set ps i p) j 0 ≡ get_or ps j 0 = λ j ne. get_or-set_other ps i j p 0 ne in
        let strange : (j : ℕ) → j < 120 → j ≢ i → get_or (set ps i p) j 0 ≢ p =
        λ j l ne e. slot_none ps p new pos j (omega (arith, r.pages)) (sym (there j ne) ∙ e) in
        record {
          once = λ j k l m u e. ⊎_elim
              (λ (a : j ≡ i). ⊎_elim
              (λ (b : k ≡ i). a ∙ sym b)
              (λ (b : k ≢ i). absurd (strange k m b (sym e ∙ ap (λ n. get_or (set ps i p) n 0) a ∙ here)))
              (cases_eq k i))
              (λ (a : j ≢ i). ⊎_elim
              (λ (b : k ≡ i). absurd (strange j l a (e ∙ ap (λ n. get_or (set ps i p) n 0) b ∙ here)))
              (λ (b : k ≢ i). t.once j k l m (omega (arith, there j a)) (sym (there j a) ∙ e ∙ there k b))
              (cases_eq k i))
              (cases_eq j i);
          few = t.few;
          entered = t.entered;
          marked = t.marked;
          used = λ j l h. ⊎_elim
              (λ (a : j ≡ i). absurd (omega (arith, idle.0, ap (λ n. mark_in c n) a)))
              (λ (a : j ≢ i). omega (arith, there j a, t.used j l h))
              (cases_eq j i);
          all = t.all;
          turn = omega arith;
        }

    pub listed_table : mark_in c i ≡ 0 → 0 < page_in c i → c.count < 64 → Table (list c i)
    listed_table clean taken room =
        let n = c.count in
        let mine : get_or (set c.marks i (n + 1)) i 0 ≡ n + 1 = get_or-set_same c.marks i (n + 1) 0 (omega (arith, r.marks)) in
        let other : (j : ℕ) → j ≢ i → get_or (set c.marks i (n + 1)) j 0 ≡ mark_in c j = λ j ne. get_or-set_other c.marks i j (n + 1) 0 ne in
        let last : get_or (set c.entries n i) n 0 ≡ i = get_or-set_same c.entries n i 0 (omega (arith, r.entries)) in
        let before : (k : ℕ) → k ≢ n → get_or (set c.entries n i) k 0 ≡ entry_in c k = λ k ne. get_or-set_other c.entries n k i 0 ne in
        record {
          once = t.once;
          few = omega arith;
          entered = λ k h. ⊎_elim
              (λ (a : k ≡ n).
              let e : get_or (set c.entries n i) k 0 ≡ i = ap (λ m. get_or (set c.entries n i) m 0) a ∙ last in
              (omega arith, ap (λ m. get_or (set c.marks i (n + 1)) m 0) e ∙ mine ∙ ap (λ m. m + 1) (sym a)))
              (λ (a : k ≢ n).
              let b = t.entered k (omega arith) in
              let ne : entry_in c k ≢ i = λ e. omega (arith, b.1, ap (λ m. mark_in c m) e) in
              (omega (arith, before k a, b.0), ap (λ m. get_or (set c.marks i (n + 1)) m 0) (before k a) ∙ other (entry_in c k) ne ∙ b.1))
              (cases_eq k n);
          marked = λ j l h. ⊎_elim
              (λ (a : j ≡ i).
              let e : get_or (set c.marks i (n + 1)) j 0 ≡ n + 1 = ap (λ m. get_or (set c.marks i (n + 1)) m 0) a ∙ mine in
              let f : get_or (set c.marks i (n + 1)) j 0 - 1 ≡ n = omega arith in
              (omega arith, ap (λ m. get_or (set c.entries n i) m 0) f ∙ last ∙ sym a))
              (λ (a : j ≢ i).
              let b = t.marked j l (omega (arith, other j a)) in
              let f : get_or (set c.marks i (n + 1)) j 0 - 1 ≡ mark_in c j - 1 = omega (arith, other j a) in
              let ne : mark_in c j - 1 ≢ n = omega (arith, b.0, other j a) in
              (omega (arith, other j a, b.0), ap (λ m. get_or (set c.entries n i) m 0) f ∙ before (mark_in c j - 1) ne ∙ b.1))
              (cases_eq j i);
          used = λ j l h. ⊎_elim
              (λ (a : j ≡ i). omega (arith, taken, ap (λ m. page_in c m) a))
              (λ (a : j ≢ i). t.used j l (omega (arith, other j a)))
              (cases_eq j i);
          all =
              let s = sum_by-set one c.marks i (n + 1) 0 (omega (arith, r.marks)) in
              omega (arith, s, one_none (mark_in c i) clean, one_some (n + 1) (omega arith), t.all);
          turn = t.turn;
        }

    pub entered_table : 0 < page_in c i → (mark_in c i ≡ 0 → c.count < 64) → Table (enter c i)
    entered_table taken room = ⊎_elim
        (λ (z : mark_in c i ≡ 0). rw (eq-eqb (mark_in c i) 0 z) (listed_table z taken (room z)))
        (λ (nz : mark_in c i ≢ 0). rw (ne_eqb (mark_in c i) 0 nz) t)
        (cases_eq (mark_in c i) 0)

    pub unpin_pin : unpin (pin c i) i ≡ c
    unpin_pin =
        let ns = c.pins in
        let n = get_or ns i 0 in
        let e : get_or (set ns i (n + 1)) i 0 - 1 ≡ n = omega (arith, get_or-set_same ns i (n + 1) 0 (omega (arith, r.pins))) in
        ap (λ (xs : List ℕ). with_pins c xs) (ap (λ m. set (set ns i (n + 1)) i m) e ∙ set-set ns i (n + 1) n ∙ set-get_or ns i 0)

    pub pinned_more : pinned (pin c i) ≡ pinned c + 1
    pinned_more = omega (arith, sum_by-set (λ m. m) c.pins i (pins_in c i + 1) 0 (omega (arith, r.pins)))

-- where every frame is changed or pinned, the marks and the pins are as many as the frames
busy : (ms ns : List ℕ) → length ms ≡ length ns → ((i : ℕ) → i < length ms → get_or ms i 0 ≡ 0 → get_or ns i 0 ≡ 0 → ⊥) → length ms ≤ count_by marks? ms + sum ns
busy [] ns e f = omega arith
busy (m ∷ ms) [] e f = absurd (omega arith)
busy (m ∷ ms) (n ∷ ns) e f =
    let h = busy ms ns (omega arith) (λ i l. f (suc i) (omega arith)) in
    let a = sum_by-cons one m ms in
    let b = sum_by-cons (λ x. x) n ns in
    ⊎_elim
    (λ (z : m ≡ 0). ⊎_elim
    (λ (y : n ≡ 0). absurd (f 0 (omega arith) z y))
    (λ (y : n ≢ 0). omega (arith, a, b, h))
    (cases_eq n 0))
    (λ (z : m ≢ 0). omega (arith, a, b, h, one_some m z))
    (cases_eq m 0)

pub some_idle : (c : Cache) → Table c → Rows c → c.count + pinned c < 120 → ((i : ℕ) → i < 120 → Idle c i → ⊥) → ⊥
some_idle c t r few f =
    let h = busy c.marks c.pins (r.marks ∙ sym r.pins) (λ i l a b. f i (omega (arith, r.marks)) (a, b)) in
    omega (arith, h, t.all, r.marks)

-- going round from any hand comes by every frame
pub each_comes : (c : Cache) → c.hand < 120 → ((k : ℕ) → k < 120 → Idle c ((c.hand + k) % 120) → ⊥) → (i : ℕ) → i < 120 → Idle c i → ⊥
each_comes c h f i l d = ⊎_elim
    (λ (a : i < c.hand).
    let e : (c.hand + (i + 120 - c.hand)) % 120 ≡ i = omega arith in
    f (i + 120 - c.hand) (omega arith) (subst (Idle c) (sym e) d))
    (λ (a : c.hand ≤ i).
    let e : (c.hand + (i - c.hand)) % 120 ≡ i = omega arith in
    f (i - c.hand) (omega arith) (subst (Idle c) (sym e) d))
    (cases_lt i c.hand)
