-- What a cache means, and what each step makes of it.
use Rattle.std.specs.Prelude.{◌≡◌, ℕ, suc, ◌+◌, ◌-◌, ◌%◌, ◌<◌, ◌≤◌, Bool, false, cond, not, List, [], ◌∷◌, map, take, replicate, Some, None, sum, count_by, Option, MatchOption, ◌==◌, ◌≢◌, slice_index, slice_set}
use Rattle.std.specs.Option.{option_map, unwrap_or}
use Rattle.frames.specs.Layout.{Cache, Sized, cache_of, frame_in, placed, with_frames, with_pages, with_marks, with_pins, with_entries, with_count, with_hand}

-- f, but x at p
abbrev pub at : {A : Type 0} → ℕ → A → (ℕ → A) → ℕ → A
at p x f q = cond (q == p) x (f q)

abbrev pub page_in : Cache → ℕ → ℕ
page_in c i = slice_index c.pages i

abbrev pub mark_in : Cache → ℕ → ℕ
mark_in c i = slice_index c.marks i

abbrev pub pins_in : Cache → ℕ → ℕ
pins_in c i = slice_index c.pins i

abbrev pub entry_in : Cache → ℕ → ℕ
entry_in c k = slice_index c.entries k

-- the frame in which page p stands; page 0 stands in none, since 0 says that a frame is free
unfoldable pub place_in : List ℕ → ℕ → Option ℕ
place_in [] p = None
place_in (x ∷ xs) p = cond (x == p) (Some 0) (option_map suc (place_in xs p))

unfoldable pub slot_among : List ℕ → ℕ → Option ℕ
slot_among ps p = cond (p == 0) None (place_in ps p)

abbrev pub slot_of : Cache → ℕ → Option ℕ
slot_of c p = slot_among c.pages p

-- page p stands in frame i
pub record Stands (c : Cache) (p i : ℕ) : Type 0 where
  pub low : i < 120
  pub page : page_in c i ≡ p
  pub used : 0 < p

-- what the frame of page p holds, if one does
abbrev pub held : Cache → ℕ → Option (List ℕ)
held c p = option_map (frame_in c.frames) (slot_of c p)

-- what page p is, where the disk shows s: the virtual page that all above see
abbrev pub shown_by : Cache → (ℕ → List ℕ) → ℕ → List ℕ
shown_by c s p = unwrap_or (held c p) (s p)

-- each frame that is in use and not changed holds what the disk shows
pub record Clean (c : Cache) (s : ℕ → List ℕ) : Type 0 where
  pub same : (i : ℕ) → i < 120 → 0 < page_in c i → mark_in c i ≡ 0 → frame_in c.frames i ≡ s (page_in c i)

-- the batch: the changed frames in the order in which they were entered, their pages, and what these hold
abbrev pub batch : Cache → List ℕ
batch c = take c.count c.entries

abbrev pub batch_page : Cache → ℕ → ℕ
batch_page c k = page_in c (entry_in c k)

abbrev pub batch_words : Cache → ℕ → List ℕ
batch_words c k = frame_in c.frames (entry_in c k)

abbrev pub batch_pages : Cache → List ℕ
batch_pages c = map (page_in c) (batch c)

abbrev pub changed : Cache → ℕ → Bool
changed c p = unwrap_or (option_map (λ i. not (mark_in c i == 0)) (slot_of c p)) false

abbrev pub spare : Cache → ℕ
spare c = 64 - c.count

-- how many pins are held in all
abbrev pub pinned : Cache → ℕ
pinned c = sum c.pins

-- neither changed nor pinned
abbrev pub Idle : Cache → ℕ → Type 0
Idle c i = (mark_in c i ≡ 0) × (pins_in c i ≡ 0)

-- The table is in order. A mark and an entry point at each other, so no frame is entered twice.
pub record Table (c : Cache) : Type 0 where
  pub once : (i j : ℕ) → i < 120 → j < 120 → 0 < page_in c i → page_in c i ≡ page_in c j → i ≡ j
  pub few : c.count ≤ 64
  pub entered : (k : ℕ) → k < c.count → (entry_in c k < 120) × (mark_in c (entry_in c k) ≡ k + 1)
  pub marked : (i : ℕ) → i < 120 → 0 < mark_in c i → (mark_in c i ≤ c.count) × (entry_in c (mark_in c i - 1) ≡ i)
  pub used : (i : ℕ) → i < 120 → 0 < mark_in c i → 0 < page_in c i
  pub all : count_by (λ m. not (m == 0)) c.marks ≡ c.count
  pub turn : c.hand < 120

pub record Sound (part : List ℕ) : Type 0 where
  pub sized : Sized part
  pub table : Table (cache_of part)

-- the steps
abbrev pub fill : Cache → ℕ → ℕ → List ℕ → Cache
fill c i p w = with_hand (with_pages (with_frames c (placed c.frames i w)) (slice_set c.pages i p)) ((i + 1) % 120)

abbrev pub list : Cache → ℕ → Cache
list c i = with_count (with_marks (with_entries c (slice_set c.entries c.count i)) (slice_set c.marks i (c.count + 1))) (c.count + 1)

abbrev pub enter : Cache → ℕ → Cache
enter c i = cond (mark_in c i == 0) (list c i) c

abbrev pub write : Cache → ℕ → List ℕ → Cache
write c i w = with_frames c (placed c.frames i w)

abbrev pub pin : Cache → ℕ → Cache
pin c i = with_pins c (slice_set c.pins i (pins_in c i + 1))

abbrev pub unpin : Cache → ℕ → Cache
unpin c i = with_pins c (slice_set c.pins i (pins_in c i - 1))

abbrev pub settle : Cache → Cache
settle c = with_count (with_marks c (replicate 120 0)) 0

-- t is what s shows, with the batch written in place
pub record InPlace (c : Cache) (s t : ℕ → List ℕ) : Type 0 where
  pub put : (k : ℕ) → k < c.count → t (batch_page c k) ≡ batch_words c k
  pub rest : (q : ℕ) → ((k : ℕ) → k < c.count → q ≢ batch_page c k) → t q ≡ s q

-- the frame that leaves: going round from the hand, the first that is idle
pub record Leaves (c : Cache) (i : ℕ) : Type 0 where
  pub step : ℕ
  pub round : step < 120
  pub here : i ≡ (c.hand + step) % 120
  pub low : i < 120
  pub idle : Idle c i
  pub first : (k : ℕ) → k < step → Idle c ((c.hand + k) % 120) → ⊥

abbrev pub Chosen : Cache → Option ℕ → Type 0
Chosen c r = MatchOption r ((i : ℕ) → i < 120 → Idle c i → ⊥) (Leaves c)
