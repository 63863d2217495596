-- The head, and how its words and those of a record mean it. No other file knows where a word stands.
use Rattle.std.specs.Prelude.{ℕ, zero, suc, ◌+◌, ◌-◌, ◌*◌, ◌/◌, ◌%◌, ◌<◌, ◌≤◌, min, cond, List, [], ◌∷◌, ◌++◌, length, take, drop, ◌==◌, slice_index, slice_set}
use Rattle.store.specs.declared.head.Record.{Record}
use Rattle.store.specs.declared.head.Record.TheVariants.{Put, Drop}
use Rattle.store.specs.declared.head.Root.{Root}

-- a record's three words
abbrev pub tag_of : Record → ℕ
tag_of (Put k x) = 1
tag_of (Drop k) = 2

abbrev pub key_of : Record → ℕ
key_of (Put k x) = k
key_of (Drop k) = k

abbrev pub word_of : Record → ℕ
word_of (Put k x) = x
word_of (Drop k) = 0

abbrev pub words_of : Record → List ℕ
words_of r = tag_of r ∷ key_of r ∷ word_of r ∷ []

abbrev pub record_of : ℕ → ℕ → ℕ → Record
record_of t k x = cond (t == 2) (Drop k) (Put k x)

-- record j of a page: the head, or a page of the ring
abbrev pub record_at : List ℕ → ℕ → Record
record_at w j = record_of (slice_index w (128 + 3 * j)) (slice_index w (128 + 3 * j + 1)) (slice_index w (128 + 3 * j + 2))

abbrev pub put_record : List ℕ → ℕ → Record → List ℕ
put_record w j r = slice_set (slice_set (slice_set w (128 + 3 * j) (tag_of r)) (128 + 3 * j + 1) (key_of r)) (128 + 3 * j + 2) (word_of r)

-- the first n records of a page
unfoldable pub records_in : ℕ → List ℕ → List Record
records_in zero w = []
records_in (suc n) w = records_in n w ++ record_at w n ∷ []

-- region and targets: the last batch; first and full: the ring's pages; done: how many records at the queue's front are done
pub record Head : Type 0 where
  pub format : ℕ
  pub region : ℕ
  pub targets : List ℕ
  pub root : Root
  pub first : ℕ
  pub full : ℕ
  pub done : ℕ
  pub own : List Record

abbrev pub root_at : List ℕ → Root
root_at w = record { page = slice_index w 67; height = slice_index w 68; pairs = slice_index w 69; free = slice_index w 70; used = slice_index w 71 }

unfoldable pub head_of : List ℕ → Head
head_of w = record {
  format = slice_index w 0;
  region = slice_index w 1;
  targets = take (slice_index w 2) (drop 3 w);
  root = root_at w;
  first = slice_index w 72;
  full = slice_index w 73;
  done = slice_index w 74;
  own = records_in (slice_index w 75) w;
}

-- where image k of the head's batch stands, and page i of its ring
abbrev pub slot_in : ℕ → ℕ → ℕ
slot_in region k = 1 + 64 * region + k

abbrev pub slot : Head → ℕ → ℕ
slot h k = slot_in h.region k

abbrev pub ring_page : Head → ℕ → ℕ
ring_page h i = 129 + (h.first + i) % 264

abbrev pub target : Head → ℕ → ℕ
target h k = slice_index h.targets k

pub record Sound (pages : ℕ) (h : Head) : Type 0 where
  pub few : length h.targets ≤ 64
  pub side : h.region ≤ 1
  pub far : (k : ℕ) → k < length h.targets → 393 ≤ target h k
  pub near : (k : ℕ) → k < length h.targets → target h k < pages
  pub turn : h.first < 264
  pub room : h.full < 264
  pub brim : length h.own ≤ 128
  pub done : h.done ≤ 128
  pub less : h.done ≤ 128 * h.full + length h.own

-- the head with another format number, with a record more, with its own records as a page of the ring
abbrev pub stamped : Head → Head
stamped h = record { format = 1; region = h.region; targets = h.targets; root = h.root; first = h.first; full = h.full; done = h.done; own = h.own }

abbrev pub joined : Record → Head → Head
joined r h = record { format = h.format; region = h.region; targets = h.targets; root = h.root; first = h.first; full = h.full; done = h.done; own = h.own ++ r ∷ [] }

abbrev pub turned : Head → Head
turned h = record { format = h.format; region = h.region; targets = h.targets; root = h.root; first = h.first; full = h.full + 1; done = h.done; own = [] }

-- a batch in the other region: begun, with a target more, with the targets t
abbrev pub begun : Head → Head
begun h = record { format = h.format; region = 1 - h.region; targets = []; root = h.root; first = h.first; full = h.full; done = h.done; own = h.own }

abbrev pub aimed : ℕ → Head → Head
aimed p h = record { format = h.format; region = h.region; targets = h.targets ++ p ∷ []; root = h.root; first = h.first; full = h.full; done = h.done; own = h.own }

abbrev pub aiming : List ℕ → Head → Head
aiming t h = record { format = h.format; region = h.region; targets = t; root = h.root; first = h.first; full = h.full; done = h.done; own = h.own }

abbrev pub batched : List ℕ → Head → Head
batched t h = record { format = h.format; region = 1 - h.region; targets = t; root = h.root; first = h.first; full = h.full; done = h.done; own = h.own }

abbrev pub rooted : Root → Head → Head
rooted r h = record { format = h.format; region = h.region; targets = h.targets; root = r; first = h.first; full = h.full; done = h.done; own = h.own }

-- k records more at the front are done, and the pages of the ring that are wholly done are free
abbrev pub wholly : ℕ → Head → ℕ
wholly k h = min ((h.done + k) / 128) h.full

abbrev pub freed : ℕ → Head → Head
freed k h = record {
  format = h.format;
  region = h.region;
  targets = h.targets;
  root = h.root;
  first = (h.first + wholly k h) % 264;
  full = h.full - wholly k h;
  done = h.done + k - 128 * wholly k h;
  own = h.own;
}

-- the batch's targets, the root that goes with it, and the k records that it did
abbrev pub taken : List ℕ → Root → ℕ → Head → Head
taken t r k h = freed k (rooted r (batched t h))
