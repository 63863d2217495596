-- Where the words of a part stand, and what they are together: 120 frames of 512 words, then the table page.
use Rattle.std.specs.Prelude.{◌≡◌, ℕ, ◌*◌, List, length, take, drop, replicate, slice_index}
use borrow.Rule.Slice.PartMut.{put_mid}

-- What a part holds. A frame is clean where its mark is 0, and changed where it is k + 1: it then stands at place k of the batch.
pub record Cache : Type 0 where
  pub frames : List ℕ
  pub pages : List ℕ
  pub marks : List ℕ
  pub pins : List ℕ
  pub entries : List ℕ
  pub count : ℕ
  pub hand : ℕ

abbrev pub Sized : List ℕ → Type 0
Sized part = length part ≡ 61952

unfoldable pub cache_of : List ℕ → Cache
cache_of part = record {
  frames = take 61440 part;
  pages = take 120 (drop 61440 part);
  marks = take 120 (drop 61560 part);
  pins = take 120 (drop 61680 part);
  entries = take 64 (drop 61800 part);
  count = slice_index part 61864;
  hand = slice_index part 61865;
}

-- the words of frame i, and the frames with w in the place of frame i
unfoldable pub frame_in : List ℕ → ℕ → List ℕ
frame_in fs i = take 512 (drop (512 * i) fs)

unfoldable pub placed : List ℕ → ℕ → List ℕ → List ℕ
placed fs i w = put_mid (512 * i) 512 fs w

abbrev pub with_frames : Cache → List ℕ → Cache
with_frames c w = record { frames = w; pages = c.pages; marks = c.marks; pins = c.pins; entries = c.entries; count = c.count; hand = c.hand }

abbrev pub with_pages : Cache → List ℕ → Cache
with_pages c w = record { frames = c.frames; pages = w; marks = c.marks; pins = c.pins; entries = c.entries; count = c.count; hand = c.hand }

abbrev pub with_marks : Cache → List ℕ → Cache
with_marks c w = record { frames = c.frames; pages = c.pages; marks = w; pins = c.pins; entries = c.entries; count = c.count; hand = c.hand }

abbrev pub with_pins : Cache → List ℕ → Cache
with_pins c w = record { frames = c.frames; pages = c.pages; marks = c.marks; pins = w; entries = c.entries; count = c.count; hand = c.hand }

abbrev pub with_entries : Cache → List ℕ → Cache
with_entries c w = record { frames = c.frames; pages = c.pages; marks = c.marks; pins = c.pins; entries = w; count = c.count; hand = c.hand }

abbrev pub with_count : Cache → ℕ → Cache
with_count c n = record { frames = c.frames; pages = c.pages; marks = c.marks; pins = c.pins; entries = c.entries; count = n; hand = c.hand }

abbrev pub with_hand : Cache → ℕ → Cache
with_hand c n = record { frames = c.frames; pages = c.pages; marks = c.marks; pins = c.pins; entries = c.entries; count = c.count; hand = n }

-- a table page of noughts
abbrev pub cleared : List ℕ → Cache
cleared fs = record {
  frames = fs;
  pages = replicate 120 0;
  marks = replicate 120 0;
  pins = replicate 120 0;
  entries = replicate 64 0;
  count = 0;
  hand = 0;
}
