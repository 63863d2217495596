-- Pages of 512 words, one behind the other in a list of words. Assumes nothing.
use borrow.Rule.Slice.PartMut.{put_mid}
use Rattle.std.specs.Prelude.{ℕ, ◌*◌, ◌/◌, List, length, take, drop}

abbrev pub page_words : ℕ
page_words = 512

-- how many whole pages there are
abbrev pub pages_in : List ℕ → ℕ
pages_in ws = length ws / page_words

-- page p
abbrev pub page_at : List ℕ → ℕ → List ℕ
page_at ws p = take page_words (drop (page_words * p) ws)

-- the same words, but for page p
abbrev pub with_page : List ℕ → ℕ → List ℕ → List ℕ
with_page ws p page = put_mid (page_words * p) page_words ws page
