-- A deal as a row of writes, by what was said in it and by its lines.
use Rattle.std.specs.Prelude.{ℕ, suc, cond, List, [], ◌∷◌, ◌++◌, length, take, ◌==◌, ◌≢◌, nat_lt, slice_index_or}
use Rattle.std.specs.List.{AllByRecursion}
use Rattle.deals.specs.declared.Op.{Op}
use Rattle.deals.specs.declared.Op.TheVariants.{Get, Put, Drop, Next, Mark, Back, Commit, Undo}
use Rattle.deals.specs.declared.Answer.{Answer}
use Rattle.deals.specs.declared.Answer.TheVariants.{Missing, Word}
use Rattle.lines.specs.declared.line.Line.{Line}
use Rattle.lines.specs.declared.line.Line.TheVariants.{Idle, Wrote, Cleared, Stale, Read, Scanned, Marked}
use Rattle.deals.specs.Deals.{Book, Said}
use Rattle.deals.specs.Books.{put_in, drop_in, find}

pub data Write : Type 0 where
  Puts : (k x : ℕ) → Write
  Drops : (k : ℕ) → Write

abbrev pub apply : Write → Book → Book
apply (Puts k x) b = put_in k x b
apply (Drops k) b = drop_in k b

-- the first first
abbrev pub onto : Book → List Write → Book
onto b [] = b
onto b (w ∷ ws) = onto (apply w b) ws

abbrev pub written : ℕ → Write → Answer → Answer
written j (Puts k x) d = cond (j == k) (Word x) d
written j (Drops k) d = cond (j == k) Missing d

-- the last write of a key, or what was there
abbrev pub found : ℕ → List Write → Answer → Answer
found j [] d = d
found j (w ∷ ws) d = found j ws (written j w d)

-- THE WRITES OF A DEAL that are in effect, and those that were at each of its marks
abbrev pub writes_then : Op → List Write → List (List Write) → List Write
writes_then (Get k) ws ms = ws
writes_then (Put k x) ws ms = ws ++ Puts k x ∷ []
writes_then (Drop k) ws ms = ws ++ Drops k ∷ []
writes_then (Next k) ws ms = ws
writes_then Mark ws ms = ws
writes_then (Back j) ws ms = cond (nat_lt j (length ms)) (slice_index_or ms j []) ws
writes_then Commit ws ms = ws
writes_then Undo ws ms = ws

abbrev pub marks_then : Op → List Write → List (List Write) → List (List Write)
marks_then (Get k) ws ms = ms
marks_then (Put k x) ws ms = ms
marks_then (Drop k) ws ms = ms
marks_then (Next k) ws ms = ms
marks_then Mark ws ms = ms ++ ws ∷ []
marks_then (Back j) ws ms = cond (nat_lt j (length ms)) (take (suc j) ms) ms
marks_then Commit ws ms = ms
marks_then Undo ws ms = ms

abbrev pub writes_of : List Said → List Write → List (List Write) → List Write
writes_of [] ws ms = ws
writes_of (s ∷ ss) ws ms = writes_of ss (writes_then s.op ws ms) (marks_then s.op ws ms)

abbrev pub writes_at : List Said → List Write → List (List Write) → List (List Write)
writes_at [] ws ms = ms
writes_at (s ∷ ss) ws ms = writes_at ss (writes_then s.op ws ms) (marks_then s.op ws ms)

abbrev pub effect : List Said → List Write
effect ss = writes_of ss [] []

-- the writes among lines: what was gone back over is none
abbrev pub write_in : Line → List Write
write_in Idle = []
write_in (Wrote k x) = Puts k x ∷ []
write_in (Cleared k s) = Drops k ∷ []
write_in (Stale k) = []
write_in (Read k) = []
write_in (Scanned k f) = []
write_in Marked = []

unfoldable pub writes_in : List Line → List Write
writes_in [] = []
writes_in (l ∷ ls) = write_in l ++ writes_in ls

-- no write of a key
abbrev pub key_of : Write → ℕ
key_of (Puts k x) = k
key_of (Drops k) = k

abbrev pub Misses : ℕ → List Write → Type 0
Misses j ws = AllByRecursion (λ w. j ≢ key_of w) ws

-- what is found by a deal: its own last write of the key, or what is in the book
abbrev pub sees : Book → List Write → ℕ → Answer
sees b ws j = found j ws (find j b)
