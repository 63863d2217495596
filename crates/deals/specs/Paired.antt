-- The statements' book, as pairs of a key and a word.
use Rattle.std.specs.Prelude.{◌≡◌, ℕ, List, [], ◌∷◌, Some, None, Option}
use Rattle.node.specs.Pairs as P
use Rattle.deals.specs.declared.Answer.{Answer}
use Rattle.deals.specs.declared.Answer.TheVariants.{Missing, Word, Pair}
use Rattle.deals.specs.Deals.{Book}
use Rattle.deals.specs.Books.{Up, find, two, put_in, drop_in, next_in}
use Rattle.deals.specs.Writes.{Write, Puts, Drops, onto}

unfoldable pub book_of : List (ℕ × ℕ) → Book
book_of [] = []
book_of (e ∷ es) = two e.0 e.1 ∷ book_of es

abbrev pub as_word : Option ℕ → Answer
as_word None = Missing
as_word (Some x) = Word x

abbrev pub as_pair : Option (ℕ × ℕ) → Answer
as_pair None = Missing
as_pair (Some e) = Pair e.0 e.1

abbrev pub written : Write → List (ℕ × ℕ) → List (ℕ × ℕ)
written (Puts k x) t = P.put_in k x t
written (Drops k) t = P.drop_in k t

-- the first first
abbrev pub with_writes : List (ℕ × ℕ) → List Write → List (ℕ × ℕ)
with_writes t [] = t
with_writes t (w ∷ ws) = with_writes (written w t) ws

abbrev pub PutIs : Type 0
PutIs = (k x : ℕ) (t : List (ℕ × ℕ)) → put_in k x (book_of t) ≡ book_of (P.put_in k x t)

abbrev pub DropIs : Type 0
DropIs = (k : ℕ) (t : List (ℕ × ℕ)) → Up 0 (book_of t) → drop_in k (book_of t) ≡ book_of (P.drop_in k t)

abbrev pub FindIs : Type 0
FindIs = (k : ℕ) (t : List (ℕ × ℕ)) → Up 0 (book_of t) → find k (book_of t) ≡ as_word (P.find k t)

abbrev pub NextIs : Type 0
NextIs = (k : ℕ) (t : List (ℕ × ℕ)) → next_in k (book_of t) ≡ as_pair (P.above k t)

abbrev pub OntoIs : Type 0
OntoIs = (t : List (ℕ × ℕ)) (ws : List Write) → Up 0 (book_of t) → onto (book_of t) ws ≡ book_of (with_writes t ws)
