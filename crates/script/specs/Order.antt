-- A line without its clerk: a verb and up to two numbers.
-- Assumes nothing.
use Rattle.std.specs.Prelude.{ℕ, ◌^◌, ◌<◌, cond, List, [], ◌++◌, Some, None, codes, Option, nat_lt}
use Rattle.deals.specs.declared.Op.{Op}
use Rattle.deals.specs.declared.Op.TheVariants as op
use Rattle.script.specs.declared.Command.{Command}
use Rattle.script.specs.declared.Command.TheVariants as command
use Rattle.script.specs.declared.line.Verb.{Verb}
use Rattle.script.specs.declared.line.Verb.TheVariants.{Get, Put, Drop, Next, Mark, Back, Commit, Undo, Turn, Cut, Book}
use Rattle.script.specs.declared.line.Numbers.{Numbers}
use Rattle.script.specs.declared.line.Numbers.TheVariants.{Zero, One, Two}
use Rattle.script.specs.declared.line.Order.{Order}
use Rattle.script.specs.Text.{spaced}

abbrev pub verb_text : Verb → List ℕ
verb_text Get = codes "get"
verb_text Put = codes "put"
verb_text Drop = codes "drop"
verb_text Next = codes "next"
verb_text Mark = codes "mark"
verb_text Back = codes "back"
verb_text Commit = codes "commit"
verb_text Undo = codes "undo"
verb_text Turn = codes "turn"
verb_text Cut = codes "cut"
verb_text Book = codes "book"

abbrev pub numbers_text : Numbers → List ℕ
numbers_text Zero = []
numbers_text (One a) = spaced a
numbers_text (Two a b) = spaced a ++ spaced b

abbrev pub NumbersFit : Numbers → Type 0
NumbersFit Zero = Unit {0}
NumbersFit (One a) = a < 2 ^ 64
NumbersFit (Two a b) = (a < 2 ^ 64) × (b < 2 ^ 64)

abbrev pub order_text : Order → List ℕ
order_text o = verb_text o.verb ++ numbers_text o.numbers

abbrev pub OrderFits : Order → Type 0
OrderFits o = NumbersFit o.numbers

-- what a verb asks of the office
abbrev pub plain_op : Verb → Option Op
plain_op Mark = Some op.Mark
plain_op Commit = Some op.Commit
plain_op Undo = Some op.Undo
plain_op v = None

abbrev pub key_op : Verb → ℕ → Option Op
key_op Get k = Some (op.Get k)
key_op Drop k = Some (op.Drop k)
key_op Next k = Some (op.Next k)
key_op Back k = cond (nat_lt k (2 ^ 32)) (Some (op.Back k)) None
key_op v k = None

abbrev pub word_op : Verb → ℕ → ℕ → Option Op
word_op Put k x = Some (op.Put k x)
word_op v k x = None

abbrev pub op_of : Verb → Numbers → Option Op
op_of v Zero = plain_op v
op_of v (One k) = key_op v k
op_of v (Two k x) = word_op v k x

abbrev pub book_command : Verb → Option Command
book_command Book = Some command.Book
book_command v = None

abbrev pub turn_command : Verb → ℕ → Option Command
turn_command Turn n = cond (nat_lt n 16777216) (Some (command.Turn n)) None
turn_command v n = None

abbrev pub cut_command : Verb → ℕ → ℕ → Option Command
cut_command Cut n s = Some (command.Cut n s)
cut_command v n s = None

abbrev pub own_command : Verb → Numbers → Option Command
own_command v Zero = book_command v
own_command v (One n) = turn_command v n
own_command v (Two n s) = cut_command v n s
