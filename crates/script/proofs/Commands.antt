-- What an order means, and what means it.
use Rattle.std.proofs.Common.{◌≡◌, ℕ, ◌^◌, ◌<◌, cond, Some, None, Option, sym, refl, ap, ◌∙◌, subst, inl, inr, arith}
use Rattle.std.proofs.lemmas.Bool.{cases_lt, lt-ltb, le-ltb}
use Rattle.deals.specs.declared.Op.{Op}
use Rattle.deals.specs.declared.Op.TheVariants as op
use Rattle.script.specs.declared.Command.{Command}
use Rattle.script.specs.declared.Command.TheVariants as command
use Rattle.script.specs.declared.line.Verb.{Verb}
use Rattle.script.specs.declared.line.Verb.TheVariants.{Get, Put, Drop, Next, Mark, Back, Commit, Undo, Turn, Cut, Book}
use Rattle.script.specs.declared.line.Numbers.{Numbers}
use Rattle.script.specs.declared.line.Numbers.TheVariants.{Zero, One, Two}
use Rattle.script.specs.declared.line.Order.{Order}
use Rattle.script.specs.Text.{Fits, OpFits, op_text, text_of}
use Rattle.script.specs.Order.{order_text, OrderFits, plain_op, key_op, word_op, op_of, book_command, turn_command, cut_command, own_command}
use Rattle.script.proofs.Reading.{not_some, same_some}

abbrev pub order : Verb → Numbers → Order
order v n = record { verb = v; numbers = n }

abbrev pub order_of : Op → Order
order_of (op.Get k) = order Get (One k)
order_of (op.Put k x) = order Put (Two k x)
order_of (op.Drop k) = order Drop (One k)
order_of (op.Next k) = order Next (One k)
order_of op.Mark = order Mark Zero
order_of (op.Back j) = order Back (One j)
order_of op.Commit = order Commit Zero
order_of op.Undo = order Undo Zero

pub op_text_lem : (o : Op) → op_text o ≡ order_text (order_of o)
op_text_lem op.Mark = refl
op_text_lem o = refl

pub op_fits : (o : Op) → OpFits o → OrderFits (order_of o)
op_fits (op.Back j) f = omega arith
op_fits o f = f

pub op_again : (o : Op) → OpFits o → op_of (order_of o).verb (order_of o).numbers ≡ Some o
op_again (op.Back j) f = rw (lt-ltb j (2 ^ 32) f)
op_again o f = refl

-- an operation's order, with its numbers in range
abbrev pub Means : Op → Order → Type 0
Means o r = (r ≡ order_of o) × OpFits o

at_op : (o q : Op) → OpFits o → Some o ≡ Some q → Means q (order_of o)
at_op o q f e = let P : Op → Type 0 = λ x. Means x (order_of o) in subst P (same_some o q e) (refl, f)

plain_means : (v : Verb) (o : Op) → plain_op v ≡ Some o → Means o (order v Zero)
plain_means Mark o e = at_op op.Mark o tt e
plain_means Commit o e = at_op op.Commit o tt e
plain_means Undo o e = at_op op.Undo o tt e
plain_means v o e = not_some o e

key_means : (v : Verb) (k : ℕ) (o : Op) → k < 2 ^ 64 → key_op v k ≡ Some o → Means o (order v (One k))
key_means Get k o f e = at_op (op.Get k) o f e
key_means Drop k o f e = at_op (op.Drop k) o f e
key_means Next k o f e = at_op (op.Next k) o f e
key_means Back k o f e =
    elim (cases_lt k (2 ^ 32)) [
      | inl lt ↦ at_op (op.Back k) o lt (sym (ap (λ b. cond b (Some (op.Back k)) None) (lt-ltb k (2 ^ 32) lt)) ∙ e)
      | inr ge ↦ not_some o (sym (ap (λ b. cond b (Some (op.Back k)) None) (le-ltb k (2 ^ 32) ge)) ∙ e)
    ]
key_means v k o f e = not_some o e

word_means : (v : Verb) (k x : ℕ) (o : Op) → (k < 2 ^ 64) × (x < 2 ^ 64) → word_op v k x ≡ Some o → Means o (order v (Two k x))
word_means Put k x o f e = at_op (op.Put k x) o f e
word_means v k x o f e = not_some o e

pub op_means : (v : Verb) (n : Numbers) (o : Op) → OrderFits (order v n) → op_of v n ≡ Some o → Means o (order v n)
op_means v Zero o f e = plain_means v o e
op_means v (One k) o f e = key_means v k o f e
op_means v (Two k x) o f e = word_means v k x o f e

-- the order of a command that no clerk gives
abbrev pub own_order : Command → Option Order
own_order (command.Ask who o) = None
own_order (command.Turn n) = Some (order Turn (One n))
own_order (command.Cut n s) = Some (order Cut (Two n s))
own_order command.Book = Some (order Book Zero)

abbrev pub OwnMeans : Command → Order → Type 0
OwnMeans c r = (own_order c ≡ Some r) × Fits c

own_at : (c d : Command) (r : Order) → OwnMeans c r → Some c ≡ Some d → OwnMeans d r
own_at c d r m e = let P : Command → Type 0 = λ x. OwnMeans x r in subst P (same_some c d e) m

book_means : (v : Verb) (c : Command) → book_command v ≡ Some c → OwnMeans c (order v Zero)
book_means Book c e = own_at command.Book c (order Book Zero) (refl, tt) e
book_means v c e = not_some c e

turn_means : (v : Verb) (n : ℕ) (c : Command) → turn_command v n ≡ Some c → OwnMeans c (order v (One n))
turn_means Turn n c e =
    elim (cases_lt n 16777216) [
      | inl lt ↦ own_at (command.Turn n) c (order Turn (One n)) (refl, lt) (sym (ap (λ b. cond b (Some (command.Turn n)) None) (lt-ltb n 16777216 lt)) ∙ e)
      | inr ge ↦ not_some c (sym (ap (λ b. cond b (Some (command.Turn n)) None) (le-ltb n 16777216 ge)) ∙ e)
    ]
turn_means v n c e = not_some c e

cut_means : (v : Verb) (n s : ℕ) (c : Command) → (n < 2 ^ 64) × (s < 2 ^ 64) → cut_command v n s ≡ Some c → OwnMeans c (order v (Two n s))
cut_means Cut n s c f e = own_at (command.Cut n s) c (order Cut (Two n s)) (refl, f) e
cut_means v n s c f e = not_some c e

pub own_means : (v : Verb) (n : Numbers) (c : Command) → OrderFits (order v n) → own_command v n ≡ Some c → OwnMeans c (order v n)
own_means v Zero c f e = book_means v c e
own_means v (One n) c f e = turn_means v n c e
own_means v (Two n s) c f e = cut_means v n s c f e

pub own_text : (c : Command) (r : Order) → own_order c ≡ Some r → text_of c ≡ order_text r
own_text (command.Ask who o) r e = not_some r e
own_text (command.Turn n) r e = ap order_text (same_some (order Turn (One n)) r e)
own_text (command.Cut n s) r e = ap order_text (same_some (order Cut (Two n s)) r e)
own_text command.Book r e = ap order_text (same_some (order Book Zero) r e)

abbrev meant : Order → Option Command
meant r = own_command r.verb r.numbers

pub own_again : (c : Command) (r : Order) → own_order c ≡ Some r → Fits c → own_command r.verb r.numbers ≡ Some c
own_again (command.Ask who o) r e f = not_some r e
own_again (command.Turn n) r e f = ap meant (sym (same_some (order Turn (One n)) r e)) ∙ rw (lt-ltb n 16777216 f)
own_again (command.Cut n s) r e f = ap meant (sym (same_some (order Cut (Two n s)) r e))
own_again command.Book r e f = ap meant (sym (same_some (order Book Zero) r e))
