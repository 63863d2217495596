-- A line: a clerk's order, or one of its own.
use Rattle.std.proofs.Common.{◌≡◌, ℕ, ◌+◌, ◌<◌, ◌≤◌, List, ◌∷◌, length, take, drop, Some, None, decimal, Option, sym, refl, ap, ◌∙◌, arith}
use Rattle.std.proofs.lemmas.List.{drop-drop}
use Rattle.deals.specs.declared.Op.{Op}
use Rattle.script.specs.declared.Command.{Command}
use Rattle.script.specs.declared.Command.TheVariants.{Ask, Turn, Cut, Book}
use Rattle.script.specs.declared.line.Verb.TheVariants as verb
use Rattle.script.specs.declared.line.Numbers.TheVariants.{Zero, One, Two}
use Rattle.script.specs.declared.line.Order.{Order}
use Rattle.script.specs.Text.{Reads, Fits, OpFits, op_text, text_of}
use Rattle.script.specs.Order.{order_text, OrderFits, op_of, own_command}
use Rattle.script.specs.Words.{WordEnd}
use Rattle.script.proofs.Commands.{order, order_of, op_text_lem, op_fits, op_again, op_means, own_order, own_means, own_text, own_again}
use Rattle.script.proofs.Operands.{Small, around}
use Rattle.script.proofs.Orders.{order_parts}
use Rattle.script.proofs.Reading.{not_some, same_some, reads_none, reads_some, never_read, only_read}
use Rattle.script.proofs.Verbs.{verb_no_number}
use Rattle.script.proofs.Words.{word_is, spaceless_number}

-- a command that a clerk gives
record AskedBy (line : List ℕ) (e who : ℕ) (c : Command) : Type 0 where
  asks : Op
  same : Ask who asks ≡ c
  small : who < 32
  fits : OpFits asks
  tail : drop e line ≡ 32 ∷ op_text asks

ask_parts : (line : List ℕ) (e who : ℕ) (o : Op) → WordEnd line e → who < 32 → line ≡ text_of (Ask who o) → (take e line ≡ decimal who) × (drop e line ≡ 32 ∷ op_text o)
ask_parts line e who o h small p = word_is line (decimal who) (32 ∷ op_text o) e h p (spaceless_number who (omega arith)) (λ lt. refl)

-- a line that begins with a number is no order
no_own_order : (line : List ℕ) (e who : ℕ) (r : Order) → WordEnd line e → Reads Small decimal (take e line) (Some who) → line ≡ order_text r → ⊥
no_own_order line e who r h n p =
    let number = n.prints who refl in
    verb_no_number r.verb who number.0 (sym (order_parts line e r h p).0 ∙ number.1)

asked_by : (line : List ℕ) (e who : ℕ) → WordEnd line e → Reads Small decimal (take e line) (Some who) → (c : Command) → Fits c → line ≡ text_of c → AskedBy line e who c
asked_by line e who h n (Ask w o) f p =
    let parts = ask_parts line e w o h f.0 p in
    let same : who ≡ w = only_read Small decimal _ who n w (omega (arith, f.0)) parts.0 in
    record { asks = o; same = ap (λ x. Ask x o) same; small = omega (arith, f.0); fits = f.1; tail = parts.1 }
asked_by line e who h n (Turn k) f p = absurd (no_own_order line e who (order verb.Turn (One k)) h n p)
asked_by line e who h n (Cut k s) f p = absurd (no_own_order line e who (order verb.Cut (Two k s)) h n p)
asked_by line e who h n Book f p = absurd (no_own_order line e who (order verb.Book Zero) h n p)

pub no_clerk : (line : List ℕ) (e who : ℕ) → WordEnd line e → Reads Small decimal (take e line) (Some who) → 32 ≤ who → Reads Fits text_of line None
no_clerk line e who h n large =
    reads_none Fits text_of line (λ c f p. let a = asked_by line e who h n c f p in omega (arith, a.small))

pub no_tail : (line : List ℕ) (e who : ℕ) → WordEnd line e → Reads Small decimal (take e line) (Some who) → length (drop e line) ≡ 0 → Reads Fits text_of line None
no_tail line e who h n none =
    reads_none Fits text_of line (λ c f p. let a = asked_by line e who h n c f p in omega (arith, ap length a.tail))

-- what stands behind the clerk
behind_clerk : (line : List ℕ) (e who : ℕ) (c : Command) (a : AskedBy line e who c) → drop (e + 1) line ≡ order_text (order_of a.asks)
behind_clerk line e who c a = sym (drop-drop 1 e line) ∙ (ap (drop 1) a.tail ∙ op_text_lem a.asks)

pub no_order : (line : List ℕ) (e who : ℕ) → WordEnd line e → Reads Small decimal (take e line) (Some who) → Reads OrderFits order_text (drop (e + 1) line) None → Reads Fits text_of line None
no_order line e who h n r =
    reads_none Fits text_of line (λ c f p.
    let a = asked_by line e who h n c f p in
    never_read OrderFits order_text _ r (order_of a.asks) (op_fits a.asks a.fits) (behind_clerk line e who c a))

-- the order that was read asks what the command asks
same_op : (line : List ℕ) (e who : ℕ) (c : Command) (a : AskedBy line e who c) (r : Order) → Reads OrderFits order_text (drop (e + 1) line) (Some r) → op_of r.verb r.numbers ≡ Some a.asks
same_op line e who c a r q =
    ap (λ x. op_of x.verb x.numbers) (only_read OrderFits order_text _ r q (order_of a.asks) (op_fits a.asks a.fits) (behind_clerk line e who c a)) ∙ op_again a.asks a.fits

pub no_op : (line : List ℕ) (e who : ℕ) (r : Order) → WordEnd line e → Reads Small decimal (take e line) (Some who) → Reads OrderFits order_text (drop (e + 1) line) (Some r) → None ≡ op_of r.verb r.numbers → Reads Fits text_of line None
no_op line e who r h n q none =
    reads_none Fits text_of line (λ c f p.
    let a = asked_by line e who h n c f p in
    not_some a.asks (none ∙ same_op line e who c a r q))

pub an_ask : (line : List ℕ) (e who : ℕ) (r : Order) (o : Op) → WordEnd line e → Reads Small decimal (take e line) (Some who) → who < 32 → e < length line → Reads OrderFits order_text (drop (e + 1) line) (Some r) → Some o ≡ op_of r.verb r.numbers → Reads Fits text_of line (Some (Ask who o))
an_ask line e who r o h n small more q some =
    let ordered = q.prints r refl in
    let means = op_means r.verb r.numbers o ordered.0 (sym some) in
    reads_some Fits text_of line (Ask who o) (small, means.1)
    (around line e (decimal who) (op_text o) (n.prints who refl).1 (h.stops more) more (ordered.1 ∙ (ap order_text means.0 ∙ sym (op_text_lem o))))
    (λ c f p.
    let a = asked_by line e who h n c f p in
    ap (λ x. Ask who x) (same_some o a.asks (some ∙ same_op line e who c a r q)) ∙ a.same)

-- a command that no clerk gives
record OwnBy (line : List ℕ) (c : Command) : Type 0 where
  orders : Order
  same : own_order c ≡ Some orders
  fits : OrderFits orders
  text : line ≡ order_text orders

own_by : (line : List ℕ) (e : ℕ) → WordEnd line e → Reads Small decimal (take e line) None → (c : Command) → Fits c → line ≡ text_of c → OwnBy line c
own_by line e h n (Ask who o) f p = absurd (never_read Small decimal _ n who (omega (arith, f.0)) (ask_parts line e who o h f.0 p).0)
own_by line e h n (Turn k) f p = record { orders = order verb.Turn (One k); same = refl; fits = omega arith; text = p }
own_by line e h n (Cut k s) f p = record { orders = order verb.Cut (Two k s); same = refl; fits = f; text = p }
own_by line e h n Book f p = record { orders = order verb.Book Zero; same = refl; fits = tt; text = p }

pub no_own : (line : List ℕ) (e : ℕ) → WordEnd line e → Reads Small decimal (take e line) None → Reads OrderFits order_text line None → Reads Fits text_of line None
no_own line e h n r =
    reads_none Fits text_of line (λ c f p.
    let b = own_by line e h n c f p in
    never_read OrderFits order_text line r b.orders b.fits b.text)

same_own : (line : List ℕ) (c : Command) → Fits c → OwnBy line c → (r : Order) → Reads OrderFits order_text line (Some r) → own_command r.verb r.numbers ≡ Some c
same_own line c f b r q =
    ap (λ x. own_command x.verb x.numbers) (only_read OrderFits order_text line r q b.orders b.fits b.text) ∙ own_again c b.orders b.same f

pub an_own : (line : List ℕ) (e : ℕ) (r : Order) → WordEnd line e → Reads Small decimal (take e line) None → Reads OrderFits order_text line (Some r) → (m : Option Command) → m ≡ own_command r.verb r.numbers → Reads Fits text_of line m
an_own line e r h n q None is =
    reads_none Fits text_of line (λ c f p. not_some c (is ∙ same_own line c f (own_by line e h n c f p) r q))
an_own line e r h n q (Some d) is =
    let ordered = q.prints r refl in
    let means = own_means r.verb r.numbers d ordered.0 (sym is) in
    reads_some Fits text_of line d means.1 (ordered.1 ∙ sym (own_text d r means.0))
    (λ c f p. same_some d c (is ∙ same_own line c f (own_by line e h n c f p) r q))
