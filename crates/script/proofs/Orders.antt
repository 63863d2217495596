-- A verb and its numbers.
use Rattle.std.proofs.Common.{◌≡◌, ℕ, List, ◌++◌, take, drop, Some, None, sym, refl, ap, ◌∙◌, arith}
use Rattle.std.proofs.lemmas.List.{take-append-drop}
use Rattle.script.specs.declared.line.Verb.{Verb}
use Rattle.script.specs.declared.line.Numbers.{Numbers}
use Rattle.script.specs.declared.line.Numbers.TheVariants.{Zero, One, Two}
use Rattle.script.specs.declared.line.Order.{Order}
use Rattle.script.specs.Text.{Reads}
use Rattle.script.specs.Order.{verb_text, numbers_text, NumbersFit, order_text, OrderFits}
use Rattle.script.specs.Words.{WordEnd}
use Rattle.script.proofs.Reading.{reads_none, reads_some, never_read, only_read}
use Rattle.script.proofs.Verbs.{spaceless_verb}
use Rattle.script.proofs.Words.{Spaced, word_is}

abbrev Any : Verb → Type 0
Any v = Unit {0}

spaced_numbers : (n : Numbers) → Spaced (numbers_text n)
spaced_numbers Zero lt = absurd (omega arith)
spaced_numbers (One a) lt = refl
spaced_numbers (Two a b) lt = refl

pub order_parts : (text : List ℕ) (e : ℕ) (o : Order) → WordEnd text e → text ≡ order_text o → (take e text ≡ verb_text o.verb) × (drop e text ≡ numbers_text o.numbers)
order_parts text e o h p = word_is text (verb_text o.verb) (numbers_text o.numbers) e h p (spaceless_verb o.verb) (spaced_numbers o.numbers)

pub no_verb : (text : List ℕ) (e : ℕ) → WordEnd text e → Reads Any verb_text (take e text) None → Reads OrderFits order_text text None
no_verb text e h r = reads_none OrderFits order_text text (λ o f p. never_read Any verb_text _ r o.verb tt (order_parts text e o h p).0)

pub bad_numbers : (text : List ℕ) (e : ℕ) → WordEnd text e → Reads NumbersFit numbers_text (drop e text) None → Reads OrderFits order_text text None
bad_numbers text e h r = reads_none OrderFits order_text text (λ o f p. never_read NumbersFit numbers_text _ r o.numbers f (order_parts text e o h p).1)

same_order : (o : Order) (v : Verb) (n : Numbers) → v ≡ o.verb → n ≡ o.numbers → record { verb = v; numbers = n } ≡ o
same_order o v n p q = rw p (rw q refl)

pub an_order : (text : List ℕ) (e : ℕ) (v : Verb) (n : Numbers) → WordEnd text e → Reads Any verb_text (take e text) (Some v) → Reads NumbersFit numbers_text (drop e text) (Some n) → Reads OrderFits order_text text (Some (record { verb = v; numbers = n }))
an_order text e v n h r q =
    let first = (r.prints v refl).1 in
    let second = q.prints n refl in
    reads_some OrderFits order_text text (record { verb = v; numbers = n }) second.0
    (sym (take-append-drop e text) ∙ (ap (λ t. t ++ drop e text) first ∙ ap (λ t. verb_text v ++ t) second.1))
    (λ o f p. same_order o v n (only_read Any verb_text _ v r o.verb tt (order_parts text e o h p).0) (only_read NumbersFit numbers_text _ n q o.numbers f (order_parts text e o h p).1))
