-- What is seen, explained by a state of which something holds; and what a turn brings.
use Rattle.std.specs.Prelude.{◌≡◌, ℕ, ◌+◌, ◌*◌, ◌≤◌, Bool, true, false, T, List, [], length, Some, None, Option, ◌≢◌}
use Rattle.deals.specs.declared.Op.{Op}
use Rattle.deals.specs.declared.Answer.{Answer}
use Rattle.deals.specs.declared.lives.Stop.{Stop}
use Rattle.deals.specs.declared.lives.Stop.TheVariants.{Dark}
use Rattle.deals.specs.declared.lives.Stop.TheVariants as stop
use Rattle.deals.specs.Deals.{Book, Event, State, Now, Quiet, Under, Over, Run, set_clerk, aged, every, young}
use Rattle.deals.specs.Promise.{can}
use Rattle.deals.specs.LineUps.{age_of}

-- after a cut nobody has anything under way
abbrev pub at_rest : Book → State
at_rest b = record { book = b; clerk = λ c. record { deal = []; now' = Quiet } }

abbrev pub Holds : ℕ → List Event → (State → Type 0) → Type 0
Holds pages es P = (s : State) × Run can pages es s × P s

-- between two lives
abbrev pub HoldsBook : ℕ → List Event → (Book → Type 0) → Type 0
HoldsBook pages es L = (b : Book) × Run can pages es (at_rest b) × L b

-- x is what its clerk is to be told
abbrev pub Tells : Option (ℕ × Answer) → State → Type 0
Tells None s = Unit {0}
Tells (Some x) s = (o : Op) × (g : ℕ) × ((s.clerk x.0).now' ≡ Over o x.1 g)

unfoldable pub is_over : Now → Bool
is_over Quiet = false
is_over (Under o g) = false
is_over (Over o a g) = true

-- nobody but its clerk is to be told anything, and that one hasn't waited long
abbrev pub Alone : Option (ℕ × Answer) → State → Type 0
Alone None s = (c : ℕ) → is_over (s.clerk c).now' ≡ false
Alone (Some x) s = (age_of (s.clerk x.0).now' ≤ 32) × ((c : ℕ) → (c ≢ x.0) → is_over (s.clerk c).now' ≡ false)

abbrev pub hears : Option (ℕ × Answer) → State → State
hears None s = s
hears (Some x) s = set_clerk x.0 (s.clerk x.0).deal Quiet s

-- A TURN WAS MADE, and x is to be told: the state before that, and P holds once the turn is noted and x told
pub record Went (pages : ℕ) (es : List Event) (P : State → Type 0) (x : Option (ℕ × Answer)) : Type 0 where
  pub to : State
  pub run : Run can pages es to
  pub prompt : T (every 32 (λ (c : ℕ). young (256 + 2 * length (to.clerk c).deal) (to.clerk c).now'))
  pub tells : Tells x to
  pub stands : P (hears x (aged can to))

abbrev pub IfDark : Stop → Type 0 → Type 0
IfDark Dark P = P
IfDark stop.Over P = Unit {0}
