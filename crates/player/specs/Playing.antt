-- What happens while a player plays, and what is printed of it.
-- Assumes nothing.
use Rattle.std.specs.Prelude.{◌≡◌, ◌≢◌, ℕ, ◌+◌, ◌<◌, ◌≤◌, true, false, List, [], ◌∷◌, ◌++◌, length, Option, Some, None, Result, Ok, Err, IsNone, IsSome, IfSome, slice_index_or}
use Rattle.deals.specs.declared.Op.{Op}
use Rattle.deals.specs.declared.Op.TheVariants.{Get, Next, Undo}
use Rattle.deals.specs.declared.Answer.{Answer}
use Rattle.deals.specs.declared.Answer.TheVariants.{Word, Pair, Missing}
use Rattle.deals.specs.declared.Gone.{Gone}
use Rattle.script.specs.declared.Output.{Output as Line}
use Rattle.script.specs.declared.Output.TheVariants.{Told, Busy, Cut, Entry, End}
use Rattle.script.specs.declared.Command.{Command}
use Rattle.script.specs.declared.Command.TheVariants as command
use Rattle.player.specs.declared.engine.Engine as engine
use Rattle.player.specs.declared.sink.Sink as sink
use Rattle.player.specs.declared.seats.Seat.{Seat}
use Rattle.player.specs.declared.seats.Seat.TheVariants.{Free}
use Rattle.player.specs.Seating.{asked, told, nobody, is_asked, FirstFree}

-- A clerk asks; the office has a turn, with what that gave; the power has gone, and the office with it; it opens.
pub data Event : Type 0 where
  Asking : (who : ℕ) → Op → Event
  Turn : Result (Option (ℕ × Answer)) Gone → Event
  PowerCut Opening : Event

-- the office, while there is one, and who sits where
pub record Desk (O : Type 0) : Type 0 where
  pub office : Option O
  pub seats : List Seat

-- who sits where after a turn
abbrev pub after_turn : Result (Option (ℕ × Answer)) Gone → List Seat → List Seat
after_turn (Ok None) seats = seats
after_turn (Ok (Some t)) seats = told t.0 t.1 seats
after_turn (Err e) seats = seats

-- there is an office before and after, and it went from the one to the other
abbrev pub Goes : {O : Type 0} → (O → O → Type 0) → Option O → Option O → Type 0
Goes R (Some a) (Some b) = R a b
Goes R (Some a) None = ⊥
Goes R None b = ⊥

-- One event takes a desk from what it was to what it is. What an opening, an asking and a turn do to the office is the
-- office's own to say.
abbrev pub Step : {O : Type 0} → engine.Ghosts O → Event → Desk O → Desk O → Type 0
Step E (Asking who op) d e = Goes (λ a b. E.asked a who op b) d.office e.office × (e.seats ≡ asked who op d.seats)
Step E (Turn r) d e = Goes (λ a b. E.turned a r b) d.office e.office × (e.seats ≡ after_turn r d.seats)
Step E PowerCut d e = IsNone e.office × (e.seats ≡ nobody)
Step E Opening d e = IsNone d.office × IfSome e.office E.opened × (e.seats ≡ d.seats)

-- one after the other, the latest first
pub data Chain {A E : Type 0} (R : E → A → A → Type 0) : List E → A → A → Type 0 where
  none : (a : A) → Chain R [] a a
  more : {a b c : A} {e : E} {es : List E} → Chain R es a b → R e b c → Chain R (e ∷ es) a c

-- lines are said to a sink, one after the other, the latest first
abbrev pub Says : {S : Type 0} → sink.Ghosts S → List Line → S → S → Type 0
Says K ls s t = Chain (λ l a b. K.said a l b) ls s t

-- what a turn told is said, if it told anything
abbrev pub SaysTold : {S : Type 0} → sink.Ghosts S → Option (ℕ × Answer) → S → S → Type 0
SaysTold K None s t = t ≡ s
SaysTold K (Some p) s t = K.said s (Told p.0 p.1) t

-- what is printed of an event
abbrev pub line_of : Event → List Line
line_of (Asking who op) = []
line_of (Turn (Ok None)) = []
line_of (Turn (Ok (Some t))) = Told t.0 t.1 ∷ []
line_of (Turn (Err e)) = []
line_of PowerCut = Cut ∷ []
line_of Opening = []

-- what is printed of a row of events, the latest first
abbrev pub lines_of : List Event → List Line
lines_of [] = []
lines_of (e ∷ es) = line_of e ++ lines_of es

-- a turn in which the power stays, and that clerk isn't told
abbrev pub PassesBy : ℕ → Event → Type 0
PassesBy who (Asking c op) = ⊥
PassesBy who (Turn (Ok None)) = Unit {0}
PassesBy who (Turn (Ok (Some t))) = t.0 ≢ who
PassesBy who (Turn (Err e)) = ⊥
PassesBy who PowerCut = ⊥
PassesBy who Opening = ⊥

abbrev pub AllPassBy : ℕ → List Event → Type 0
AllPassBy who [] = Unit {0}
AllPassBy who (e ∷ es) = PassesBy who e × AllPassBy who es

-- the power goes, as often as that
pub data Cuts : List Event → Type 0 where
  never : Cuts []
  again : {es : List Event} → Cuts es → Cuts (PowerCut ∷ es)

-- the office is opened until it stands; or the power goes in all lives that are left
pub data Openings : List Event → Type 0 where
  stands : {es : List Event} → Cuts es → Openings (Opening ∷ es)
  over : {es : List Event} → Cuts es → Openings es

-- a desk with no office, where nobody has a deal
abbrev pub empty_desk : {O : Type 0} → Desk O
empty_desk {O} = record { office = None; seats = nobody }

-- The row takes the desk from d to e, and the lines are what was said to the sink meanwhile, from s to t.
pub record Played {O S : Type 0} (E : engine.Ghosts O) (K : sink.Ghosts S) (row : List Event) (lines : List Line) (d e : Desk O) (s t : S) : Type 0 where
  pub goes : Chain (Step E) row d e
  pub says : Says K lines s t

-- the pair that was told, if it was one
abbrev pub pair_in : Option Answer → Option (ℕ × ℕ)
pair_in (Some (Pair j x)) = Some (j, x)
pair_in r = None

-- what was found at a key, if that was told
abbrev pub found_in : Option Answer → Option (Option ℕ)
found_in (Some (Word x)) = Some (Some x)
found_in (Some Missing) = Some None
found_in r = None

-- a row of that shape, with the lines that are printed of it
pub record Happens {O S : Type 0} (E : engine.Ghosts O) (K : sink.Ghosts S) (Shape : List Event → List Line → Type 0) (d e : Desk O) (s t : S) : Type 0 where
  pub row : List Event
  pub lines : List Line
  pub shape : Shape row lines
  pub played : Played E K row lines d e s t

-- nothing happens but openings, each of which is a life, after so many lives up to the last
pub record Opens {O S : Type 0} (E : engine.Ghosts O) (K : sink.Ghosts S) (past last : ℕ) (office : Option O) (s t : S) : Type 0 where
  pub row : List Event
  pub shape : Openings row
  pub lives : past ≤ last → past + length row ≡ last
  pub played : Played E K row (lines_of row) empty_desk (record { office = office; seats = nobody }) s t

-- the power goes, and the office is opened again
pub record Restarts {O S : Type 0} (E : engine.Ghosts O) (K : sink.Ghosts S) (d e : Desk O) (s t : S) : Type 0 where
  pub row : List Event
  pub shape : Openings row
  pub played : Played E K (row ++ (PowerCut ∷ [])) (lines_of (row ++ (PowerCut ∷ []))) d e s t

-- a turn while a clerk is waited for: what another is told is printed
abbrev pub WaitsTurn : {O S : Type 0} → engine.Ghosts O → sink.Ghosts S → ℕ → Result (Option Answer) Gone → Desk O → Desk O → S → S → Type 0
WaitsTurn E K who (Ok (Some a)) d e s t = Played E K (Turn (Ok (Some (who, a))) ∷ []) [] d e s t
WaitsTurn E K who (Ok None) d e s t = (told : Option (ℕ × Answer)) × PassesBy who (Turn (Ok told)) × Played E K (Turn (Ok told) ∷ []) (lines_of (Turn (Ok told) ∷ [])) d e s t
WaitsTurn E K who (Err g) d e s t = Played E K (Turn (Err g) ∷ []) [] d e s t

-- The turns that a clerk is waited for: until it is told, or 64 of them, or until the power goes.
pub data Wait (who : ℕ) : Result (Option Answer) Gone → List Event → Type 0 where
  answered : {a : Answer} {es : List Event} → AllPassBy who es → length es < 64 → Wait who (Ok (Some a)) (Turn (Ok (Some (who, a))) ∷ es)
  unanswered : (es : List Event) → AllPassBy who es → length es ≡ 64 → Wait who (Ok None) es
  lost : {e : Gone} (os es : List Event) → AllPassBy who es → length es < 64 → Openings os → Wait who (Err e) ((os ++ (PowerCut ∷ [])) ++ (Turn (Err e) ∷ es))

-- what is printed of that, where what the clerk is told isn't printed yet
abbrev pub lines_before : ℕ → Result (Option Answer) Gone → List Event → List Line
lines_before who (Ok (Some a)) [] = []
lines_before who (Ok (Some a)) (e ∷ es) = lines_of es
lines_before who (Ok None) es = lines_of es
lines_before who (Err e) es = lines_of es

-- a clerk is waited for
pub record Waited {O S : Type 0} (E : engine.Ghosts O) (K : sink.Ghosts S) (who : ℕ) (r : Result (Option Answer) Gone) (d e : Desk O) (s t : S) : Type 0 where
  pub row : List Event
  pub shape : Wait who r row
  pub played : Played E K row (lines_before who r row) d e s t

-- The reader asks and is waited for: what it's told, the row and what is printed; its own answer isn't.
pub data Asks (reader : ℕ) (op : Op) : Option Answer → List Event → List Line → Type 0 where
  told_it : {a : Answer} (es : List Event) → Wait reader (Ok (Some a)) es → Asks reader op (Some a) (es ++ (Asking reader op ∷ [])) (lines_before reader (Ok (Some a)) es)
  untold : {es : List Event} → Wait reader (Ok None) es → Asks reader op None (es ++ (Asking reader op ∷ [])) (lines_of es)
  cut_off : {g : Gone} {es : List Event} → Wait reader (Err g) es → Asks reader op None (es ++ (Asking reader op ∷ [])) (lines_of es)

-- the same, if it can ask
pub data Look (reader : ℕ) (op : Op) : Option Answer → List Event → List Line → Type 0 where
  unasked : Look reader op None [] []
  asked_it : {r : Option Answer} {es : List Event} {ls : List Line} → Asks reader op r es ls → Look reader op r es ls

-- Pairs are read and printed, from above one key to the last: each is asked for above the one before. In between the
-- deal may be undone.
pub data Reads (reader : ℕ) : ℕ → ℕ → List Event → List Line → Type 0 where
  at_key : (k : ℕ) → Reads reader k k [] []
  pair : {k l j x : ℕ} {r : Option Answer} {es fs : List Event} {ms ls : List Line} → Reads reader k l es ls → Look reader (Next l) r fs ms → pair_in r ≡ Some (j, x) → Reads reader k j (fs ++ es) (Entry j x ∷ (ms ++ ls))
  undone : {k l : ℕ} {a : Answer} {es fs : List Event} {ms ls : List Line} → Reads reader k l es ls → Look reader Undo (Some a) fs ms → Reads reader k l (fs ++ es) (ms ++ ls)

-- the pairs above key 0, until the reader is told anything else, or isn't told that its deal is undone
pub data ReadsOn (reader : ℕ) : List Event → List Line → Type 0 where
  no_pair : {l : ℕ} {r : Option Answer} {es fs : List Event} {ms ls : List Line} → Reads reader 0 l es ls → Look reader (Next l) r fs ms → pair_in r ≡ None → ReadsOn reader (fs ++ es) (ms ++ ls)
  not_undone : {l : ℕ} {es fs : List Event} {ms ls : List Line} → Reads reader 0 l es ls → Look reader Undo None fs ms → ReadsOn reader (fs ++ es) (ms ++ ls)

-- the word of key 0, and the pairs above it
pub data BookRead (reader : ℕ) : List Event → List Line → Type 0 where
  word_first : {x : ℕ} {r : Option Answer} {es fs : List Event} {ms ls : List Line} → Asks reader (Get 0) r es ls → found_in r ≡ Some (Some x) → ReadsOn reader fs ms → BookRead reader (fs ++ es) (ms ++ (Entry 0 x ∷ ls))
  pairs_only : {r : Option Answer} {es fs : List Event} {ms ls : List Line} → Asks reader (Get 0) r es ls → found_in r ≡ Some None → ReadsOn reader fs ms → BookRead reader (fs ++ es) (ms ++ ls)
  unread : {r : Option Answer} {es : List Event} {ls : List Line} → Asks reader (Get 0) r es ls → found_in r ≡ None → BookRead reader es ls

-- Turns, and after each that the power takes the openings that follow.
pub data Turns : ℕ → List Event → Type 0 where
  no_turn : Turns 0 []
  one_more : {n : ℕ} {es : List Event} (told : Option (ℕ × Answer)) → Turns n es → Turns (n + 1) (Turn (Ok told) ∷ es)
  one_lost : {n : ℕ} {g : Gone} (os es : List Event) → Turns n es → Openings os → Turns (n + 1) ((os ++ (PowerCut ∷ [])) ++ (Turn (Err g) ∷ es))

-- What may happen at a command, and what is printed then, from who sits where before; office is what there is afterwards.
pub data Does {O : Type 0} (seats : List Seat) (office : Option O) : Command → List Event → List Line → Type 0 where
  clerk_busy : {who : ℕ} {op : Op} → is_asked (slice_index_or seats who Free) ≡ true → Does seats office (command.Ask who op) [] (Busy who ∷ [])
  clerk_asks : {who : ℕ} {op : Op} {gave : Result (Option Answer) Gone} (es : List Event) → is_asked (slice_index_or seats who Free) ≡ false → Wait who gave es → Does seats office (command.Ask who op) (es ++ (Asking who op ∷ [])) (lines_of (es ++ (Asking who op ∷ [])))
  -- all of them, or as far as lives go
  office_turns : {n : ℕ} (had : ℕ) (es : List Event) → Turns had es → had ≤ n → (IsSome office → had ≡ n) → Does seats office (command.Turn n) es (lines_of es)
  cut_set : {after choice : ℕ} → 0 < after → Does seats office (command.Cut after choice) [] []
  cut_now : {choice : ℕ} (os : List Event) → Openings os → Does seats office (command.Cut 0 choice) (os ++ (PowerCut ∷ [])) (lines_of (os ++ (PowerCut ∷ [])))
  unread_book : FirstFree seats None → Does seats office command.Book [] (End ∷ [])
  -- at last the deal is undone, if there is one
  book_read : {reader : ℕ} {r : Option Answer} {es fs : List Event} {ms ls : List Line} → FirstFree seats (Some reader) → BookRead reader es ls → Look reader Undo r fs ms → Does seats office command.Book (fs ++ es) (End ∷ (ms ++ ls))

-- a command is played
abbrev pub Plays : {O S : Type 0} → engine.Ghosts O → sink.Ghosts S → Command → Desk O → Desk O → S → S → Type 0
Plays E K c d e s t = Happens E K (Does d.seats e.office c) d e s t
