-- Rows of events: one event more, one line more, two rows after each other.
use Rattle.std.proofs.Common.{◌≡◌, ℕ, ◌+◌, ◌<◌, ◌≤◌, List, [], ◌∷◌, ◌++◌, length, Option, Some, None, ◌≢◌, ◌∙◌, refl, sym, subst, append_assoc, append-nil, arith}
use Rattle.std.specs.Prelude.{Result, Ok, Err, IsSome, is_none, true, false, slice_index_or}
use Rattle.std.specs.Option.{option_flatten}
use Rattle.std.specs.Result.{result_ok}
use Rattle.deals.specs.declared.Op.{Op}
use Rattle.deals.specs.declared.Op.TheVariants.{Get, Next, Undo}
use Rattle.deals.specs.declared.Answer.{Answer}
use Rattle.deals.specs.declared.Gone.{Gone}
use Rattle.script.specs.declared.Output.{Output as Line}
use Rattle.script.specs.declared.Output.TheVariants.{Cut, Told, Busy, Entry, End}
use Rattle.player.specs.declared.engine.Engine as engine
use Rattle.player.specs.declared.sink.Sink as sink
use Rattle.player.specs.declared.seats.Seat.{Seat}
use Rattle.player.specs.declared.seats.Seat.TheVariants.{Free}
use Rattle.script.specs.declared.Command.TheVariants.{Ask}
use Rattle.script.specs.declared.Command.TheVariants as command
use Rattle.player.specs.Seating.{nobody, is_asked, FirstFree}
use Rattle.player.specs.Playing.{Event, Asking, Plays, clerk_asks, clerk_busy, cut_now, cut_set, office_turns, Turns, no_turn, one_more, one_lost, Look, Asks, asked_it, Happens, Reads, at_key, pair, undone, ReadsOn, no_pair, not_undone, pair_in, found_in, BookRead, word_first, pairs_only, unread, book_read, unread_book, unasked, told_it, untold, cut_off, Opening, PowerCut, Turn, Desk, Step, Chain, none, more, Says, SaysTold, Played, Opens, Cuts, Restarts, Wait, answered, unanswered, lost, Waited, WaitsTurn, lines_before, never, again, stands, over, lines_of, line_of, AllPassBy, empty_desk}

pub chain_append : {A E : Type 0} {R : E → A → A → Type 0} {xs ys : List E} {a b c : A} → Chain R xs a b → Chain R ys b c → Chain R (ys ++ xs) a c
chain_append before (none b) = before
chain_append before (more after step) = more (chain_append before after) step

pub lines_of-append : (ys xs : List Event) → lines_of (ys ++ xs) ≡ lines_of ys ++ lines_of xs
lines_of-append [] xs = refl
lines_of-append (y ∷ ys) xs = rw (lines_of-append ys xs) (sym (append_assoc (line_of y) (lines_of ys) (lines_of xs)))

-- no life yet, after some cuts
pub record Dark {O S : Type 0} (E : engine.Ghosts O) (K : sink.Ghosts S) (past now : ℕ) (s t : S) : Type 0 where
  pub row : List Event
  pub shape : Cuts row
  pub lives : past + length row ≡ now
  pub played : Played E K row (lines_of row) empty_desk empty_desk s t

-- nothing happens
pub still : {O S : Type 0} {E : engine.Ghosts O} {K : sink.Ghosts S} (d : Desk O) (s : S) → Played E K [] [] d d s s
still d s = record { goes = none d; says = none s }

-- one event more, of which nothing is printed yet
pub and_then : {O S : Type 0} {E : engine.Ghosts O} {K : sink.Ghosts S} {row : List Event} {lines : List Line} {d e f : Desk O} {s t : S} (ev : Event) → Played E K row lines d e s t → Step E ev e f → Played E K (ev ∷ row) lines d f s t
and_then ev p step = record { goes = more p.goes step; says = p.says }

-- one line more
pub and_says : {O S : Type 0} {E : engine.Ghosts O} {K : sink.Ghosts S} {row : List Event} {lines : List Line} {d e : Desk O} {s t u : S} (l : Line) → Played E K row lines d e s t → K.said t l u → Played E K row (l ∷ lines) d e s u
and_says l p says = record { goes = p.goes; says = more p.says says }

-- two rows after each other
pub and_on : {O S : Type 0} {E : engine.Ghosts O} {K : sink.Ghosts S} {row row' : List Event} {lines lines' : List Line} {d e f : Desk O} {s t u : S} → Played E K row lines d e s t → Played E K row' lines' e f t u → Played E K (row' ++ row) (lines' ++ lines) d f s u
and_on p q = record { goes = chain_append p.goes q.goes; says = chain_append p.says q.says }

pub dark_begins : {O S : Type 0} {E : engine.Ghosts O} {K : sink.Ghosts S} (past : ℕ) (s : S) → Dark E K past past s s
dark_begins past s = record { row = []; shape = never; lives = grind arith; played = still empty_desk s }

-- an opening at which the power goes
pub dark_goes_on : {O S : Type 0} {E : engine.Ghosts O} {K : sink.Ghosts S} {past now : ℕ} {s t u v : S} → Dark E K past now s t → u ≡ t → K.said u Cut v → Dark E K past (now + 1) s v
dark_goes_on {K} {v} d same cut = record { row = PowerCut ∷ d.row; shape = again d.shape; lives = let lives = d.lives in grind arith; played = and_says Cut (and_then PowerCut d.played (refl, refl)) (subst (λ x. K.said x Cut v) same cut) }

pub opens_at_last : {O S : Type 0} {E : engine.Ghosts O} {K : sink.Ghosts S} {past now : ℕ} {s t u : S} {o : O} → Dark E K past now s t → u ≡ t → E.opened o → Opens E K past (now + 1) (Some o) s u
opens_at_last {E} {K} {past} {now} {s} {o} d same is = subst (λ x. Opens E K past (now + 1) (Some o) s x) (sym same) (record { row = Opening ∷ d.row; shape = stands d.shape; lives = λ _. let lives = d.lives in grind arith; played = and_then Opening d.played (refl, is, refl) })

pub opens_never : {O S : Type 0} {E : engine.Ghosts O} {K : sink.Ghosts S} {past now last : ℕ} {s t : S} → Dark E K past now s t → (past ≤ last → now ≡ last) → Opens E K past last None s t
opens_never d all = record { row = d.row; shape = over d.shape; lives = λ low. d.lives ∙ all low; played = d.played }

-- two rows after each other, of which all is printed
pub and_all : {O S : Type 0} {E : engine.Ghosts O} {K : sink.Ghosts S} {row row' : List Event} {d e f : Desk O} {s t u : S} → Played E K row (lines_of row) d e s t → Played E K row' (lines_of row') e f t u → Played E K (row' ++ row) (lines_of (row' ++ row)) d f s u
and_all {row} {row'} p q = rw (lines_of-append row' row) (and_on p q)

-- the power goes, is told, and the office opens again
pub restarts : {O S : Type 0} {E : engine.Ghosts O} {K : sink.Ghosts S} {d : Desk O} {office : Option O} {seats : List Seat} {past last : ℕ} {s t u : S} → K.said s Cut t → Opens E K past last office t u → seats ≡ nobody → Restarts E K d (record { office = office; seats = seats }) s u
restarts {E} {K} {d} {office} {s} {u} cut opened empty = subst (λ x. Restarts E K d (record { office = office; seats = x }) s u) (sym empty) (record { row = opened.row; shape = opened.shape; played = and_all (and_says Cut (and_then PowerCut (still d s) (refl, refl)) cut) opened.played })

-- so many turns that pass a clerk by
pub record Passed {O S : Type 0} (E : engine.Ghosts O) (K : sink.Ghosts S) (who n : ℕ) (d e : Desk O) (s t : S) : Type 0 where
  pub row : List Event
  pub shape : AllPassBy who row
  pub long : length row ≡ n
  pub played : Played E K row (lines_of row) d e s t

pub passed_begins : {O S : Type 0} {E : engine.Ghosts O} {K : sink.Ghosts S} (who : ℕ) (d : Desk O) (s : S) → Passed E K who 0 d d s s
passed_begins who d s = record { row = []; shape = tt; long = refl; played = still d s }

-- one turn, of which nothing is printed
pub a_turn : {O S : Type 0} {E : engine.Ghosts O} {K : sink.Ghosts S} {r : Result (Option (ℕ × Answer)) Gone} {d e : Desk O} {s t : S} → Step E (Turn r) d e → t ≡ s → Played E K (Turn r ∷ []) [] d e s t
a_turn {E} {K} {r} {d} {e} {s} step same = subst (λ x. Played E K (Turn r ∷ []) [] d e s x) (sym same) (and_then (Turn r) (still d s) step)

-- the clerk itself is told
pub turn_tells : {O S : Type 0} {E : engine.Ghosts O} {K : sink.Ghosts S} {who told : ℕ} {a : Answer} {d e : Desk O} {s t : S} → Step E (Turn (Ok (Some (told, a)))) d e → t ≡ s → told ≡ who → WaitsTurn E K who (Ok (Some a)) d e s t
turn_tells {E} {K} {a} {d} {e} {s} {t} step same it = subst (λ x. WaitsTurn E K x (Ok (Some a)) d e s t) it (a_turn step same)

-- another is told
pub turn_tells_other : {O S : Type 0} {E : engine.Ghosts O} {K : sink.Ghosts S} {who : ℕ} (told : ℕ) (a : Answer) {d e : Desk O} {s t u : S} → Step E (Turn (Ok (Some (told, a)))) d e → t ≡ s → told ≢ who → K.said t (Told told a) u → WaitsTurn E K who (Ok None) d e s u
turn_tells_other told a step same other says = (Some (told, a), other, and_says (Told told a) (a_turn step same) says)

-- nobody is told
pub turn_tells_nobody : {O S : Type 0} {E : engine.Ghosts O} {K : sink.Ghosts S} {who : ℕ} {d e : Desk O} {s t : S} → Step E (Turn (Ok None)) d e → t ≡ s → WaitsTurn E K who (Ok None) d e s t
turn_tells_nobody step same = (None, tt, a_turn step same)

-- a turn that passes the clerk by
pub passed_more : {O S : Type 0} {E : engine.Ghosts O} {K : sink.Ghosts S} {who n : ℕ} {d e f : Desk O} {s t u : S} → Passed E K who n d e s t → WaitsTurn E K who (Ok None) e f t u → Passed E K who (n + 1) d f s u
passed_more p turn = record { row = Turn (Ok turn.0) ∷ p.row; shape = (turn.1, p.shape); long = let long = p.long in grind arith; played = and_all p.played turn.2 }

-- the clerk is told
pub waited_told : {O S : Type 0} {E : engine.Ghosts O} {K : sink.Ghosts S} {who n : ℕ} {a : Answer} {d e f : Desk O} {s t u : S} → Passed E K who n d e s t → n < 64 → WaitsTurn E K who (Ok (Some a)) e f t u → Waited E K who (Ok (Some a)) d f s u
waited_told {who} {a} p few turn = record { row = Turn (Ok (Some (who, a))) ∷ p.row; shape = answered p.shape (subst (λ k. k < 64) (sym p.long) few); played = and_on p.played turn }

-- it isn't told in 64 turns
pub waited_long : {O S : Type 0} {E : engine.Ghosts O} {K : sink.Ghosts S} {who n : ℕ} {d e : Desk O} {s t : S} → Passed E K who n d e s t → n ≡ 64 → Waited E K who (Ok None) d e s t
waited_long p all = record { row = p.row; shape = unanswered p.row p.shape (p.long ∙ all); played = p.played }

-- the power goes while it waits
pub waited_lost : {O S : Type 0} {E : engine.Ghosts O} {K : sink.Ghosts S} {who n : ℕ} {g : Gone} {d e f h : Desk O} {s t u v : S} → Passed E K who n d e s t → n < 64 → WaitsTurn E K who (Err g) e f t u → Restarts E K f h u v → Waited E K who (Err g) d h s v
waited_lost {g} p few turn restart = record { row = (restart.row ++ (PowerCut ∷ [])) ++ (Turn (Err g) ∷ p.row); shape = lost restart.row p.row p.shape (subst (λ k. k < 64) (sym p.long) few) restart.shape; played = and_all (and_on p.played turn) restart.played }

-- what the clerk is told is printed at last
pub all_printed : {O S : Type 0} {E : engine.Ghosts O} {K : sink.Ghosts S} {who : ℕ} {a : Answer} {row : List Event} {d e : Desk O} {s t u : S} → Wait who (Ok (Some a)) row → Played E K row (lines_before who (Ok (Some a)) row) d e s t → K.said t (Told who a) u → Played E K row (lines_of row) d e s u
all_printed {who} {a} (answered pass few) p says = and_says (Told who a) p says

-- a clerk asks, and then there are the turns that it is waited for
pub asks_and_waits : {O S : Type 0} {E : engine.Ghosts O} {K : sink.Ghosts S} {who : ℕ} {op : Op} {gave : Result (Option Answer) Gone} {row : List Event} {d e f : Desk O} {s t : S} → is_asked (slice_index_or d.seats who Free) ≡ false → Step E (Asking who op) d e → Wait who gave row → Played E K row (lines_of row) e f s t → Plays E K (Ask who op) d f s t
asks_and_waits {who} {op} {gave} {row} {d} {s} free step shape p = record { row = row ++ (Asking who op ∷ []); lines = lines_of (row ++ (Asking who op ∷ [])); shape = clerk_asks row free shape; played = and_all (and_then (Asking who op) (still d s) step) p }

-- a busy clerk is told so
pub busy_said : {O S : Type 0} {E : engine.Ghosts O} {K : sink.Ghosts S} {who : ℕ} {op : Op} {d : Desk O} {s t : S} → is_asked (slice_index_or d.seats who Free) ≡ true → K.said s (Busy who) t → Plays E K (Ask who op) d d s t
busy_said {who} {d} {s} busy says = record { row = []; lines = Busy who ∷ []; shape = clerk_busy busy; played = and_says (Busy who) (still d s) says }

pub cut_at_once : {O S : Type 0} {E : engine.Ghosts O} {K : sink.Ghosts S} {after choice : ℕ} {d e : Desk O} {s t : S} → after ≡ 0 → Restarts E K d e s t → Plays E K (command.Cut after choice) d e s t
cut_at_once {E} {K} {choice} {d} {e} {s} {t} now p = subst (λ x. Plays E K (command.Cut x choice) d e s t) (sym now) (record { row = p.row ++ (PowerCut ∷ []); lines = lines_of (p.row ++ (PowerCut ∷ [])); shape = cut_now p.row p.shape; played = p.played })

pub cut_to_come : {O S : Type 0} {E : engine.Ghosts O} {K : sink.Ghosts S} {after choice : ℕ} {d : Desk O} {s : S} → 0 < after → Plays E K (command.Cut after choice) d d s s
cut_to_come {d} {s} later = record { row = []; lines = []; shape = cut_set later; played = still d s }

-- so many turns, of which all is printed
pub record TurnsHad {O S : Type 0} (E : engine.Ghosts O) (K : sink.Ghosts S) (n : ℕ) (d e : Desk O) (s t : S) : Type 0 where
  pub row : List Event
  pub shape : Turns n row
  pub played : Played E K row (lines_of row) d e s t

pub turns_begin : {O S : Type 0} {E : engine.Ghosts O} {K : sink.Ghosts S} (d : Desk O) (s : S) → TurnsHad E K 0 d d s s
turns_begin d s = record { row = []; shape = no_turn; played = still d s }

-- what a turn told, as lines
pub told_lines : {S : Type 0} {K : sink.Ghosts S} {s t : S} (told : Option (ℕ × Answer)) → SaysTold K told s t → Says K (line_of (Turn (Ok told))) s t
told_lines {S} {K} {s} {t} None same = subst (λ x. Says K [] s x) (sym same) (none s)
told_lines {s} (Some p) says = more (none s) says

pub turns_more : {O S : Type 0} {E : engine.Ghosts O} {K : sink.Ghosts S} {n : ℕ} (told : Option (ℕ × Answer)) {d e f : Desk O} {s t u v : S} → TurnsHad E K n d e s t → Step E (Turn (Ok told)) e f → u ≡ t → SaysTold K told u v → TurnsHad E K (n + 1) d f s v
turns_more {K} told {v} p step same says = record { row = Turn (Ok told) ∷ p.row; shape = one_more told p.shape; played = record { goes = more p.played.goes step; says = chain_append p.played.says (told_lines told (subst (λ x. SaysTold K told x v) same says)) } }

pub turns_lost : {O S : Type 0} {E : engine.Ghosts O} {K : sink.Ghosts S} {n : ℕ} {g : Gone} {d e f h : Desk O} {s t u v : S} → TurnsHad E K n d e s t → Step E (Turn (Err g)) e f → u ≡ t → Restarts E K f h u v → TurnsHad E K (n + 1) d h s v
turns_lost {g} p step same restart = record { row = (restart.row ++ (PowerCut ∷ [])) ++ (Turn (Err g) ∷ p.row); shape = one_lost restart.row p.row p.shape restart.shape; played = and_all (and_on p.played (a_turn step same)) restart.played }

pub turns_had : {O S : Type 0} {E : engine.Ghosts O} {K : sink.Ghosts S} {m n : ℕ} {d e : Desk O} {s t : S} → TurnsHad E K m d e s t → m ≤ n → (IsSome e.office → m ≡ n) → Plays E K (command.Turn n) d e s t
turns_had {m} p most all = record { row = p.row; lines = lines_of p.row; shape = office_turns m p.row p.shape most all; played = p.played }

-- a row of which nothing is printed, and another after it
pub and_on_silent : {O S : Type 0} {E : engine.Ghosts O} {K : sink.Ghosts S} {row row' : List Event} {lines : List Line} {d e f : Desk O} {s t u : S} → Played E K row [] d e s t → Played E K row' lines e f t u → Played E K (row' ++ row) lines d f s u
and_on_silent {K} {lines} {s} {u} p q = record { goes = chain_append p.goes q.goes; says = subst (λ x. Says K x s u) (append-nil lines) (chain_append p.says q.says) }

-- a look that isn't begun
pub not_looked : {O S : Type 0} {E : engine.Ghosts O} {K : sink.Ghosts S} (reader : ℕ) (op : Op) (d : Desk O) (s : S) → Happens E K (Look reader op None) d d s s
not_looked reader op d s = record { row = []; lines = []; shape = unasked; played = still d s }

pub looked : {O S : Type 0} {E : engine.Ghosts O} {K : sink.Ghosts S} {reader : ℕ} {op : Op} {r : Option Answer} {d e : Desk O} {s t : S} → Happens E K (Asks reader op r) d e s t → Happens E K (Look reader op r) d e s t
looked p = record { row = p.row; lines = p.lines; shape = asked_it p.shape; played = p.played }

-- an asking, and then the wait
pub asks_first : {O S : Type 0} {E : engine.Ghosts O} {K : sink.Ghosts S} {reader : ℕ} {op : Op} {d e f : Desk O} {s t : S} (gave : Result (Option Answer) Gone) → Step E (Asking reader op) d e → Waited E K reader gave e f s t → Happens E K (Asks reader op (option_flatten (result_ok gave))) d f s t
asks_first {reader} {op} {d} {s} (Ok (Some a)) step w = record { row = w.row ++ (Asking reader op ∷ []); lines = lines_before reader (Ok (Some a)) w.row; shape = told_it w.row w.shape; played = and_on_silent (and_then (Asking reader op) (still d s) step) w.played }
asks_first {reader} {op} {d} {s} (Ok None) step w = record { row = w.row ++ (Asking reader op ∷ []); lines = lines_of w.row; shape = untold w.shape; played = and_on_silent (and_then (Asking reader op) (still d s) step) w.played }
asks_first {reader} {op} {d} {s} (Err g) step w = record { row = w.row ++ (Asking reader op ∷ []); lines = lines_of w.row; shape = cut_off w.shape; played = and_on_silent (and_then (Asking reader op) (still d s) step) w.played }

-- nothing is read yet
pub reads_begin : {O S : Type 0} {E : engine.Ghosts O} {K : sink.Ghosts S} (reader k : ℕ) (d : Desk O) (s : S) → Happens E K (Reads reader k k) d d s s
reads_begin reader k d s = record { row = []; lines = []; shape = at_key k; played = still d s }

pub reads_pair : {O S : Type 0} {E : engine.Ghosts O} {K : sink.Ghosts S} {reader k l j x : ℕ} {r : Option Answer} {d e f : Desk O} {s t u v : S} → Happens E K (Reads reader k l) d e s t → Happens E K (Look reader (Next l) r) e f t u → pair_in r ≡ Some (j, x) → K.said u (Entry j x) v → Happens E K (Reads reader k j) d f s v
reads_pair {j} {x} p look is says = record { row = look.row ++ p.row; lines = Entry j x ∷ (look.lines ++ p.lines); shape = pair p.shape look.shape is; played = and_says (Entry j x) (and_on p.played look.played) says }

pub reads_undone : {O S : Type 0} {E : engine.Ghosts O} {K : sink.Ghosts S} {reader k l : ℕ} {a : Answer} {d e f : Desk O} {s t u : S} → Happens E K (Reads reader k l) d e s t → Happens E K (Look reader Undo (Some a)) e f t u → Happens E K (Reads reader k l) d f s u
reads_undone p look = record { row = look.row ++ p.row; lines = look.lines ++ p.lines; shape = undone p.shape look.shape; played = and_on p.played look.played }

-- the undo is told, whatever it is
pub reads_undone' : {O S : Type 0} {E : engine.Ghosts O} {K : sink.Ghosts S} {reader k l : ℕ} (r : Option Answer) {d e f : Desk O} {s t u : S} → Happens E K (Reads reader k l) d e s t → Happens E K (Look reader Undo r) e f t u → is_none r ≡ false → Happens E K (Reads reader k l) d f s u
reads_undone' (Some a) p look _ = reads_undone p look
reads_undone' None p look told = cc

pub reads_end : {O S : Type 0} {E : engine.Ghosts O} {K : sink.Ghosts S} {reader l : ℕ} {r : Option Answer} {d e f : Desk O} {s t u : S} → Happens E K (Reads reader 0 l) d e s t → Happens E K (Look reader (Next l) r) e f t u → pair_in r ≡ None → Happens E K (ReadsOn reader) d f s u
reads_end p look is = record { row = look.row ++ p.row; lines = look.lines ++ p.lines; shape = no_pair p.shape look.shape is; played = and_on p.played look.played }

pub reads_stop : {O S : Type 0} {E : engine.Ghosts O} {K : sink.Ghosts S} {reader l : ℕ} {d e f : Desk O} {s t u : S} → Happens E K (Reads reader 0 l) d e s t → Happens E K (Look reader Undo None) e f t u → Happens E K (ReadsOn reader) d f s u
reads_stop p look = record { row = look.row ++ p.row; lines = look.lines ++ p.lines; shape = not_undone p.shape look.shape; played = and_on p.played look.played }

pub reads_stop' : {O S : Type 0} {E : engine.Ghosts O} {K : sink.Ghosts S} {reader l : ℕ} (r : Option Answer) {d e f : Desk O} {s t u : S} → Happens E K (Reads reader 0 l) d e s t → Happens E K (Look reader Undo r) e f t u → is_none r ≡ true → Happens E K (ReadsOn reader) d f s u
reads_stop' (Some a) p look false_true = cc
reads_stop' None p look _ = reads_stop p look

-- the word of key 0, and the pairs above
pub book_from_word : {O S : Type 0} {E : engine.Ghosts O} {K : sink.Ghosts S} {reader x : ℕ} {r : Option Answer} {d e f : Desk O} {s t u v : S} → Happens E K (Asks reader (Get 0) r) d e s t → found_in r ≡ Some (Some x) → K.said t (Entry 0 x) u → Happens E K (ReadsOn reader) e f u v → Happens E K (BookRead reader) d f s v
book_from_word {x} look is says p = record { row = p.row ++ look.row; lines = p.lines ++ (Entry 0 x ∷ look.lines); shape = word_first look.shape is p.shape; played = and_on (and_says (Entry 0 x) look.played says) p.played }

pub book_from_pairs : {O S : Type 0} {E : engine.Ghosts O} {K : sink.Ghosts S} {reader : ℕ} {r : Option Answer} {d e f : Desk O} {s t u : S} → Happens E K (Asks reader (Get 0) r) d e s t → found_in r ≡ Some None → Happens E K (ReadsOn reader) e f t u → Happens E K (BookRead reader) d f s u
book_from_pairs look is p = record { row = p.row ++ look.row; lines = p.lines ++ look.lines; shape = pairs_only look.shape is p.shape; played = and_on look.played p.played }

pub book_unread : {O S : Type 0} {E : engine.Ghosts O} {K : sink.Ghosts S} {reader : ℕ} {r : Option Answer} {d e : Desk O} {s t : S} → Happens E K (Asks reader (Get 0) r) d e s t → found_in r ≡ None → Happens E K (BookRead reader) d e s t
book_unread look is = record { row = look.row; lines = look.lines; shape = unread look.shape is; played = look.played }

pub book_ends : {O S : Type 0} {E : engine.Ghosts O} {K : sink.Ghosts S} {reader : ℕ} {r : Option Answer} {d e f : Desk O} {s t u v : S} → FirstFree d.seats (Some reader) → Happens E K (BookRead reader) d e s t → Happens E K (Look reader Undo r) e f t u → K.said u End v → Plays E K command.Book d f s v
book_ends free p look says = record { row = look.row ++ p.row; lines = End ∷ (look.lines ++ p.lines); shape = book_read free p.shape look.shape; played = and_says End (and_on p.played look.played) says }

pub no_reader : {O S : Type 0} {E : engine.Ghosts O} {K : sink.Ghosts S} {d : Desk O} {s t : S} → FirstFree d.seats None → K.said s End t → Plays E K command.Book d d s t
no_reader {d} {s} busy says = record { row = []; lines = End ∷ []; shape = unread_book busy; played = and_says End (still d s) says }
