-- What a disk means, and what a cut may leave of it.
use Rattle.std.specs.Prelude.{◌≡◌, ℕ, zero, suc, ◌<◌, ◌≤◌, false, List, [], ◌++◌, length, drop, replicate, ◌≢◌}
use Rattle.store.specs.declared.head.Record.{Record}
use Rattle.store.specs.declared.head.Root.{Root}
use Rattle.store.specs.Medium.{Medium, Stays, Back, over}
use Rattle.store.specs.Head.{Head, head_of, Sound, records_in, slot, ring_page, target}

pub record State : Type 0 where
  pub root : Root
  pub queue : List Record
  pub page : ℕ → List ℕ

-- the records of k full pages
unfoldable pub rows : ℕ → (ℕ → List ℕ) → List Record
rows zero f = []
rows (suc k) f = rows k f ++ records_in 128 (f k)

-- what pages that show s mean by the head h
abbrev pub queue_by : Head → (ℕ → List ℕ) → List Record
queue_by h s = drop h.done (rows h.full (λ i. s (ring_page h i)) ++ h.own)

abbrev pub page_by : Head → (ℕ → List ℕ) → ℕ → List ℕ
page_by h s = over (length h.targets) (target h) (λ k. s (slot h k)) s

abbrev pub state_by : Head → (ℕ → List ℕ) → State
state_by h s = record { root = h.root; queue = queue_by h s; page = page_by h s }

abbrev pub state_of : (ℕ → List ℕ) → State
state_of s = state_by (head_of (s 0)) s

-- two states of a disk of n pages are one
pub record Same (n : ℕ) (x y : State) : Type 0 where
  pub root : x.root ≡ y.root
  pub queue : x.queue ≡ y.queue
  pub page : (p : ℕ) → 393 ≤ p → p < n → x.page p ≡ y.page p

-- the pages that a head counts on, beside its own
pub data Relies (n : ℕ) (h : Head) (p : ℕ) : Type 0 where
  image : (k : ℕ) → k < length h.targets → p ≡ slot h k → Relies n h p
  ring : (i : ℕ) → i < h.full → p ≡ ring_page h i → Relies n h p
  plain : 393 ≤ p → p < n → ((k : ℕ) → k < length h.targets → p ≢ target h k) → Relies n h p

-- a cut leaves what h counts on as it's shown
abbrev pub Firm : Medium → Head → Type 0
Firm m h = (p : ℕ) → Relies m.pages h p → Stays m p (m.shown p)

pub record Safe (m : Medium) : Type 0 where
  pub big : 393 ≤ m.pages
  pub head : Sound m.pages (head_of (m.shown 0))
  pub first : Stays m 0 (m.shown 0)
  pub firm : Firm m (head_of (m.shown 0))

-- the last batch's pages stand where they belong
abbrev pub Installed : Medium → Type 0
Installed m = (p : ℕ) → 393 ≤ p → p < m.pages → page_by (head_of (m.shown 0)) m.shown p ≡ m.shown p

pub record Kept (m : Medium) : Type 0 where
  pub safe : Safe m
  pub put : Installed m

-- the power has come back
pub record Rested (m : Medium) : Type 0 where
  pub big : 393 ≤ m.pages
  pub head : Sound m.pages (head_of (m.shown 0))
  pub all : (p : ℕ) → p < m.pages → Stays m p (m.shown p)

-- the power is off, and whatever comes back is at rest and means what P says
pub record Cut (n : ℕ) (P : State → Type 0) (e : Medium) : Type 0 where
  pub off : e.on ≡ false
  pub pages : e.pages ≡ n
  pub back : (f : Medium) → Back e f → Rested f × P (state_of f.shown)

-- no tree, no queue, and noughts everywhere
abbrev pub empty : State
empty = record { root = record { page = 0; height = 0; pairs = 0; free = 0; used = 0 }; queue = []; page = λ _. replicate 512 0 }
