-- What is known of a device: its pages, what a power cut may leave of each, and how often it may still be asked.
use Rattle.std.specs.Prelude.{◌≡◌, ℕ, zero, suc, ◌+◌, ◌<◌, ◌≤◌, Bool, true, false, cond, not, T, ◌⊎◌, List, replicate, ◌==◌, ◌≢◌}
use mathlib.Core.List.{Memᴰ}

-- shown: what is read; may: what a cut may leave, of each page for itself
pub record Medium : Type 0 where
  pub pages : ℕ
  pub shown : ℕ → List ℕ
  pub may : ℕ → List (List ℕ)
  pub on : Bool
  pub left : ℕ

abbrev pub at : {A : Type 0} → ℕ → A → (ℕ → A) → ℕ → A
at p x f q = cond (q == p) x (f q)

-- s with the first k pages of a batch written, one after the other
unfoldable pub over : ℕ → (ℕ → ℕ) → (ℕ → List ℕ) → (ℕ → List ℕ) → ℕ → List ℕ
over zero t i s = s
over (suc k) t i s = at (t k) (i k) (over k t i s)

abbrev pub MayAsk : Medium → ℕ → Type 0
MayAsk d p = (0 < d.left) × (p < d.pages)

-- a cut can leave nothing but b of page p
abbrev pub Stays : Medium → ℕ → List ℕ → Type 0
Stays d p b = (x : List ℕ) → Memᴰ x (d.may p) → x ≡ b

-- a page was read, or the power went
pub record Reads (d : Medium) (p : ℕ) (b : List ℕ) (ok : Bool) (e : Medium) : Type 0 where
  pub pages : e.pages ≡ d.pages
  pub left : d.left ≤ e.left + 1
  pub on : e.on ≡ ok
  pub shown : e.shown ≡ d.shown
  pub may : e.may ≡ d.may
  pub got : T ok → b ≡ d.shown p

-- a page was written by m askings, or perhaps written; where the power goes nothing is said of what is left to ask
pub record Wrote (m : ℕ) (d : Medium) (p : ℕ) (b : List ℕ) (ok : Bool) (e : Medium) : Type 0 where
  pub pages : e.pages ≡ d.pages
  pub left : T ok → d.left ≤ e.left + m
  pub on : e.on ≡ ok
  pub shown : T ok → e.shown ≡ at p b d.shown
  pub here : (x : List ℕ) → Memᴰ x (e.may p) → (x ≡ b) ⊎ Memᴰ x (d.may p)
  pub other : (q : ℕ) → (q ≢ p) → (x : List ℕ) → Memᴰ x (e.may q) → Memᴰ x (d.may q)

-- what is shown has lasted, or the power went
pub record Synced (d : Medium) (ok : Bool) (e : Medium) : Type 0 where
  pub pages : e.pages ≡ d.pages
  pub left : T ok → d.left ≤ e.left + 1
  pub on : e.on ≡ ok
  pub shown : e.shown ≡ d.shown
  pub all : T ok → (q : ℕ) → Stays e q (d.shown q)
  pub less : T (not ok) → (q : ℕ) (x : List ℕ) → Memᴰ x (e.may q) → Memᴰ x (d.may q)

-- n pages were written by m askings, one after the other, or some of them
pub record WroteAll (m n : ℕ) (t : ℕ → ℕ) (i : ℕ → List ℕ) (d : Medium) (ok : Bool) (e : Medium) : Type 0 where
  pub pages : e.pages ≡ d.pages
  pub left : T ok → d.left ≤ e.left + m
  pub on : T (not ok) → e.on ≡ false
  pub shown : T ok → e.shown ≡ over n t i d.shown
  pub other : (q : ℕ) → ((k : ℕ) → k < n → q ≢ t k) → (x : List ℕ) → Memᴰ x (e.may q) → Memᴰ x (d.may q)

-- the power comes back
pub record Back (d e : Medium) : Type 0 where
  pub same : e.pages ≡ d.pages
  pub lit : e.on ≡ true
  pub each : (p : ℕ) → p < d.pages → Memᴰ (e.shown p) (d.may p)
  pub only : (p : ℕ) → Stays e p (e.shown p)

-- nothing was ever written
pub record Blank (d : Medium) : Type 0 where
  pub big : 1024 ≤ d.pages
  pub shown : (p : ℕ) → p < d.pages → d.shown p ≡ replicate 512 0
  pub may : (p : ℕ) → Stays d p (replicate 512 0)
