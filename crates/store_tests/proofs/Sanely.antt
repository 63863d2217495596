-- A bench stays sane.
use Rattle.std.proofs.Common.{◌≡◌, ℕ, true, false, T, List, Ok, Err, Result, MatchResult, if◌then◌else◌, nat_eq, sym, subst, Bool}
use Rattle.std.specs.declared.ops.Range.{Range}
use Rattle.pages.specs.declared.Gone.{Gone}
use Rattle.deals.specs.Disk.{Disk, Blank}
use Rattle.deals.specs.Drives.{medium_of}
use Rattle.deals.proofs.Drives.{blank}
use Rattle.memdisk.specs.Memory.{unlit}
use Rattle.store.specs.declared.Store.{Store}
use Rattle.store.specs.declared.head.Record.{Record}
use Rattle.store.specs.declared.head.Root.{Root}
use Rattle.store.specs.Medium.{Medium, Back}
use Rattle.store.specs.State.{State, Rested, Cut}
use Rattle.store.specs.Store.{Intact, Lost, Appends, Seals, Shoots, Takes, Gets, Given, Opened}
use Rattle.store.specs.Queue.{Loaded}
use Rattle.store.proofs.Media.{safe_back, blank_rested, rested_safe}
use Rattle.store.proofs.Views.{intact_on}
use Rattle.store_tests.specs.Bench.{Sane}

pub sane_up : (m : Medium) (part : List ℕ) (s : Store) → Intact m part s → Sane m part s
sane_up m part s i = record { up = λ _. i; down = λ f b. (safe_back m f i.ready.kept.safe b).0 }

pub sane_cut : (m : Medium) (part : List ℕ) (s : Store) (n : ℕ) (P : State → Type 0) → Cut n P m → Sane m part s
sane_cut m part s n P c = record { up = λ t. absurd (subst (λ b. T b) c.off t); down = λ f b. (c.back f b).0 }

-- how often the disk may be asked doesn't matter
pub sane_left : (m : Medium) (n : ℕ) (part : List ℕ) (s : Store) → Sane m part s → Sane (record { pages = m.pages; shown = m.shown; may = m.may; on = m.on; left = n }) part s
sane_left m n part s y = record { up = λ t. intact_on m m.on n part s (y.up t); down = λ f b. y.down f (record { same = b.same; lit = b.lit; each = b.each; only = b.only }) }

pub rested_left : (m : Medium) (n : ℕ) → Rested m → Rested (record { pages = m.pages; shown = m.shown; may = m.may; on = m.on; left = n })
rested_left m n r = record { big = r.big; head = r.head; all = r.all }

-- nor do the root, and what is worked in
pub sane_noted : (m : Medium) (part : List ℕ) (s : Store) (r : Root) (k : ℕ) → Sane m part s → Sane m part (record { fresh = s.fresh; imaged = s.imaged; lasted = s.lasted; root = r; worked = k })
sane_noted m part s r k y = record {
  up = λ t. let i = y.up t in record { long = i.long; ready = i.ready; table = i.table; clean = i.clean; plain = i.plain; pins = i.pins; images = i.images };
  down = y.down;
}

-- the power goes
pub sane_unlit : (d : Disk) (part : List ℕ) (s : Store) → ((f : Medium) → Back (medium_of d) f → Rested f) → Sane (medium_of (unlit d)) part s
sane_unlit d part s y = record { up = λ t. absurd t; down = λ f b. y f (record { same = b.same; lit = b.lit; each = b.each; only = b.only }) }

pub sane_set : (d : Disk) (n : ℕ) (part : List ℕ) (s : Store) → Sane (medium_of d) part s → Sane (medium_of (if nat_eq n 0 then unlit d else d)) part s
sane_set d n part s y = elim (nat_eq n 0) as (λ b. Sane (medium_of (if b then unlit d else d)) part s) [ true ↦ sane_unlit d part s y.down | false ↦ y ]

pub sane_new : (d e : Disk) (part : List ℕ) (s : Store) → Blank d → e ≡ unlit d → Sane (medium_of e) part s
sane_new d e part s b u = subst (λ (x : Disk). Sane (medium_of x) part s) (sym u) (sane_unlit d part s (λ f y. (safe_back (medium_of d) f (rested_safe (blank_rested (medium_of d) (blank b))) y).0))

-- after each act
pub opened_sane : (m e : Medium) (q : List ℕ) (r : Result Store Gone) → MatchResult r (λ z. Opened m e q z) (λ _. Lost m e) → MatchResult r (λ z. Sane e q z) (λ _. (z : Store) → Sane e q z)
opened_sane m e q (Ok z) y = sane_up e q z y.intact
opened_sane m e q (Err x) y = λ z. sane_cut e q z _ _ y

pub sane_appended : (m e : Medium) (p q : List ℕ) (s z : Store) (r : Record) (ok : Bool) → Appends m p s r ok e q z → Sane e q z
sane_appended m e p q s z r true y = sane_up e q z y.intact
sane_appended m e p q s z r false y = sane_cut e q z _ _ y

pub sane_sealed : (m e : Medium) (p : List ℕ) (s z : Store) (ok : Bool) → Seals m p s ok e z → Sane e p z
sane_sealed m e p s z true y = sane_up e p z y.intact
sane_sealed m e p s z false y = sane_cut e p z _ _ y

pub sane_shot : (m e : Medium) (p : List ℕ) (s z : Store) (ok : Bool) → Shoots m p s ok e z → Sane e p z
sane_shot m e p s z true y = sane_up e p z y.intact
sane_shot m e p s z false y = sane_cut e p z _ _ y

pub sane_taken : (m e : Medium) (p q : List ℕ) (s z : Store) (ok : Bool) → Takes m p s ok e q z → Sane e q z
sane_taken m e p q s z true y = sane_up e q z y.intact
sane_taken m e p q s z false y = sane_cut e q z _ _ y

pub sane_got : (m e : Medium) (p q : List ℕ) (s : Store) (x : ℕ) (b : List ℕ) (ok : Bool) → Gets m p s x b ok e q → Sane e q s
sane_got m e p q s x b true y = sane_up e q s y.intact
sane_got m e p q s x b false y = sane_cut e q s _ _ y

pub sane_given : (m e : Medium) (p q : List ℕ) (s z : Store) (r : Result ℕ Gone) → MatchResult r (λ x. Given m p s x e q z) (λ _. Lost m e) → Sane e q z
sane_given m e p q s z (Ok x) y = sane_up e q z y.intact
sane_given m e p q s z (Err x) y = sane_cut e q z _ _ y

pub sane_loaded : (m e : Medium) (p q : List ℕ) (s : Store) (i : ℕ) (r : Result (Range ℕ) Gone) → MatchResult r (λ x. Loaded m p s i x e q) (λ _. Lost m e) → Sane e q s
sane_loaded m e p q s i (Ok x) y = sane_up e q s y.intact
sane_loaded m e p q s i (Err x) y = sane_cut e q s _ _ y
