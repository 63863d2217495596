-- The tree is asked in between.
use Rattle.std.proofs.Common.{◌≡◌, ℕ, ◌-◌, ◌*◌, ◌≤◌, List, refl, arith}
use Rattle.node.specs.Pairs.{above}
use Rattle.store.specs.declared.Store.{Store}
use Rattle.store.specs.Medium.{Medium}
use Rattle.view.specs.Upkeep.{key_of, next_key}
use Rattle.pager.specs.Volume.{Leaves}

pub above_key : (k : ℕ) (t : List (ℕ × ℕ)) → key_of (above k t) ≡ next_key k t
unfolding next_key
above_key k t = refl

-- so many askings are enough for a low tree
pub in_eleven : (t : List (ℕ × ℕ)) (m : Medium) (p : List ℕ) (s : Store) (e : Medium) (q : List ℕ) (z : Store) → s.root.height ≤ 6 → Leaves t (2 * s.root.height - 1) 0 m p s e q z → Leaves t 11 0 m p s e q z
in_eleven t m p s e q z h l = record { paged = l.paged; pairs = l.pairs; pages = l.pages; shown = l.shown; head = l.head; store = l.store; spare = l.spare; left = omega (arith, l.left, h) }
