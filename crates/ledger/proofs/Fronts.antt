-- What the view's change of the tree says of the store.
use Rattle.std.proofs.Common.{◌≡◌, ℕ, ◌+◌, ◌<◌, true, List, Result, Ok, Err, refl, sym, subst}
use Rattle.std.specs.Result.{IfOk, OnOk}
use Rattle.lines.specs.declared.ring.Ring.{Ring}
use Rattle.lines.specs.Tables.{deal_lines, queue_lines, QueueIn}
use Rattle.store.specs.declared.Store.{Store}
use Rattle.store.specs.Medium.{Medium}
use Rattle.tree.proofs.Sizes.{rising_keys}
use Rattle.view.specs.Asks.{ChangeSpent}
use Rattle.view.specs.Room.{Applied}
use Rattle.view.specs.Upkeep.{SuccOk}
use Rattle.view.specs.Writes.{Rising}
use Rattle.pager.specs.Ground.{still}
use Rattle.pager.specs.Volume.{Paged, view_of, pairs_in}
use Rattle.treeindex.specs.Behind.{part_in, budget_of, Onto, came}
use Rattle.ledger.specs.Ledger.{part_of}
use Rattle.ledger.specs.Works.{Goes}
use Rattle.std.specs.Prelude.{slice_index}

-- before any call
pub at_rest : (m : Medium) (v : List ℕ) (s : Store) → Paged m (part_in v) s → Onto m v s true m v s
at_rest m v s h = came (record { paged = h; pages = refl; shown = refl; long = refl; rest = refl; head = refl; store = refl })

pub rising_in : (m : Medium) (part : List ℕ) (s : Store) → Paged m part s → Rising (pairs_in m part s)
rising_in m part s h = (18446744073709551616, rising_keys (still m.pages s.root (view_of m part)) s.root.height s.root.page h.ground.sound)

-- f and y are the disk and what is noted, under other names
pub goes_of : {E : Type 0} (o : Result Ring E) (ns : List ℕ) (r : Ring) (m : Medium) (room : List ℕ) (s : Store) (e f : Medium) (then : List ℕ) (z y : Store) → f ≡ e → y ≡ z →
    IfOk o (λ q. Applied (pairs_in m (part_of room) s) (pairs_in e (part_of then) z) room then ns r q) → IfOk o (λ q. SuccOk (pairs_in e (part_of then) z) (queue_lines then q)) →
    OnOk o ((c : ℕ) → c < 32 → SuccOk (pairs_in m (part_of room) s) (deal_lines room c (slice_index ns c)) → SuccOk (pairs_in e (part_of then) z) (deal_lines then c (slice_index ns c))) →
    IfOk o (λ q. QueueIn then q × (q.count + 1 ≡ r.count)) → OnOk o (ChangeSpent (budget_of m) (budget_of e)) → IfOk o (λ q. Goes ns r m room s f then y q)
goes_of (Ok q) ns r m room s e f then z y fe yz a k d g t =
    subst (λ x. Goes ns r m room s x then y q) (sym fe) (subst (λ x. Goes ns r m room s e then x q) (sym yz) (record { applied = a; succs = k; deals = d; ring = g.0; count = g.1; left = t }))
goes_of (Err x) ns r m room s e f then z y fe yz a k d g t = tt
