-- A put or a drop on the ground: pages that belong to the tree or the free list before do so after.
use Rattle.std.proofs.Common.{◌≡◌, ℕ, ◌+◌, Bool, cond, length, ap, arith}
use Rattle.store.specs.declared.head.Root.{Root}
use Rattle.tree.specs.State.{PageState}
use Rattle.tree.specs.Grow.{Grown, New}
use Rattle.tree.specs.Shrink.{Dropped, Was}
use Rattle.tree.proofs.Sizes.{rising_keys}
use Rattle.tree.proofs.Counts.{put_count, drop_count}
use Rattle.pager.specs.Ground.{taken_by, Frees, pairs_by, still, Grounded}
use Rattle.pager.proofs.Grounds.{ground_step}

module _ (p : ℕ) (r s : Root) (d e : PageState) (k : ℕ) (g : Grounded p r d.page) (f : Frees p s e.page) (dt : (q : ℕ) → d.taken q ≡ taken_by r d.page q) (et : (q : ℕ) → e.taken q ≡ taken_by s e.page q) where
  pub ground_put : (x : ℕ) (new : Bool) → Grown d e r.height r.page k x s.height s.page → New k (pairs_by r d.page) new → s.pairs ≡ r.pairs + cond new 1 0 → Grounded p s e.page
  ground_put x new gr n c = ground_step p r s d e g f dt et gr.sound gr.pages (omega (arith, c, g.pairs, ap length gr.pairs, put_count k x (pairs_by r d.page) new (rising_keys (still p r d.page) r.height r.page g.sound) n))

  pub ground_drop : (was : Bool) → Dropped d e r.height r.page k s.height s.page → Was k (pairs_by r d.page) was → r.pairs ≡ s.pairs + cond was 1 0 → Grounded p s e.page
  ground_drop was dr w c = ground_step p r s d e g f dt et dr.sound dr.pages (omega (arith, c, g.pairs, ap length dr.pairs, drop_count k (pairs_by r d.page) was w))
