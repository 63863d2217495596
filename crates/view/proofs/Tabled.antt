-- Rooms with the same tables: a deal sees the same lines.
use Rattle.std.proofs.Common.{◌≡◌, ℕ, List, length, refl, ◌∙◌}
use Rattle.lines.specs.declared.ring.Ring.{Ring}
use Rattle.lines.specs.Tables.{tables, QueueIn}
use Rattle.lines.proofs.Parts.{same_deals, same_queue}
use Rattle.view.specs.declared.seen.View.{View}
use Rattle.view.specs.Room.{Stands, own_of, queue_of, said_in, pairs_seen}
use Rattle.view.proofs.Found.{Pairs}

pub queue_in_on : (w v : List ℕ) (r : Ring) → length v ≡ length w → QueueIn w r → QueueIn v r
queue_in_on w v r long q = record { room = long ∙ q.room; cap = q.cap; start = q.start; count = q.count }

module _ (w v : List ℕ) (x : View) (long : length v ≡ length w) (same : tables v ≡ tables w) (s : Stands w x) where
  pub stands_on : Stands v x
  stands_on = record { own = record { room = long ∙ s.own.room; deal = s.own.deal; count = s.own.count }; queue = queue_in_on w v x.queue long s.queue }

  pub own_on : own_of v x ≡ own_of w x
  own_on = same_deals w v long same x.deal x.count s.own.deal

  pub queue_on : queue_of v x ≡ queue_of w x
  queue_on = same_queue w v long same x.queue

  pub said_on : said_in v x ≡ said_in w x
  said_on = rw (own_on, queue_on) refl

  pub seen_on : (t u : Pairs) → u ≡ t → pairs_seen u v x ≡ pairs_seen t w x
  seen_on t u e = rw (own_on, queue_on, e)
