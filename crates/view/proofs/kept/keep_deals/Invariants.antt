use Rattle.std.proofs.Common.{◌≡◌, ℕ, ◌<◌, ◌≤◌, map, get_or}
use Rattle.lines.specs.declared.ring.Ring.{Ring}
use Rattle.lines.specs.Tables.{deal_lines, queue_lines, behind}
use Rattle.view.specs.Upkeep.{kept_by}
use Rattle.view.proofs.kept.keep_deals.Given as goal

abbrev pub invariant-loop-deal : goal.invariant-loop-deal
invariant-loop-deal l =
    record {
      done : (d : ℕ) → d < l.deal → deal_lines l.room d (get_or l.counts d 0) ≡ map (kept_by l.change) (deal_lines l.initial.room d (get_or l.counts d 0));
      others : (d : ℕ) → d < 32 → l.deal ≤ d → deal_lines l.room d (get_or l.counts d 0) ≡ deal_lines l.initial.room d (get_or l.counts d 0);
      queue : (r : Ring) → queue_lines l.room r ≡ queue_lines l.initial.room r;
      behind : behind l.room ≡ behind l.initial.room;
    }
