-- The store's part of the room is lent, and written.
use Rattle.std.proofs.Common.{◌≡◌, ℕ, List, length, ap, ◌∙◌, arith}
use borrow.Rule.Slice.PartMut.{put_mid, put_same}
use Rattle.std.proofs.lemmas.List.{take_all, length-take, length-drop}
use Rattle.lines.specs.declared.ring.Ring.{Ring}
use Rattle.lines.specs.Tables.{queue_lines}
use Rattle.std.proofs.lemmas.Slice.{drop-put_mid}
use Rattle.pages.proofs.Mid.{length_put_mid, part_same, part_below}
use Rattle.lines.proofs.Parts.{same_deals, same_queue}
use Rattle.ledger.specs.Ledger.{part_of, OnlyPart, Aside}

-- q is the store's part of the room now, and the rest of it is as it was
pub record Lent (room then q : List ℕ) : Type 0 where
  pub only : OnlyPart room then
  pub part : part_of then ≡ q

pub lent : (room q : List ℕ) → length room ≡ 262144 → length q ≡ length (part_of room) → Lent room (put_mid 196608 62976 room q) q
lent room q size long =
    let same : length q ≡ 62976 = long ∙ simp (length-take, length-drop) (omega arith) in
    record {
      only = record {
        long = length_put_mid 196608 62976 room q (omega arith) same;
        tables = part_below 196608 62976 room q (omega arith) same 0 196608 (omega arith);
        clerks = drop-put_mid 196608 62976 room q 259584 (omega arith) (omega arith) same;
      };
      part = part_same 196608 62976 room q (omega arith) same 62976 (omega arith) ∙ take_all 62976 q (omega arith);
    }

pub lent_same : (room q : List ℕ) → q ≡ part_of room → put_mid 196608 62976 room q ≡ room
lent_same room q e = ap (put_mid 196608 62976 room) e ∙ put_same 196608 62976 room

pub only_queue : (room then : List ℕ) → OnlyPart room then → (r : Ring) → queue_lines then r ≡ queue_lines room r
only_queue room then o = same_queue room then o.long o.tables

pub only_aside : (room then : List ℕ) → OnlyPart room then → Aside room then
only_aside room then o = record { long = o.long; deals = λ c n l. same_deals room then o.long o.tables c n l; clerks = o.clerks }
